use Rattle.std.proofs.Common.{ℕ, refl, sym, ◌∙◌}
use Rattle.packed.proofs.Order.{change-lookup, change-absent}
use Rattle.rules.specs.declared.unit.LogicalUnit.{LogicalUnit}
use Rattle.layout.proofs.holders.rekey_unit.Goals as goal

abbrev number_of : LogicalUnit → ℕ
number_of u = u.number

abbrev keyed : ℕ → LogicalUnit → LogicalUnit
keyed serial u = record { number = u.number; blocks = u.blocks; serial = serial }

pub returns-in-Some : goal.returns-in-Some
returns-in-Some c =
    c.replace.ensures.list
    ∙ change-lookup number_of c.args.number (keyed c.args.serial) c.in-Some.unit c.args.units.now (sym c.in-Some.ensures.found) refl

pub returns-in_default : goal.returns-in_default
returns-in_default c =
    sym (change-absent number_of c.args.number (keyed c.args.serial) c.args.units.now (sym c.in_default.ensures.found))
