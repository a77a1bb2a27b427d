use Rattle.std.proofs.Common.{ap, ◌∙◌, set, map, get_or, false, refl, arith}
use Rattle.rules.specs.declared.row.Kind.TheVariants.{Free}
use Rattle.rules.specs.declared.row.Row.{Row}
use Rattle.rules.specs.declared.row.Standing.{Standing}
use Rattle.rules.specs.declared.row.Standing.TheVariants.{Shared}
use Rattle.rules.specs.Methods.{reactivated_row}
use Rattle.rules.specs.Rows.{blank, numbered}
use Rattle.layout.proofs.InPlace.{changed, changed-more, changed-all, length-changed}
use Rattle.layout.proofs.rows.Rows.reactivate.Goals as goal

-- what stands for an element past the end
abbrev past_end : Row
past_end = record {
  kind = Free;
  standing = Shared;
  flags = record { read_lock_enabled = false; write_lock_enabled = false; read_locked = false; write_locked = false; lock_on_reset = false };
}

pub loop-i-init : goal.loop-i-init
unfolding changed
loop-i-init c = refl

pub invariant_of-self : goal.invariant_of-self
invariant_of-self c = rw c.loop-i.invariant (length-changed (reactivated_row c.args.selection) 0 c.loop-i.i c.self.inside.list ∙ c.self.invariant)

pub loop-i-preserved : goal.loop-i-preserved
loop-i-preserved c =
    let old : Row = get_or c.loop-i.row-items c.loop-i.i past_end in
    ap (set c.loop-i.row-items c.loop-i.i) c.reactivate.ensures
    ∙ ap (λ (s : Standing). set c.loop-i.row-items c.loop-i.i (record { kind = old.kind; standing = s; flags = blank })) c.standing_of.ensures
    ∙ changed-more (reactivated_row c.args.selection) c.loop-i.i c.loop-i.row-items c.self.inside.list past_end (omega (arith, c.self.invariant, c.loop-i-test.true)) c.loop-i.invariant

pub returns : goal.returns
returns c =
    c.loop-i.invariant
    ∙ changed-all (reactivated_row c.args.selection) 0 c.loop-i.i c.self.inside.list (omega (arith, c.self.invariant))
    ∙ ap (λ rows. map (λ entry. reactivated_row c.args.selection entry.0 entry.1) (numbered rows)) c.self.view_is
