use Rattle.std.proofs.Common.{arith}
use Rattle.std.proofs.lemmas.Bool.Decides.{nat_tests}
use Rattle.vault.proofs.Chips.{holds-serial}
use Rattle.vault.proofs.chip.KeyChipKeySet.holds.Goals as goal

pub returns-then-serial-ne0 : goal.returns-then-serial-ne0
returns-then-serial-ne0 c =
    let v = c.args.self.now in
    let h = holds-serial v.used v.registers.now v.sized.0 c.args.serial in
    grind (arith, nat_tests)

pub returns-else-serial-ne0 : goal.returns-else-serial-ne0
returns-else-serial-ne0 c =
    let v = c.args.self.now in
    let h = holds-serial v.used v.registers.now v.sized.0 c.args.serial in
    grind (arith, nat_tests)
