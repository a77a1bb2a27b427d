use Rattle.std.proofs.Common.{rules, arith}
use Rattle.std.proofs.lemmas.Bool.Decides.{nat_tests}
use Rattle.packed.specs.Rising.{rises}
use Rattle.vault.proofs.file.KeyFile.new.Goals as goal

pub invariant_of-result : goal.invariant_of-result
unfolding rises
invariant_of-result c = record { small = grind (arith, nat_tests); ordered = rw c.new.ensures (grind (arith, nat_tests)) }

pub returns : goal.returns
returns c = search rules
