use Rattle.std.proofs.Common.{arith}
use Rattle.std.proofs.lemmas.Grind.{common_steps}
use Rattle.packed.specs.Rising.{rises}
use Rattle.packed.proofs.sorted_list.+is_rising.Goals as goal

pub returns-then-key_of : goal.returns-then-key_of
unfolding rises
returns-then-key_of g t c = grind (arith, common_steps)
