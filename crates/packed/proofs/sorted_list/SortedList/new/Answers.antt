use Rattle.std.proofs.Common.{arith}
use Rattle.packed.specs.Rising.{rises}
use Rattle.packed.proofs.sorted_list.SortedList.new.Goals as goal

pub invariant_of-result : goal.invariant_of-result
unfolding rises
invariant_of-result g c = grind arith
