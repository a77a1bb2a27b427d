use Rattle.std.proofs.Common.{length}
use Rattle.packed.proofs.sorted_list.+is_rising.Given as goal

abbrev pub decreases-is_rising : goal.decreases-is_rising
decreases-is_rising g l = length l.items.now
