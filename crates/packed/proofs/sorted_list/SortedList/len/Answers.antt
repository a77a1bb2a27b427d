use Rattle.std.proofs.Common.{rules}
use Rattle.packed.proofs.sorted_list.SortedList.len.Goals as goal

pub returns-clause-value : goal.returns-clause-value
returns-clause-value g c = search rules
