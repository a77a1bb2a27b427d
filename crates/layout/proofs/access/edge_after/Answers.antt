use Rattle.std.proofs.Common.{rules}
use Rattle.layout.proofs.access.edge_after.Goals as goal

pub returns-in-RangeRow : goal.returns-in-RangeRow
returns-in-RangeRow c = search rules
