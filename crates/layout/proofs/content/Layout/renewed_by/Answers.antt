use Rattle.std.proofs.Common.{rules}
use Rattle.layout.proofs.content.Layout.renewed_by.Goals as goal

pub returns-in-RangeRow : goal.returns-in-RangeRow
returns-in-RangeRow c = search rules
