use Rattle.std.proofs.Common.{rules}
use Rattle.layout.proofs.content.Layout.unit_and_ranges.Goals as goal

pub returns : goal.returns
returns c = search rules
