use Rattle.std.proofs.Common.{rules}
use Rattle.layout.proofs.content.Layout.control.Goals as goal

pub returns : goal.returns
returns c = search rules
