use Rattle.std.proofs.Common.{rules}
use Rattle.layout.proofs.content.Layout.serials.Goals as goal

pub returns : goal.returns
returns c = search rules
