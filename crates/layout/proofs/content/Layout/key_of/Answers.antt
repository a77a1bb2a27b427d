use Rattle.std.proofs.Common.{rules}
use Rattle.layout.proofs.content.Layout.key_of.Goals as goal

pub returns-in-TheUnit : goal.returns-in-TheUnit
returns-in-TheUnit c = search rules
