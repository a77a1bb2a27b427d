use Rattle.std.proofs.Common.{rules}
use Rattle.layout.proofs.content.Layout.rekey.Goals as goal

pub returns-in-TheUnit-clause-units : goal.returns-in-TheUnit-clause-units
returns-in-TheUnit-clause-units c = search rules
