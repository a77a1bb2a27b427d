use Rattle.std.proofs.Common.{rules}
use Rattle.fields.proofs.be.Goals as goal

pub returns : goal.returns
returns c = search rules
