use Rattle.std.proofs.Common.{arith}
use Rattle.content.proofs.Content.check_format.Goals as goal

pub returns-clause-refused : goal.returns-clause-refused
returns-clause-refused g c = grind arith
