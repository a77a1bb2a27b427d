use Rattle.std.proofs.Common.{arith}
use Rattle.table.proofs.session.ReadingSession.open.Goals as goal

pub returns : goal.returns
returns c = grind arith
