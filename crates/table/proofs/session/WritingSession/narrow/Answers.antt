use Rattle.std.proofs.Common.{arith}
use Rattle.table.proofs.session.WritingSession.narrow.Goals as goal

pub returns : goal.returns
returns c = grind arith
