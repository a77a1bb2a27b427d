use Rattle.std.proofs.Common.{arith}
use Rattle.table.proofs.refusals.check_room.Goals as goal

pub returns-then-out-needed : goal.returns-then-out-needed
returns-then-out-needed c = grind arith
