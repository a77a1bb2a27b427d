use Rattle.std.proofs.Common.{arith}
use Rattle.table.proofs.table_calls.TableCalls.describe.Goals as goal

pub returns-clause-buffer : goal.returns-clause-buffer
returns-clause-buffer g c = grind arith
