use Rattle.std.proofs.Common.{arith}
use Rattle.table.proofs.table_calls.TableCalls.access.Goals as goal

pub returns-in-None : goal.returns-in-None
returns-in-None g c = grind arith
