use Rattle.std.proofs.Common.{arith}
use Rattle.table.proofs.table_calls.TableCalls.format.Goals as goal

pub returns-clause-after : goal.returns-clause-after
returns-clause-after g c = grind arith
