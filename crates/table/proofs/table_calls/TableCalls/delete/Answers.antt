use Rattle.std.proofs.Common.{arith}
use Rattle.table.proofs.table_calls.TableCalls.delete.Goals as goal

pub returns-in-Some-clause-after : goal.returns-in-Some-clause-after
returns-in-Some-clause-after g c = grind arith
