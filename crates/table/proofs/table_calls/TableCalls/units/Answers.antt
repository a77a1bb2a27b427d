use Rattle.std.proofs.Common.{arith}
use Rattle.table.proofs.table_calls.TableCalls.units.Goals as goal

pub returns : goal.returns
returns g c = grind arith
