use Rattle.std.proofs.Common.{arith}
use Rattle.table.proofs.state.Table.described.Goals as goal

pub returns-clause-model : goal.returns-clause-model
returns-clause-model g c = grind arith
