use Rattle.std.proofs.Common.{arith}
use Rattle.table.proofs.state.Table.put_fresh_key.Goals as goal

pub returns-clause-vault : goal.returns-clause-vault
returns-clause-vault g c = grind arith
