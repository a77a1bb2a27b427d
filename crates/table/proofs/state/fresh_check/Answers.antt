use Rattle.std.proofs.Common.{arith}
use Rattle.table.proofs.state.fresh_check.Goals as goal

pub returns : goal.returns
returns g c = grind arith
