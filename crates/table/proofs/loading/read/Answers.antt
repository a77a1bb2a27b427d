use Rattle.std.proofs.Common.{arith}
use Rattle.table.proofs.loading.read.Goals as goal

pub returns-in_err-layout-clause-refused : goal.returns-in_err-layout-clause-refused
returns-in_err-layout-clause-refused g c = grind arith
