use Rattle.std.proofs.Common.{arith}
use Rattle.sheet.proofs.reader.load.Goals as goal

pub returns-clause-refused : goal.returns-clause-refused
returns-clause-refused c = grind arith
