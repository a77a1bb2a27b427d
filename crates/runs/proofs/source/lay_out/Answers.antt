use Rattle.std.proofs.Common.{arith}
use Rattle.runs.proofs.source.lay_out.Goals as goal

pub returns-in-Sheet-clause-model : goal.returns-in-Sheet-clause-model
returns-in-Sheet-clause-model g c = grind arith

pub returns-in-Sheet-clause-begins : goal.returns-in-Sheet-clause-begins
returns-in-Sheet-clause-begins g c = grind arith
