use Rattle.std.proofs.Common.{arith}
use Rattle.content.proofs.Content.check_set_range.Goals as goal

pub returns-clause-answer : goal.returns-clause-answer
returns-clause-answer g c = grind arith

pub returns-clause-within : goal.returns-clause-within
returns-clause-within g c = grind arith
