use Rattle.std.proofs.Common.{rules}
use Rattle.runs.proofs.make.make.Goals as goal

pub returns-in-Ok-clause-answer : goal.returns-in-Ok-clause-answer
returns-in-Ok-clause-answer g c = search rules
