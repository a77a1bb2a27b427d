use Rattle.std.proofs.Common.{arith}
use Rattle.runs.proofs.step.Step.of.Goals as goal

pub returns : goal.returns
returns c = grind arith
