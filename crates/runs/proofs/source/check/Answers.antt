use Rattle.std.proofs.Common.{arith}
use Rattle.runs.proofs.source.check.Goals as goal

pub returns-in-Blank : goal.returns-in-Blank
returns-in-Blank g c = grind arith
