use Rattle.std.proofs.Common.{rules}
use Rattle.lines.proofs.methods.flags.Goals as goal

pub loop-word-preserved : goal.loop-word-preserved
loop-word-preserved c = search rules

pub returns : goal.returns
returns c = search rules
