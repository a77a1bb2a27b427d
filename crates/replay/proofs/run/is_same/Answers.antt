use Rattle.std.proofs.Common.{rules}
use Rattle.replay.proofs.Equal.{same-reply}
use Rattle.replay.proofs.run.is_same.Goals as goal

pub returns : goal.returns
returns c = let r = same-reply c.args.came c.args.listed in search rules
