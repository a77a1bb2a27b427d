use Rattle.std.proofs.Common.{rules}
use Rattle.rules.proofs.numbering.ScsiNumbering.BOUNDS.Goals as goal

pub returns : goal.returns
returns c = search rules
