use Rattle.std.proofs.Common.{rules}
use Rattle.layout.proofs.rows.Rows.put.Goals as goal

pub returns : goal.returns
returns c = search rules
