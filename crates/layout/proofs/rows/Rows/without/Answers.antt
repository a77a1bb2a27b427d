use Rattle.std.proofs.Common.{arith}
use Rattle.std.proofs.lemmas.List.{get_or_default}
use Rattle.layout.proofs.rows.Rows.without.Goals as goal

pub returns : goal.returns
returns c = grind (arith, get_or_default)
