use Rattle.std.proofs.Common.{rules}
use Rattle.rules.proofs.numbering.Bounds.is_valid.Goals as goal

pub returns-then-self-number : goal.returns-then-self-number
returns-then-self-number c = search rules
