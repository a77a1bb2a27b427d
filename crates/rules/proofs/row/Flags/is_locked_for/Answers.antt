use Rattle.std.proofs.Common.{rules}
use Rattle.rules.proofs.row.Flags.is_locked_for.Goals as goal

pub returns-then-self-2 : goal.returns-then-self-2
returns-then-self-2 c = search rules
