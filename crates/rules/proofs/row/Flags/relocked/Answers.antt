use Rattle.std.proofs.Common.{rules}
use Rattle.rules.proofs.row.Flags.relocked.Goals as goal

pub returns-then-self-3 : goal.returns-then-self-3
returns-then-self-3 c = search rules
