use Rattle.std.proofs.Common.{rules}
use Rattle.rules.proofs.row.Sought.suits.Goals as goal

pub returns-in-FreeRow-Free : goal.returns-in-FreeRow-Free
returns-in-FreeRow-Free c = search rules

pub returns-then-start-block : goal.returns-then-start-block
returns-then-start-block c = search rules
