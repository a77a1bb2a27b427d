use Rattle.std.proofs.Common.{rules}
use Rattle.vault.proofs.refusal.check_swap.Goals as goal

pub returns-then-holds : goal.returns-then-holds
returns-then-holds g c = search rules
