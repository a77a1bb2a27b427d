use Rattle.std.proofs.Common.{rules}
use Rattle.vault.proofs.chip.KeyChip.check.Goals as goal

pub returns-then-all_distinct : goal.returns-then-all_distinct
returns-then-all_distinct c = search rules
