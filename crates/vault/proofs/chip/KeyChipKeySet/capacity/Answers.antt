use Rattle.std.proofs.Common.{rules}
use Rattle.vault.proofs.chip.KeyChipKeySet.capacity.Goals as goal

pub returns : goal.returns
returns c = search rules
