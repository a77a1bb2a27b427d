use Rattle.std.proofs.Common.{rules}
use Rattle.vault.proofs.chip.put_into.Goals as goal

pub returns : goal.returns
returns c = search rules
