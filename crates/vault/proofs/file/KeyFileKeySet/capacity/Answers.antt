use Rattle.std.proofs.Common.{rules}
use Rattle.vault.proofs.file.KeyFileKeySet.capacity.Goals as goal

pub returns : goal.returns
returns c = search rules
