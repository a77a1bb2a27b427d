use Rattle.std.proofs.Common.{rules}
use Rattle.vault.proofs.file.KeyFileKeySet.count.Goals as goal

pub returns : goal.returns
returns c = search rules
