use Rattle.std.proofs.Common.{rules}
use Rattle.vault.proofs.file.KeyFileKeySet.holds.Goals as goal

pub returns : goal.returns
returns c = let there = c.contains.ensures in search rules
