use Rattle.std.proofs.Common.{rules}
use Rattle.vault.proofs.file.KeyFile.check.Goals as goal

pub returns-else-capacity-ge1 : goal.returns-else-capacity-ge1
returns-else-capacity-ge1 c = search rules
