use Rattle.std.proofs.Common.{rules}
use Rattle.vault.proofs.refusal.check_put.Goals as goal

pub returns : goal.returns
returns g c = search rules
