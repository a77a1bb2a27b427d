use Rattle.std.proofs.Common.{arith}
use Rattle.std.proofs.lemmas.Grind.{common_steps}
use Rattle.vault.specs.Serials.{distinct}
use Rattle.vault.proofs.serials.+all_distinct.Goals as goal

pub returns-else-not-contains : goal.returns-else-not-contains
unfolding distinct
returns-else-not-contains t c = grind (arith, common_steps)
