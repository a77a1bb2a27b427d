use Rattle.rules.proofs.Whole.{one-key-each}
use Rattle.rules.proofs.laws.one_key_each.Goals as goal

pub returns : goal.returns
returns c = one-key-each
