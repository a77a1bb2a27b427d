use Rattle.rules.proofs.InOrder.{fresh-keys-rise}
use Rattle.rules.proofs.meanings.fresh_keys_rise.Goals as goal

pub returns : goal.returns
returns c = fresh-keys-rise
