use Rattle.rules.proofs.InOrder.{fresh-keys-in-order}
use Rattle.rules.proofs.meanings.fresh_keys_in_order.Goals as goal

pub returns : goal.returns
returns c = fresh-keys-in-order
