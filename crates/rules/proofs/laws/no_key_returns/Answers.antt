use Rattle.rules.proofs.Whole.{no-key-returns}
use Rattle.rules.proofs.laws.no_key_returns.Goals as goal

pub returns : goal.returns
returns c = no-key-returns
