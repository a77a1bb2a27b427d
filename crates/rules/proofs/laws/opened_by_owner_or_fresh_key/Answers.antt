use Rattle.rules.proofs.Whole.{opened-by-owner-or-fresh-key}
use Rattle.rules.proofs.laws.opened_by_owner_or_fresh_key.Goals as goal

pub returns : goal.returns
returns c = opened-by-owner-or-fresh-key
