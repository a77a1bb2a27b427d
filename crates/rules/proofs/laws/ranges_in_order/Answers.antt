use Rattle.rules.proofs.Whole.{ranges-in-order}
use Rattle.rules.proofs.laws.ranges_in_order.Goals as goal

pub returns : goal.returns
returns c = ranges-in-order
