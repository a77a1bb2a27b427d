use Rattle.rules.proofs.Whole.{no-request-refused}
use Rattle.rules.proofs.laws.no_request_refused.Goals as goal

pub returns : goal.returns
returns c = no-request-refused
