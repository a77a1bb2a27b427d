use Rattle.std.proofs.Common.{rules}
use Rattle.rules.proofs.cause.Cause.status.Goals as goal

pub returns-in-LockEnabled-default : goal.returns-in-LockEnabled-default
returns-in-LockEnabled-default c = search rules
