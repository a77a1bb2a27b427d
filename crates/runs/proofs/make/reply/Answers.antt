use Rattle.std.proofs.Common.{arith}
use Rattle.runs.proofs.make.reply.Goals as goal

pub returns-in_ok-access-in-Access : goal.returns-in_ok-access-in-Access
returns-in_ok-access-in-Access g c = grind arith

pub returns-in_err-access-in-Access : goal.returns-in_err-access-in-Access
returns-in_err-access-in-Access g c = grind arith
