use Rattle.std.proofs.Common.{rules}
use Rattle.rules.proofs.row.Row.fields.Goals as goal

pub returns-in-Free : goal.returns-in-Free
returns-in-Free c = search rules
