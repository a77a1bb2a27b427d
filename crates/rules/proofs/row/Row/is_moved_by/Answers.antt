use Rattle.std.proofs.Common.{rules}
use Rattle.rules.proofs.row.Row.is_moved_by.Goals as goal

pub returns-in_default-SingleUser-eq0 : goal.returns-in_default-SingleUser-eq0
returns-in_default-SingleUser-eq0 c = search rules
