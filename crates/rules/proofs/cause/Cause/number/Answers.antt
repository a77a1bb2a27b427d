use Rattle.std.proofs.Common.{rules}
use Rattle.rules.proofs.cause.Cause.number.Goals as goal

pub returns-in-HasUnitRow : goal.returns-in-HasUnitRow
returns-in-HasUnitRow c = search rules
