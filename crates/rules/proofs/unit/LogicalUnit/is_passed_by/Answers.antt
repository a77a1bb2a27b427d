use Rattle.std.proofs.Common.{rules}
use Rattle.rules.proofs.unit.LogicalUnit.is_passed_by.Goals as goal

pub returns-then-start-self : goal.returns-then-start-self
returns-then-start-self c = search rules
