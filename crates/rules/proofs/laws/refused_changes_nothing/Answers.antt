use Rattle.rules.proofs.Whole.{refused-changes-nothing}
use Rattle.rules.proofs.laws.refused_changes_nothing.Goals as goal

pub returns : goal.returns
returns c = refused-changes-nothing
