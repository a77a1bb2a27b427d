use Rattle.std.proofs.Common.{rules}
use Rattle.runs.proofs.kinds.run_over.Goals as goal

pub returns-clause-answers : goal.returns-clause-answers
returns-clause-answers g c = search rules

pub returns-clause-vault : goal.returns-clause-vault
returns-clause-vault g c = search rules

pub returns-clause-kept : goal.returns-clause-kept
returns-clause-kept g c = search rules

pub returns-clause-watched : goal.returns-clause-watched
returns-clause-watched g c = search rules

pub returns-clause-by_the_rules : goal.returns-clause-by_the_rules
returns-clause-by_the_rules g c = search rules
