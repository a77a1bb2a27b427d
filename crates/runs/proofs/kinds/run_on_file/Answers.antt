use Rattle.std.proofs.Common.{rules}
use Rattle.runs.proofs.kinds.run_on_file.Goals as goal

pub returns-clause-answers : goal.returns-clause-answers
returns-clause-answers g c = search rules

pub returns-clause-file : goal.returns-clause-file
returns-clause-file g c = search rules

pub returns-clause-watched : goal.returns-clause-watched
returns-clause-watched g c = search rules

pub returns-clause-by_the_rules : goal.returns-clause-by_the_rules
returns-clause-by_the_rules g c = search rules
