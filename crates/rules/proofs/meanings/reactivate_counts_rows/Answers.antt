use Rattle.rules.proofs.OtherWords.{reactivate-counts-rows}
use Rattle.rules.proofs.meanings.reactivate_counts_rows.Goals as goal

pub returns : goal.returns
returns c = reactivate-counts-rows
