use Rattle.rules.proofs.OtherWords.{denied-at-first-locked-block}
use Rattle.rules.proofs.meanings.denied_at_first_locked_block.Goals as goal

pub returns : goal.returns
returns c = denied-at-first-locked-block
