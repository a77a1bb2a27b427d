use Rattle.rules.proofs.OtherWords.{sharing-is-a-common-block}
use Rattle.rules.proofs.meanings.sharing_is_a_common_block.Goals as goal

pub returns : goal.returns
returns c = sharing-is-a-common-block
