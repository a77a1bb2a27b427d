use Rattle.rules.proofs.OtherWords.{granted-where-none-locked}
use Rattle.rules.proofs.meanings.granted_where_none_locked.Goals as goal

pub returns : goal.returns
returns c = granted-where-none-locked
