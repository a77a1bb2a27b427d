use Rattle.std.proofs.Common.{rules}
use Rattle.packed.proofs.U32Keyed.key_of.Goals as goal

pub returns : goal.returns
returns c = search rules
