use Rattle.std.proofs.Common.{rules}
use Rattle.packed.specs.First.{first}
use Rattle.packed.specs.Rising.{has, lookup, change}
use Rattle.rules.specs.FreshKeys.{fresh_keys}
use lib.Count.{ones}
use Rattle.replay.proofs.sequence.single_users.Goals as goal

-- here the ones of a selection are counted too
pub returns : goal.returns
unfolding first has lookup change fresh_keys ones
returns c = search rules
