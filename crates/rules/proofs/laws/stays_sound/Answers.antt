use Rattle.rules.proofs.Whole.{stays-sound}
use Rattle.rules.proofs.laws.stays_sound.Goals as goal

pub returns : goal.returns
returns c = stays-sound
