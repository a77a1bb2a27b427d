use Rattle.std.proofs.Common.{length}
use Rattle.sheet.proofs.meaning.+number_with.Given as goal

abbrev pub decreases-number_with : goal.decreases-number_with
decreases-number_with l = length l.bits.now
