use Rattle.std.proofs.Common.{rules}
use Rattle.sheet.proofs.reader.is_misplaced.Goals as goal

pub returns-else-is_passed_by : goal.returns-else-is_passed_by
returns-else-is_passed_by c = search rules
