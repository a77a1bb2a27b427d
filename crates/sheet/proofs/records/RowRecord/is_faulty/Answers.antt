use Rattle.std.proofs.Common.{rules}
use Rattle.sheet.specs.Saving.{number_with}
use Rattle.sheet.proofs.records.RowRecord.is_faulty.Goals as goal

pub returns-else-not-is_unit_row : goal.returns-else-not-is_unit_row
unfolding number_with
returns-else-not-is_unit_row c = search rules
