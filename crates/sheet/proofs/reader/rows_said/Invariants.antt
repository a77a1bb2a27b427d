use Rattle.std.proofs.Common.{◌≡◌, ℕ, ◌<◌, length, slice_index_or}
use Rattle.rules.specs.Rows.{row}
use Rattle.sheet.specs.declared.records.RowRecord.{RowRecord}
use Rattle.sheet.specs.Loading.{row_said}
use Rattle.sheet.proofs.reader.rows_said.Given as goal

abbrev pub invariant-loop-i : goal.invariant-loop-i
invariant-loop-i l = record {
  seventeen : length l.rows ≡ 17;
  done : (k : ℕ) (r : RowRecord) → k < l.i → row k l.rows ≡ row_said l.bounds l.mask k (slice_index_or l.records k r);
}
