use Rattle.std.proofs.Common.{◌≡◌, ◌+◌, ◌*◌, take}
use Rattle.std.specs.List.{flat_map}
use Rattle.fields.specs.Fields.{written}
use Rattle.sheet.specs.Format.{row_bytes}
use Rattle.sheet.specs.Saving.{record_of}
use Rattle.sheet.proofs.writer.write_rows.Given as goal

abbrev pub invariant-loop-row : goal.invariant-loop-row
invariant-loop-row l = record { place : l.end ≡ l.at + 32 * l.row-index; bytes : l.out ≡ written l.at (flat_map (λ r. row_bytes (record_of l.bounds r)) (take l.row-index l.rows)) l.fn.out }
