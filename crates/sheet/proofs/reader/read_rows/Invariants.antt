use Rattle.std.proofs.Common.{◌≡◌, ◌+◌, ◌*◌, map}
use Rattle.std.specs.List.{range_with_len}
use Rattle.sheet.specs.Format.{row_at}
use Rattle.sheet.proofs.reader.read_rows.Given as goal

abbrev pub invariant-loop-i : goal.invariant-loop-i
invariant-loop-i l = l.rows.items ≡ map (λ i. row_at (32 + 16 * l.count + 32 * i) l.sheet) (range_with_len 0 l.i)
