use Rattle.std.proofs.Common.{◌≡◌, ◌+◌, ◌*◌, map}
use Rattle.std.specs.List.{range_with_len}
use Rattle.sheet.specs.Format.{unit_at}
use Rattle.sheet.proofs.reader.read_units.Given as goal

abbrev pub invariant-loop-k : goal.invariant-loop-k
invariant-loop-k l = l.units.items ≡ map (λ k. unit_at (32 + 16 * k) l.sheet) (range_with_len 0 l.k)
