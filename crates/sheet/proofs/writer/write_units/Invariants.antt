use Rattle.std.proofs.Common.{◌≡◌, ◌+◌, ◌*◌, take}
use Rattle.std.specs.List.{flat_map}
use Rattle.fields.specs.Fields.{written}
use Rattle.sheet.specs.Format.{unit_bytes}
use Rattle.sheet.proofs.writer.write_units.Given as goal

abbrev pub invariant-loop-unit : goal.invariant-loop-unit
invariant-loop-unit l = record { place : l.end ≡ l.at + 16 * l.unit-index; bytes : l.out ≡ written l.at (flat_map unit_bytes (take l.unit-index l.units)) l.fn.out }
