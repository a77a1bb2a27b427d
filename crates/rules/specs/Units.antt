-- The two numberings, and units, which stand in rising order of their numbers.
use Rattle.std.specs.Prelude.{ℕ, Bool, ◌&&◌, List, nat_le}
use Rattle.std.specs.Option.{unwrap_or}
use Rattle.packed.specs.Rising as rising
use Rattle.rules.specs.declared.numbering.Bounds.{Bounds}
use Rattle.rules.specs.declared.unit.LogicalUnit.{LogicalUnit}

-- the two numberings: the mark of a row without a unit, the first and the last unit number, and the code on the sheet
abbrev pub nvme : Bounds
nvme = record { mark = 0; first = 1; last = 0xFFFF_FFFE; code = 1 }

abbrev pub scsi : Bounds
scsi = record { mark = 0xFFFF_FFFF; first = 0; last = 0xFFFF_FFFE; code = 2 }

-- the numbers that a numbering gives to units
abbrev pub valid : Bounds → ℕ → Bool
valid bounds n = nat_le bounds.first n && nat_le n bounds.last

-- what stands for a unit where there is none; no accepted call meets it
abbrev pub no_unit : LogicalUnit
no_unit = record { number = 0; blocks = 0; serial = 0 }

-- there is a unit with this number; Create and Load take valid numbers alone, so a number that is not valid has none
abbrev pub exists : ℕ → List LogicalUnit → Bool
exists n units = rising.has (λ u. u.number) n units

-- the unit with this number
abbrev pub unit : ℕ → List LogicalUnit → LogicalUnit
unit n units = unwrap_or (rising.lookup (λ u. u.number) n units) no_unit

-- one unit more, in its place
abbrev pub with_unit : LogicalUnit → List LogicalUnit → List LogicalUnit
with_unit u units = rising.insert (λ v. v.number) u units

-- one unit fewer
abbrev pub without_unit : ℕ → List LogicalUnit → List LogicalUnit
without_unit n units = rising.remove (λ u. u.number) n units

-- the unit with this number under another key
abbrev pub with_key : ℕ → ℕ → List LogicalUnit → List LogicalUnit
with_key n serial units = rising.change (λ u. u.number) n (λ u. record { number = u.number; blocks = u.blocks; serial = serial }) units
