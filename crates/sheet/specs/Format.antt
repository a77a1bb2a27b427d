-- The format: three kinds of record, each a list of numbers with their widths in bytes, and where each number is read.
use Rattle.std.specs.Prelude.{ℕ, ◌+◌, ◌*◌, ◌^◌, ◌<◌, List, [], ◌∷◌, ◌++◌, map}
use Rattle.std.specs.List.{flat_map, range_with_len}
use Rattle.fields.specs.declared.Field.{Field}
use Rattle.fields.specs.Fields.{be, bytes_of, number_at}
use Rattle.rules.specs.declared.numbering.Bounds.{Bounds}
use Rattle.rules.specs.declared.unit.LogicalUnit.{LogicalUnit}
use Rattle.sheet.specs.declared.records.Header.{Header}
use Rattle.sheet.specs.declared.records.RowRecord.{RowRecord}

-- ---- what is written
abbrev pub header_fields : Header → List Field
header_fields h =
    be 2 h.form
    ∷ be 2 h.numbering
    ∷ be 2 h.unit_count
    ∷ be 2 h.row_count
    ∷ be 4 h.units_at
    ∷ be 4 h.rows_at
    ∷ be 4 h.total
    ∷ be 4 h.next
    ∷ be 4 h.mask
    ∷ be 2 h.policy
    ∷ be 2 h.zero
    ∷ []

abbrev pub unit_fields : LogicalUnit → List Field
unit_fields u =
    be 4 u.number
    ∷ be 4 u.serial
    ∷ be 8 u.blocks
    ∷ []

abbrev pub row_fields : RowRecord → List Field
row_fields r =
    be 4 r.unit
    ∷ be 4 r.serial
    ∷ be 8 r.start
    ∷ be 8 r.length
    ∷ be 2 r.flags
    ∷ be 6 r.zeros
    ∷ []

abbrev pub header_bytes : Header → List ℕ
header_bytes h = bytes_of (header_fields h)

abbrev pub unit_bytes : LogicalUnit → List ℕ
unit_bytes u = bytes_of (unit_fields u)

abbrev pub row_bytes : RowRecord → List ℕ
row_bytes r = bytes_of (row_fields r)

-- the header, then the units, then the rows from row 0
unfoldable pub laid_down : Header → List LogicalUnit → List RowRecord → List ℕ
laid_down h units rows = header_bytes h ++ flat_map unit_bytes units ++ flat_map row_bytes rows

-- the numbers of a numbering fit there
pub record Fits (bounds : Bounds) : Type 0 where
  pub mark : bounds.mark < 2 ^ 32
  pub last : bounds.last < 2 ^ 32
  pub code : bounds.code < 2 ^ 16

-- ---- where it stands
-- where the rows begin beside u units, and how long the sheet is
abbrev pub rows_offset : ℕ → ℕ
rows_offset u = 32 + 16 * u

abbrev pub total_beside : ℕ → ℕ
total_beside u = 576 + 16 * u

-- ---- what is read
abbrev pub header_of : List ℕ → Header
header_of s = record {
  form = number_at 0 2 s;
  numbering = number_at 2 2 s;
  unit_count = number_at 4 2 s;
  row_count = number_at 6 2 s;
  units_at = number_at 8 4 s;
  rows_at = number_at 12 4 s;
  total = number_at 16 4 s;
  next = number_at 20 4 s;
  mask = number_at 24 4 s;
  policy = number_at 28 2 s;
  zero = number_at 30 2 s;
}

-- the unit whose record begins here
abbrev pub unit_at : ℕ → List ℕ → LogicalUnit
unit_at at s = record { number = number_at at 4 s; serial = number_at (at + 4) 4 s; blocks = number_at (at + 8) 8 s }

-- the row record that begins here
abbrev pub row_at : ℕ → List ℕ → RowRecord
row_at at s = record {
  unit = number_at at 4 s;
  serial = number_at (at + 4) 4 s;
  start = number_at (at + 8) 8 s;
  length = number_at (at + 16) 8 s;
  flags = number_at (at + 24) 2 s;
  zeros = number_at (at + 26) 6 s;
}

-- as many units as the header counts
unfoldable pub units_on : List ℕ → List LogicalUnit
units_on s = map (λ k. unit_at (32 + 16 * k) s) (range_with_len 0 (header_of s).unit_count)

-- the seventeen rows
unfoldable pub rows_on : List ℕ → List RowRecord
rows_on s = map (λ r. row_at (rows_offset (header_of s).unit_count + 32 * r) s) (range_with_len 0 17)
