-- Save and Describe: what a drive is as bytes, and these bytes in a buffer that is lent.
use Rattle.std.specs.Prelude.{ℕ, ◌+◌, ◌^◌, Bool, cond, List, [], ◌∷◌, ◌++◌, map, length, drop, Option, Result, nat_lt}
use Rattle.std.specs.List.{enumerate_from, list_any, sum_by}
use Rattle.vault.specs.Checks.{answer, unless}
use Rattle.fields.specs.declared.Field.{Field}
use Rattle.fields.specs.Fields.{be, bytes_of}
use Rattle.rules.specs.declared.cause.Cause.{Cause}
use Rattle.rules.specs.declared.cause.Cause.TheVariants.{BufferShort}
use Rattle.rules.specs.declared.numbering.Bounds.{Bounds}
use Rattle.rules.specs.declared.row.Flags.{Flags}
use Rattle.rules.specs.declared.row.Row.{Row}
use Rattle.rules.specs.declared.row.RowFields.{RowFields}
use Rattle.rules.specs.Causes.{Done}
use Rattle.rules.specs.Drive.{Drive, unused_keys, refused_by}
use Rattle.rules.specs.Questions.{fields_of}
use Rattle.rules.specs.Rows.{is_range_row, is_single_user}
use Rattle.sheet.specs.declared.records.Header.{Header}
use Rattle.sheet.specs.declared.records.RowRecord.{RowRecord}
use Rattle.sheet.specs.Format.{laid_down, rows_offset, total_beside}

-- ---- bits
-- the number that has these bits, bit 0 first: the powers of two of those that are set
unfoldable pub number_with : List Bool → ℕ
number_with bits = sum_by (λ bit. cond bit.1 (2 ^ bit.0) 0) (enumerate_from 0 bits)

-- the five flags in their order, and then whether it is a unit row
abbrev pub flag_bits : Flags → Bool → List Bool
flag_bits f is_unit_row = f.read_lock_enabled ∷ f.write_lock_enabled ∷ f.read_locked ∷ f.write_locked ∷ f.lock_on_reset ∷ is_unit_row ∷ []

-- bit r is set for a row r in Single User Mode
abbrev pub mask_of : List Row → ℕ
mask_of rows = number_with (map (λ r. is_single_user r.standing) rows)

-- ---- the records of a drive
abbrev pub header_for : Drive → Header
header_for d = record {
  form = 1;
  numbering = d.numbering.code;
  unit_count = length d.units;
  row_count = 17;
  units_at = 32;
  rows_at = rows_offset (length d.units);
  total = total_beside (length d.units);
  next = d.next;
  mask = mask_of d.rows;
  policy = d.policy;
  zero = 0;
}

abbrev pub record_of_fields : RowFields → RowRecord
record_of_fields f = record {
  unit = f.unit;
  serial = f.serial;
  start = f.start;
  length = f.length;
  flags = number_with (flag_bits f.flags f.is_unit_row);
  zeros = 0;
}

abbrev pub record_of : Bounds → Row → RowRecord
record_of bounds r = record_of_fields (fields_of bounds r)

-- ---- the sheet of a drive: its units as they stand, which is in rising order, and its rows
unfoldable pub sheet : Drive → List ℕ
sheet d = laid_down (header_for d) d.units (map (record_of d.numbering) d.rows)

-- ---- the descriptor
-- range rows are supported, and so are single-user rows; and whether a range row stands
abbrev pub support : List Row → ℕ
support rows = 0xA0 + cond (list_any (λ r. is_range_row r.kind) rows) 0x40 0

abbrev pub descriptor_fields : List Row → ℕ → ℕ → List Field
descriptor_fields rows capacity unused =
    be 4 0x04032210
    ∷ be 1 (support rows)
    ∷ be 3 0
    ∷ be 4 capacity
    ∷ be 4 unused
    ∷ be 4 15
    ∷ []

abbrev pub descriptor : Drive → List ℕ
descriptor d = bytes_of (descriptor_fields d.rows d.vault.capacity (unused_keys d))

-- ---- a lent buffer
-- it has to have room, and the refusal says for how many bytes
abbrev pub room_checks : ℕ → List ℕ → List (Bool × Cause)
room_checks needed buffer = (nat_lt (length buffer) needed, BufferShort needed) ∷ []

-- the bytes stand at its start, and later bytes stay
abbrev pub filled : List ℕ → List ℕ → List ℕ
filled bytes buffer = bytes ++ drop (length bytes) buffer

-- ---- Save
abbrev pub total_of : Drive → ℕ
total_of d = total_beside (length d.units)

abbrev pub save_refusal : Drive → List ℕ → Option Cause
save_refusal d buffer = refused_by d (room_checks (total_of d) buffer)

abbrev pub save_answer : Drive → List ℕ → Result ℕ Cause
save_answer d buffer = answer (save_refusal d buffer) (total_of d)

-- what the buffer has afterwards
abbrev pub saved : Drive → List ℕ → List ℕ
saved d buffer = unless (save_refusal d buffer) buffer (filled (sheet d) buffer)

-- ---- Describe
abbrev pub describe_refusal : Drive → List ℕ → Option Cause
describe_refusal d buffer = refused_by d (room_checks 20 buffer)

abbrev pub describe_answer : Drive → List ℕ → Done
describe_answer d buffer = answer (describe_refusal d buffer) tt

-- what the buffer has afterwards
abbrev pub described : Drive → List ℕ → List ℕ
described d buffer = unless (describe_refusal d buffer) buffer (filled (descriptor d) buffer)
