-- The questions, which change nothing.
use Rattle.std.specs.Prelude.{ℕ, ◌+◌, Bool, not, ◌||◌, List, [], ◌∷◌, Some, None, Option, Result, ◌==◌, nat_le, nat_lt}
use Rattle.std.specs.List.{find, range_with_len}
use Rattle.std.specs.Option.{option_or}
use Rattle.vault.specs.Checks.{answer}
use Rattle.rules.specs.declared.access.Access.{Access}
use Rattle.rules.specs.declared.cause.Cause.{Cause}
use Rattle.rules.specs.declared.cause.Cause.TheVariants.{NoSuchRow, NoSuchUnit, BlockOutOfRange, BlockLocked}
use Rattle.rules.specs.declared.numbering.Bounds.{Bounds}
use Rattle.rules.specs.declared.row.Kind.{Kind}
use Rattle.rules.specs.declared.row.Kind.TheVariants.{Free, Global, UnitRow, RangeRow}
use Rattle.rules.specs.declared.row.Row.{Row}
use Rattle.rules.specs.declared.row.RowFields.{RowFields}
use Rattle.rules.specs.declared.unit.Control.{Control}
use Rattle.rules.specs.declared.unit.LogicalUnit.{LogicalUnit}
use Rattle.rules.specs.Causes.{Done}
use Rattle.rules.specs.Drive.{Drive, row_of, unused_keys, refused_by}
use Rattle.rules.specs.Rows.{row, locked_for, is_a_unit_row, controlling_row, unit_or, key_or}
use Rattle.rules.specs.Units.{exists, unit}

-- ---- Access: may these blocks be read, or written?
-- a block is locked for this access where its controlling row is
abbrev pub block_locked : List Row → Access → ℕ → ℕ → Bool
block_locked rows access n block = locked_for access (row (controlling_row rows n block) rows).flags

abbrev pub access_checks : Drive → ℕ → ℕ → ℕ → List (Bool × Cause)
access_checks d n start count =
    (not (exists n d.units), NoSuchUnit)
    ∷ (count == 0 || nat_lt (unit n d.units).blocks (start + count), BlockOutOfRange)
    ∷ []

-- the first of these blocks that is locked for this access
abbrev pub first_locked : List Row → Access → ℕ → ℕ → ℕ → Option ℕ
first_locked rows access n start count = find (block_locked rows access n) (range_with_len start count)

-- denied at a block, with its row
abbrev pub denied_at : List Row → ℕ → Option ℕ → Option Cause
denied_at rows n None = None
denied_at rows n (Some block) = Some (BlockLocked block (controlling_row rows n block))

-- first the checks above, then 23, which carries the block and its row
abbrev pub access_refusal : Drive → Access → ℕ → ℕ → ℕ → Option Cause
access_refusal d access n start count = option_or (refused_by d (access_checks d n start count)) (denied_at d.rows n (first_locked d.rows access n start count))

abbrev pub access_answer : Drive → Access → ℕ → ℕ → ℕ → Done
access_answer d access n start count = answer (access_refusal d access n start count) tt

-- ---- Controls: the row that controls a block, and the serial of the block's key
abbrev pub controls_checks : Drive → ℕ → ℕ → List (Bool × Cause)
controls_checks d n block =
    (not (exists n d.units), NoSuchUnit)
    ∷ (nat_le (unit n d.units).blocks block, BlockOutOfRange)
    ∷ []

-- the key is that of the range row that controls the block, else the unit's
abbrev pub control_of : List Row → LogicalUnit → ℕ → Control
control_of rows u block = record {
  row = controlling_row rows u.number block;
  serial = key_or (row (controlling_row rows u.number block) rows).kind u.serial;
}

abbrev pub controls_refusal : Drive → ℕ → ℕ → Option Cause
controls_refusal d n block = refused_by d (controls_checks d n block)

abbrev pub controls_answer : Drive → ℕ → ℕ → Result Control Cause
controls_answer d n block = answer (controls_refusal d n block) (control_of d.rows (unit n d.units) block)

-- ---- Unused: how many keys are not in use
abbrev pub unused_answer : Drive → Result ℕ Cause
unused_answer d = answer (refused_by d []) (unused_keys d)

-- ---- ReadRow: a row's fields as the sheet has them, and its standing
abbrev pub read_row_checks : ℕ → List (Bool × Cause)
read_row_checks r = (nat_lt 16 r, NoSuchRow) ∷ []

abbrev pub start_of : Kind → ℕ
start_of Free = 0
start_of Global = 0
start_of (UnitRow u) = 0
start_of (RangeRow u start length serial) = start

abbrev pub length_of : Kind → ℕ
length_of Free = 0
length_of Global = 0
length_of (UnitRow u) = 0
length_of (RangeRow u start length serial) = length

-- the unit, or the mark where there is none; start, length and serial are 0 in a row that has none
abbrev pub fields_of : Bounds → Row → RowFields
fields_of bounds r = record {
  unit = unit_or r.kind bounds.mark;
  serial = key_or r.kind 0;
  start = start_of r.kind;
  length = length_of r.kind;
  flags = r.flags;
  is_unit_row = is_a_unit_row r.kind;
  standing = r.standing;
}

abbrev pub read_row_refusal : Drive → ℕ → Option Cause
read_row_refusal d r = refused_by d (read_row_checks r)

abbrev pub row_fields : Drive → ℕ → RowFields
row_fields d r = fields_of d.numbering (row_of d r)

abbrev pub read_row_answer : Drive → ℕ → Result RowFields Cause
read_row_answer d r = answer (read_row_refusal d r) (row_fields d r)
