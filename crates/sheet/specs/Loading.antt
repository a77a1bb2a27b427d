-- Load: what a sheet says, what is wrong with it, and the drive that it describes.
use Rattle.std.specs.Prelude.{ℕ, ◌^◌, Bool, true, cond, not, ◌&&◌, ◌||◌, List, [], ◌∷◌, ◌++◌, map, length, Option, ◌==◌, false, nat_le, nat_lt}
use Rattle.std.specs.List.{enumerate_from, list_any}
use Rattle.std.specs.Str.{bytes_eq as list_eq}
use Rattle.packed.specs.Rising.{rises}
use Rattle.vault.specs.Checks.{first_of, answer, unless}
use Rattle.vault.specs.Kinds.{can_be_capacity}
use Rattle.vault.specs.Meaning.{Meaning}
use Rattle.vault.specs.Serials.{collect, distinct}
use Rattle.rules.specs.declared.cause.Cause.{Cause}
use Rattle.rules.specs.declared.cause.Cause.TheVariants.{SheetHeader, SheetField, SheetRelation, OtherKeys, Closed}
use Rattle.rules.specs.declared.numbering.Bounds.{Bounds}
use Rattle.rules.specs.declared.row.Flags.{Flags}
use Rattle.rules.specs.declared.row.Kind.{Kind}
use Rattle.rules.specs.declared.row.Kind.TheVariants.{Free, Global, UnitRow, RangeRow}
use Rattle.rules.specs.declared.row.Row.{Row}
use Rattle.rules.specs.declared.row.Standing.{Standing}
use Rattle.rules.specs.declared.row.Standing.TheVariants.{Shared, SingleUser}
use Rattle.rules.specs.declared.unit.LogicalUnit.{LogicalUnit}
use Rattle.rules.specs.Causes.{Done}
use Rattle.rules.specs.Drive.{Drive}
use Rattle.rules.specs.LayingOut.{fresh}
use Rattle.rules.specs.Methods.{selected, ends_past, shares_block, other_rows}
use Rattle.rules.specs.Rows.{blank, numbered, has_unit_row}
use Rattle.rules.specs.Sound.{serials}
use Rattle.rules.specs.Units.{valid, exists}
use Rattle.sheet.specs.declared.records.Header.{Header}
use Rattle.sheet.specs.declared.records.RowRecord.{RowRecord}
use Rattle.sheet.specs.Format.{header_of, units_on, rows_on, rows_offset, total_beside}
use Rattle.sheet.specs.Saving.{number_with, flag_bits}

-- ---- what a row record says
-- the row has no unit
abbrev pub has_mark : Bounds → RowRecord → Bool
has_mark bounds r = r.unit == bounds.mark

-- bit 5 of its flags: it is a unit row
abbrev pub has_unit_bit : RowRecord → Bool
has_unit_bit r = selected r.flags 5

-- it has no range and no key
abbrev pub is_bare : RowRecord → Bool
is_bare r = r.serial == 0 && (r.start == 0 && r.length == 0)

abbrev pub flags_of : ℕ → Flags
flags_of word = record {
  read_lock_enabled = selected word 0;
  write_lock_enabled = selected word 1;
  read_locked = selected word 2;
  write_locked = selected word 3;
  lock_on_reset = selected word 4;
}

abbrev pub kind_said : Bounds → ℕ → RowRecord → Kind
kind_said bounds i r = cond (has_mark bounds r) (cond (i == 0) Global Free) (cond (has_unit_bit r) (UnitRow r.unit) (RangeRow r.unit r.start r.length r.serial))

abbrev pub standing_in : ℕ → ℕ → Standing
standing_in mask i = cond (selected mask i) SingleUser Shared

abbrev pub row_said : Bounds → ℕ → ℕ → RowRecord → Row
row_said bounds mask i r = record { kind = kind_said bounds i r; standing = standing_in mask i; flags = flags_of r.flags }

-- all of them, each with its number
abbrev pub rows_said : Bounds → ℕ → List RowRecord → List Row
rows_said bounds mask records = map (λ entry. row_said bounds mask entry.0 entry.1) (enumerate_from 0 records)

-- ---- the drive that a sheet describes, beside a vault
abbrev pub rows_described : Bounds → List ℕ → List Row
rows_described bounds s = rows_said bounds (header_of s).mask (rows_on s)

abbrev pub drive_on : Bounds → Meaning → List ℕ → Drive
drive_on bounds vault s = record {
  closed = false;
  numbering = bounds;
  units = units_on s;
  rows = rows_described bounds s;
  next = (header_of s).next;
  policy = (header_of s).policy;
  vault = vault;
}

-- ---- faults
-- one of these is the case
abbrev pub one_of : List Bool → Bool
one_of faults = list_any (λ fault. fault) faults

-- 25: what is wrong with a header, of a sheet of this length
abbrev pub header_faults : Bounds → ℕ → Header → List Bool
header_faults bounds len h =
    nat_lt len 32
    ∷ not (h.form == 1)
    ∷ not (h.numbering == bounds.code)
    ∷ nat_lt 16 h.unit_count
    ∷ not (h.row_count == 17)
    ∷ not (h.units_at == 32)
    ∷ not (h.rows_at == rows_offset h.unit_count)
    ∷ not (h.total == total_beside h.unit_count)
    ∷ not (len == h.total)
    ∷ (h.next == 0)
    ∷ nat_le (2 ^ 17) h.mask
    ∷ nat_lt 1 h.policy
    ∷ (h.policy == 0 && h.mask == 0)
    ∷ not (h.zero == 0)
    ∷ []

unfoldable pub header_is_faulty : Bounds → ℕ → Header → Bool
header_is_faulty bounds len h = one_of (header_faults bounds len h)

-- 26: what is wrong with a record in itself
-- a serial that was never given
abbrev pub bad_serial : ℕ → ℕ → Bool
bad_serial next serial = serial == 0 || nat_le next serial

abbrev pub unit_faults : Bounds → ℕ → LogicalUnit → List Bool
unit_faults bounds next u =
    not (valid bounds u.number)
    ∷ not (nat_le 1 u.blocks && nat_le u.blocks (2 ^ 48))
    ∷ bad_serial next u.serial
    ∷ []

abbrev pub row_faults : Bounds → ℕ → ℕ → RowRecord → List Bool
row_faults bounds next i r =
    -- neither the mark nor a unit's number, a bit above 5, a byte among the last six
    not (has_mark bounds r || valid bounds r.unit)
    ∷ nat_le (2 ^ 6) r.flags
    ∷ not (r.zeros == 0)
    -- row 0 with a unit, the mark in a unit row, a free row whose flags are not blank
    ∷ (i == 0 && not (has_mark bounds r))
    ∷ (has_mark bounds r && has_unit_bit r)
    ∷ (has_mark bounds r && (not (i == 0) && not (r.flags == number_with (flag_bits blank false))))
    -- a range or a key where there is none, and a range row without a good one
    ∷ ((has_mark bounds r || has_unit_bit r) && not (is_bare r))
    ∷ (not (has_mark bounds r || has_unit_bit r) && bad_serial next r.serial)
    ∷ []

-- some unit's record or some row's
unfoldable pub records_are_faulty : Bounds → ℕ → List LogicalUnit → List RowRecord → Bool
records_are_faulty bounds next units records =
    list_any (λ u. one_of (unit_faults bounds next u)) units
    || list_any (λ entry. one_of (row_faults bounds next entry.0 entry.1)) (enumerate_from 0 records)

-- 27: what is wrong between records
abbrev pub kind_faults : List LogicalUnit → List Row → ℕ → Kind → List Bool
kind_faults units rows i Free = []
kind_faults units rows i Global = []
-- no such unit, or another unit row of it
kind_faults units rows i (UnitRow u) =
    not (exists u units)
    ∷ has_unit_row u (other_rows rows i)
    ∷ []
-- no such unit, no unit row, past the unit, or a block that another range row has too
kind_faults units rows i (RangeRow u start length serial) =
    not (exists u units)
    ∷ not (has_unit_row u rows)
    ∷ ends_past units u start length
    ∷ shares_block (other_rows rows i) u start length
    ∷ []

abbrev pub relation_faults : List LogicalUnit → List Row → List Bool
relation_faults units rows =
    not (rises (λ u. u.number) 0 units)
    ∷ not (distinct (serials units rows))
    ∷ list_any (λ entry. one_of (kind_faults units rows entry.0 entry.1.kind)) (numbered rows)
    ∷ []

unfoldable pub relations_are_faulty : List LogicalUnit → List Row → Bool
relations_are_faulty units rows = one_of (relation_faults units rows)

-- ---- Load's checks
-- those of the sheet alone
abbrev pub sheet_checks : Bounds → List ℕ → List (Bool × Cause)
sheet_checks bounds s =
    (header_is_faulty bounds (length s) (header_of s), SheetHeader)
    ∷ (records_are_faulty bounds (header_of s).next (units_on s) (rows_on s), SheetField)
    ∷ (relations_are_faulty (units_on s) (rows_described bounds s), SheetRelation)
    ∷ []

abbrev pub sheet_refusal : Bounds → List ℕ → Option Cause
sheet_refusal bounds s = first_of (sheet_checks bounds s)

-- the vault holds just these serials
abbrev pub holds_just : List ℕ → Meaning → Bool
holds_just words vault = list_eq vault.held (collect words)

-- the vault's capacity, then the sheet, and then the vault's keys against the sheet
abbrev pub load_checks : Bounds → Meaning → List ℕ → List (Bool × Cause)
load_checks bounds vault s =
    (not (can_be_capacity vault.capacity), Closed)
    ∷ (sheet_checks bounds s
    ++ (not (holds_just (serials (units_on s) (rows_described bounds s)) vault), OtherKeys)
    ∷ [])

abbrev pub load_refusal : Bounds → Meaning → List ℕ → Option Cause
load_refusal bounds vault s = first_of (load_checks bounds vault s)

abbrev pub load_check : Bounds → Meaning → List ℕ → Done
load_check bounds vault s = answer (load_refusal bounds vault s) tt

-- closed, with nothing on it
abbrev pub shut : Bounds → Meaning → Drive
shut bounds vault = record (fresh bounds vault) { closed = true }

-- the drive that the sheet describes; a closed one where the check refuses
abbrev pub load : Bounds → Meaning → List ℕ → Drive
load bounds vault s = unless (load_refusal bounds vault s) (shut bounds vault) (drive_on bounds vault s)
