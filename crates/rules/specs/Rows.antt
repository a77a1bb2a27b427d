-- Rows of the Locking table, by number from 0.
use Rattle.std.specs.Prelude.{ℕ, ◌+◌, ◌-◌, min, max, Bool, true, false, ◌&&◌, ◌||◌, List, map, filter, is_some, Option, ◌==◌, nat_le, nat_lt, slice_index_or, slice_set}
use Rattle.std.specs.List.{enumerate_from}
use Rattle.std.specs.Option.{unwrap_or}
use Rattle.packed.specs.First.{first}
use Rattle.rules.specs.declared.access.Access.{Access}
use Rattle.rules.specs.declared.access.Access.TheVariants.{Read, Write}
use Rattle.rules.specs.declared.row.Flags.{Flags}
use Rattle.rules.specs.declared.row.Kind.{Kind}
use Rattle.rules.specs.declared.row.Kind.TheVariants.{Free, Global, UnitRow, RangeRow}
use Rattle.rules.specs.declared.row.Row.{Row}
use Rattle.rules.specs.declared.row.Sought.{Sought}
use Rattle.rules.specs.declared.row.Sought.TheVariants.{FreeRow, UnitRowOf, RangeRowOf, RangeOver, RangeSharing}
use Rattle.rules.specs.declared.row.Standing.{Standing}
use Rattle.rules.specs.declared.row.Standing.TheVariants.{Shared, SingleUser}

-- ---- flags and locks
-- LockOnReset is true, the rest are false
abbrev pub blank : Flags
blank = record { read_lock_enabled = false; write_lock_enabled = false; read_locked = false; write_locked = false; lock_on_reset = true }

-- a row is locked for reading where that lock is enabled and set; for writing likewise
abbrev pub locked_for : Access → Flags → Bool
locked_for Read f = f.read_lock_enabled && f.read_locked
locked_for Write f = f.write_lock_enabled && f.write_locked

-- a row is locked where it is for the one or the other
abbrev pub locked : Flags → Bool
locked f = locked_for Read f || locked_for Write f

-- one of the two locks is enabled, set or not
abbrev pub lock_enabled : Flags → Bool
lock_enabled f = f.read_lock_enabled || f.write_lock_enabled

-- what a reset makes of the flags: where LockOnReset is true, each lock that is enabled is set
abbrev pub relocked : Flags → Flags
relocked f = record f {
  read_locked = f.read_locked || (f.lock_on_reset && f.read_lock_enabled);
  write_locked = f.write_locked || (f.lock_on_reset && f.write_lock_enabled);
}

-- ---- one row
abbrev pub free_row : Row
free_row = record { kind = Free; standing = Shared; flags = blank }

abbrev pub global_row : Row
global_row = record { kind = Global; standing = Shared; flags = blank }

-- the row with this number; a free one for a number above 16, which no accepted call meets
abbrev pub row : ℕ → List Row → Row
row r rows = slice_index_or rows r free_row

abbrev pub is_free : Kind → Bool
is_free Free = true
is_free Global = false
is_free (UnitRow u) = false
is_free (RangeRow u start length serial) = false

abbrev pub is_a_unit_row : Kind → Bool
is_a_unit_row Free = false
is_a_unit_row Global = false
is_a_unit_row (UnitRow u) = true
is_a_unit_row (RangeRow u start length serial) = false

abbrev pub is_range_row : Kind → Bool
is_range_row Free = false
is_range_row Global = false
is_range_row (UnitRow u) = false
is_range_row (RangeRow u start length serial) = true

-- the unit that a row is for, else this number
abbrev pub unit_or : Kind → ℕ → ℕ
unit_or Free other = other
unit_or Global other = other
unit_or (UnitRow u) other = u
unit_or (RangeRow u start length serial) other = u

-- the key of a range row, else this one
abbrev pub key_or : Kind → ℕ → ℕ
key_or Free other = other
key_or Global other = other
key_or (UnitRow u) other = other
key_or (RangeRow u start length serial) other = serial

-- a range row under another key
abbrev pub with_serial : ℕ → Kind → Kind
with_serial serial Free = Free
with_serial serial Global = Global
with_serial serial (UnitRow u) = UnitRow u
with_serial serial (RangeRow u start length own) = RangeRow u start length serial

-- a range row over other blocks
abbrev pub with_range : ℕ → ℕ → Kind → Kind
with_range start length Free = Free
with_range start length Global = Global
with_range start length (UnitRow u) = UnitRow u
with_range start length (RangeRow u old_start old_length serial) = RangeRow u start length serial

abbrev pub is_single_user : Standing → Bool
is_single_user Shared = false
is_single_user SingleUser = true

abbrev pub same_standing : Standing → Standing → Bool
same_standing Shared Shared = true
same_standing Shared SingleUser = false
same_standing SingleUser Shared = false
same_standing SingleUser SingleUser = true

-- ---- one row changed, the others as they are
abbrev pub with_row : ℕ → Row → List Row → List Row
with_row r new rows = slice_set rows r new

abbrev pub with_flags : Flags → Row → Row
with_flags flags r = record r { flags = flags }

abbrev pub with_kind : Kind → Row → Row
with_kind kind r = record r { kind = kind }

-- a row that is taken, or given up: it keeps its standing, and its flags are blank
abbrev pub anew : Kind → Row → Row
anew kind r = record r { kind = kind; flags = blank }

-- ---- ranges of blocks: the first block, and how many
-- a range from start, so many blocks long, has this block
abbrev pub covers : ℕ → ℕ → ℕ → Bool
covers start length block = nat_le start block && nat_lt (block - start) length

-- two ranges share a block: the later start lies before the earlier end
abbrev pub shares : ℕ → ℕ → ℕ → ℕ → Bool
shares start length other other_length = nat_lt (max start other) (min (start + length) (other + other_length))

-- ---- searches
-- the unit row of this unit
abbrev pub unit_row_of : ℕ → Kind → Bool
unit_row_of n Free = false
unit_row_of n Global = false
unit_row_of n (UnitRow u) = u == n
unit_row_of n (RangeRow u start length serial) = false

-- a range row of this unit
abbrev pub range_row_of : ℕ → Kind → Bool
range_row_of n Free = false
range_row_of n Global = false
range_row_of n (UnitRow u) = false
range_row_of n (RangeRow u start length serial) = u == n

-- one that covers this block
abbrev pub range_over : ℕ → ℕ → Kind → Bool
range_over n block Free = false
range_over n block Global = false
range_over n block (UnitRow u) = false
range_over n block (RangeRow u start length serial) = u == n && covers start length block

-- one that shares a block with this range
abbrev pub range_sharing : ℕ → ℕ → ℕ → Kind → Bool
range_sharing n other other_length Free = false
range_sharing n other other_length Global = false
range_sharing n other other_length (UnitRow u) = false
range_sharing n other other_length (RangeRow u start length serial) = u == n && shares start length other other_length

-- a row is what is looked for
abbrev pub suits : Sought → Row → Bool
suits (FreeRow standing) r = is_free r.kind && same_standing standing r.standing
suits (UnitRowOf n) r = unit_row_of n r.kind
suits (RangeRowOf n) r = range_row_of n r.kind
suits (RangeOver n block) r = range_over n block r.kind
suits (RangeSharing n start length) r = range_sharing n start length r.kind

-- the lowest row that is looked for
abbrev pub lowest_row : Sought → List Row → Option ℕ
lowest_row sought rows = first (suits sought) rows

abbrev pub is_there : Sought → List Row → Bool
is_there sought rows = is_some (lowest_row sought rows)

-- the unit has a unit row
abbrev pub has_unit_row : ℕ → List Row → Bool
has_unit_row n rows = is_there (UnitRowOf n) rows

-- each row with its number
abbrev pub numbered : List Row → List (ℕ × Row)
numbered rows = enumerate_from 0 rows

-- the numbers of all the rows that are looked for, rising
unfoldable pub all_rows : Sought → List Row → List ℕ
all_rows sought rows = map (λ entry. entry.0) (filter (λ entry. suits sought entry.1) (numbered rows))

-- ---- the row of a unit, and of a block
-- the row that a unit is under: its unit row, else row 0
abbrev pub row_under : List Row → ℕ → ℕ
row_under rows n = unwrap_or (lowest_row (UnitRowOf n) rows) 0

-- the row that controls a block: the range row of its unit that covers it, else the row that the unit is under
abbrev pub controlling_row : List Row → ℕ → ℕ → ℕ
controlling_row rows n block = unwrap_or (lowest_row (RangeOver n block) rows) (row_under rows n)
