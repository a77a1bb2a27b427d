-- What a sheet can describe: a drive that is in order, over a vault that holds its keys.
use Rattle.std.specs.Prelude.{◌≡◌, ℕ, ◌+◌, ◌^◌, ◌<◌, ◌≤◌, Bool, true, false, ◌&&◌, ◌||◌, List, ◌++◌, map, length, ◌==◌, nat_le, nat_lt}
use Rattle.std.specs.List.{AllByRecursion, list_any}
use Rattle.packed.specs.Rising.{rises}
use Rattle.vault.specs.Kinds.{can_be_capacity}
use Rattle.vault.specs.Meaning.{Meaning, sound}
use Rattle.vault.specs.Serials.{holds, collect, distinct}
use Rattle.rules.specs.declared.numbering.Bounds.{Bounds}
use Rattle.rules.specs.declared.row.Kind.{Kind}
use Rattle.rules.specs.declared.row.Kind.TheVariants.{Free, Global, UnitRow, RangeRow}
use Rattle.rules.specs.declared.row.Row.{Row}
use Rattle.rules.specs.declared.row.Sought.{Sought}
use Rattle.rules.specs.declared.row.Sought.TheVariants.{UnitRowOf, RangeOver}
use Rattle.rules.specs.declared.unit.LogicalUnit.{LogicalUnit}
use Rattle.rules.specs.Drive.{Drive}
use Rattle.rules.specs.Rows.{blank, row, is_free, is_single_user, suits, has_unit_row, key_or}
use Rattle.rules.specs.Units.{valid, exists, unit}

-- ---- units
-- a valid number, 1 to 2^48 blocks, and a key
abbrev pub unit_fits : Bounds → LogicalUnit → Bool
unit_fits bounds u = valid bounds u.number && ((nat_le 1 u.blocks && nat_le u.blocks (2 ^ 48)) && nat_lt 0 u.serial)

pub record SoundUnits (bounds : Bounds) (units : List LogicalUnit) : Type 0 where
  pub few : length units ≤ 16
  pub ordered : rises (λ u. u.number) 0 units ≡ true
  pub each : AllByRecursion (λ u. unit_fits bounds u ≡ true) units

-- ---- rows
abbrev pub is_global : Kind → Bool
is_global Free = false
is_global Global = true
is_global (UnitRow u) = false
is_global (RangeRow u start length serial) = false

-- a row's unit exists; and a range row's unit has a unit row, the range ends inside the unit, and it has a key
abbrev pub row_fits : List LogicalUnit → List Row → Kind → Bool
row_fits units rows Free = true
row_fits units rows Global = true
row_fits units rows (UnitRow u) = exists u units
row_fits units rows (RangeRow u start length serial) =
    (exists u units && has_unit_row u rows) && (nat_le (start + length) (unit u units).blocks && nat_lt 0 serial)

-- no two rows are what is looked for
abbrev pub AtMostOne : Sought → List Row → Type 0
AtMostOne sought rows = (i j : ℕ) → suits sought (row i rows) ≡ true → suits sought (row j rows) ≡ true → i ≡ j

-- seventeen rows, of which row 0 alone is the Global one; free rows have blank flags; a unit has at most one unit row, and a block at most one range row
pub record SoundRows (units : List LogicalUnit) (rows : List Row) : Type 0 where
  pub seventeen : length rows ≡ 17
  pub global : (row 0 rows).kind ≡ Global
  pub others : (r : ℕ) → 0 < r → is_global (row r rows).kind ≡ false
  pub blanks : (r : ℕ) → is_free (row r rows).kind ≡ true → (row r rows).flags ≡ blank
  pub each : (r : ℕ) → row_fits units rows (row r rows).kind ≡ true
  pub unit_rows : (n : ℕ) → AtMostOne (UnitRowOf n) rows
  pub ranges : (n block : ℕ) → AtMostOne (RangeOver n block) rows

-- ---- keys
abbrev pub serial_of : LogicalUnit → ℕ
serial_of u = u.serial

abbrev pub row_key : Row → ℕ
row_key r = key_or r.kind 0

-- the serials of the units, and those of the rows with 0 for a row that has no key of its own
abbrev pub serials : List LogicalUnit → List Row → List ℕ
serials units rows = map serial_of units ++ map row_key rows

-- the vault holds just these serials, which are all different, and each was given before the next one
pub record SoundKeys (next : ℕ) (vault : Meaning) (words : List ℕ) : Type 0 where
  pub meaning : sound vault ≡ true
  pub held : vault.held ≡ collect words
  pub apart : distinct words ≡ true
  pub given : (s : ℕ) → holds s vault.held ≡ true → s < next

-- ---- the drive
-- policy 1, or policy 0 beside a row in Single User Mode
abbrev pub policy_fits : ℕ → List Row → Bool
policy_fits policy rows = policy == 1 || (policy == 0 && list_any (λ r. is_single_user r.standing) rows)

pub record Sound (d : Drive) : Type 0 where
  pub usable : d.closed ≡ false
  pub capacity : can_be_capacity d.vault.capacity ≡ true
  pub next : (0 < d.next) × (d.next ≤ 4294967295)
  pub policy : policy_fits d.policy d.rows ≡ true
  pub units : SoundUnits d.numbering d.units
  pub rows : SoundRows d.units d.rows
  pub keys : SoundKeys d.next d.vault (serials d.units d.rows)
