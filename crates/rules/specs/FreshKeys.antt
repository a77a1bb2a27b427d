-- Fresh keys in the place of old ones.
use Rattle.std.specs.Prelude.{◌≡◌, ℕ, true, not, List, [], ◌∷◌, map, filter}
use Rattle.std.specs.List.{fold}
use Rattle.vault.specs.Meaning.{swap_after}
use Rattle.rules.specs.declared.row.Kind.{Kind}
use Rattle.rules.specs.declared.row.Kind.TheVariants.{Free, Global, UnitRow, RangeRow}
use Rattle.rules.specs.declared.row.Row.{Row}
use Rattle.rules.specs.declared.row.Sought.TheVariants.{RangeRowOf}
use Rattle.rules.specs.declared.unit.Holder.{Holder}
use Rattle.rules.specs.declared.unit.Holder.TheVariants.{TheUnit, TheRow}
use Rattle.rules.specs.declared.unit.LogicalUnit.{LogicalUnit}
use Rattle.rules.specs.Drive.{Drive, with_units, with_rows, with_vault, row_of, kind_of, spent}
use Rattle.rules.specs.Rows.{is_range_row, with_serial, with_kind, with_row, has_unit_row, all_rows, key_or}
use Rattle.rules.specs.Units.{exists, unit, with_key}

-- the key that a unit or a range row has
abbrev pub key_of : Drive → Holder → ℕ
key_of d (TheUnit n) = (unit n d.units).serial
key_of d (TheRow r) = key_or (kind_of d r) 0

-- there is such a unit, or such a range row
abbrev pub HasKey : Drive → Holder → Type 0
HasKey d (TheUnit n) = exists n d.units ≡ true
HasKey d (TheRow r) = is_range_row (kind_of d r) ≡ true

-- a unit or a range row under another key
abbrev pub rekeyed : ℕ → Holder → Drive → Drive
rekeyed serial (TheUnit n) d = with_units (with_key n serial d.units) d
rekeyed serial (TheRow r) d = with_rows (with_row r (with_kind (with_serial serial (kind_of d r)) (row_of d r)) d.rows) d

-- it gets a fresh key, which in the vault is swapped for the old one
abbrev pub fresh_key : Drive → Holder → Drive
fresh_key d holder = spent 1 (with_vault (swap_after d.vault (key_of d holder) d.next) (rekeyed d.next holder d))

-- each of these gets a fresh key, in this order
unfoldable pub fresh_keys : Drive → List Holder → Drive
fresh_keys d holders = fold fresh_key d holders

-- ---- what gets fresh keys
-- the units under row 0, in rising order
abbrev pub units_under_global : List Row → List LogicalUnit → List Holder
units_under_global rows units = map (λ u. TheUnit u.number) (filter (λ u. not (has_unit_row u.number rows)) units)

-- for a range row that row; for a unit row its unit; for row 0 every unit without a unit row
abbrev pub holders_of : Drive → ℕ → Kind → List Holder
holders_of d r Free = []
holders_of d r Global = units_under_global d.rows d.units
holders_of d r (UnitRow u) = TheUnit u ∷ []
holders_of d r (RangeRow u start length serial) = TheRow r ∷ []

-- what GenKey of row r gives fresh keys, in this order
abbrev pub renewed_by : Drive → ℕ → List Holder
renewed_by d r = holders_of d r (kind_of d r)

-- what Format of a unit gives fresh keys, in this order: the unit, then its range rows in rising order
abbrev pub unit_and_ranges : Drive → ℕ → List Holder
unit_and_ranges d n = TheUnit n ∷ map TheRow (all_rows (RangeRowOf n) d.rows)
