-- The commands: for each its checks in their order, what it leaves, and what it answers.
use Rattle.std.specs.Prelude.{ℕ, ◌^◌, Bool, not, ◌&&◌, List, [], ◌∷◌, map, length, Option, ◌==◌, nat_le}
use Rattle.std.specs.List.{list_any}
use Rattle.vault.specs.Checks.{answer, unless}
use Rattle.vault.specs.Meaning.{put_after, drop_after}
use Rattle.rules.specs.declared.cause.Cause.{Cause}
use Rattle.rules.specs.declared.cause.Cause.TheVariants.{NoSuchUnit, UnitExists, BadSize, NoUnusedKey, SerialsRunOut, Locked, HasUnitRow, SixteenUnits}
use Rattle.rules.specs.declared.row.Sought.TheVariants.{RangeRowOf}
use Rattle.rules.specs.declared.unit.LogicalUnit.{LogicalUnit}
use Rattle.rules.specs.Causes.{Done}
use Rattle.rules.specs.Drive.{Drive, with_units, with_rows, with_vault, row_locked, spent, run_out, unused_keys, refused_by}
use Rattle.rules.specs.FreshKeys.{fresh_keys, unit_and_ranges}
use Rattle.rules.specs.Rows.{has_unit_row, relocked, with_flags, all_rows, row_under}
use Rattle.rules.specs.Units.{valid, exists, unit, with_unit, without_unit}

-- ---- Create: a unit with this number and so many blocks
abbrev pub create_checks : Drive → ℕ → ℕ → List (Bool × Cause)
create_checks d n blocks =
    (not (valid d.numbering n), NoSuchUnit)
    ∷ (exists n d.units, UnitExists)
    ∷ (not (nat_le 1 blocks && nat_le blocks (2 ^ 48)), BadSize)
    ∷ (nat_le 16 (length d.units), SixteenUnits)
    ∷ ((unused_keys d == 0), NoUnusedKey)
    ∷ (run_out 1 d, SerialsRunOut)
    ∷ (row_locked d 0, Locked)
    ∷ []

abbrev pub create_refusal : Drive → ℕ → ℕ → Option Cause
create_refusal d n blocks = refused_by d (create_checks d n blocks)

-- a unit under a fresh key
abbrev pub new_unit : Drive → ℕ → ℕ → LogicalUnit
new_unit d n blocks = record { number = n; blocks = blocks; serial = d.next }

-- the unit stands among the others, and its key is put
abbrev pub created : Drive → ℕ → ℕ → Drive
created d n blocks =
    spent 1 (with_vault (put_after d.vault d.next) (with_units (with_unit (new_unit d n blocks) d.units) d))

abbrev pub create_after : Drive → ℕ → ℕ → Drive
create_after d n blocks = unless (create_refusal d n blocks) d (created d n blocks)

abbrev pub create_answer : Drive → ℕ → ℕ → Done
create_answer d n blocks = answer (create_refusal d n blocks) tt

-- ---- Delete: the unit with this number
abbrev pub delete_checks : Drive → ℕ → List (Bool × Cause)
delete_checks d n =
    (not (exists n d.units), NoSuchUnit)
    ∷ (has_unit_row n d.rows, HasUnitRow)
    ∷ (row_locked d 0, Locked)
    ∷ []

abbrev pub delete_refusal : Drive → ℕ → Option Cause
delete_refusal d n = refused_by d (delete_checks d n)

-- the unit is gone, and its key is dropped
abbrev pub deleted : Drive → ℕ → Drive
deleted d n = with_vault (drop_after d.vault (unit n d.units).serial) (with_units (without_unit n d.units) d)

abbrev pub delete_after : Drive → ℕ → Drive
delete_after d n = unless (delete_refusal d n) d (deleted d n)

abbrev pub delete_answer : Drive → ℕ → Done
delete_answer d n = answer (delete_refusal d n) tt

-- ---- Format: fresh keys for a unit and its range rows
abbrev pub format_checks : Drive → ℕ → List (Bool × Cause)
format_checks d n =
    (not (exists n d.units), NoSuchUnit)
    ∷ (list_any (row_locked d) (row_under d.rows n ∷ all_rows (RangeRowOf n) d.rows), Locked)
    ∷ (run_out (length (unit_and_ranges d n)) d, SerialsRunOut)
    ∷ []

abbrev pub format_refusal : Drive → ℕ → Option Cause
format_refusal d n = refused_by d (format_checks d n)

-- flags and ranges stay
abbrev pub formatted : Drive → ℕ → Drive
formatted d n = fresh_keys d (unit_and_ranges d n)

abbrev pub format_after : Drive → ℕ → Drive
format_after d n = unless (format_refusal d n) d (formatted d n)

abbrev pub format_answer : Drive → ℕ → Done
format_answer d n = answer (format_refusal d n) tt

-- ---- Reset: the drive was reset
abbrev pub reset_refusal : Drive → Option Cause
reset_refusal d = refused_by d []

abbrev pub was_reset : Drive → Drive
was_reset d = with_rows (map (λ r. with_flags (relocked r.flags) r) d.rows) d

abbrev pub reset_after : Drive → Drive
reset_after d = unless (reset_refusal d) d (was_reset d)

abbrev pub reset_answer : Drive → Done
reset_answer d = answer (reset_refusal d) tt
