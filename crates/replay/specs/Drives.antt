-- The drives that the sequences start from, and those between the stages: units with their keys, rows, the next serial, the keys that are held.
use Rattle.std.specs.Prelude.{ℕ, true, false, List, [], ◌∷◌, replicate}
use Rattle.vault.specs.Meaning.{Meaning}
use Rattle.rules.specs.declared.row.Flags.{Flags}
use Rattle.rules.specs.declared.row.Kind.{Kind}
use Rattle.rules.specs.declared.row.Kind.TheVariants.{UnitRow, RangeRow}
use Rattle.rules.specs.declared.row.Row.{Row}
use Rattle.rules.specs.declared.row.Standing.TheVariants.{Shared}
use Rattle.rules.specs.declared.unit.LogicalUnit.{LogicalUnit}
use Rattle.rules.specs.Drive.{Drive}
use Rattle.rules.specs.LayingOut.{fresh}
use Rattle.rules.specs.Rows.{blank, free_row, global_row}
use Rattle.rules.specs.Units.{nvme, scsi}

abbrev pub empty_vault : Meaning
empty_vault = record { capacity = 15; held = [] }

abbrev pub nvme_start : Drive
nvme_start = fresh nvme empty_vault

abbrev pub scsi_start : Drive
scsi_start = fresh scsi empty_vault

-- ---- between the stages
-- four units of 100 blocks, under these keys
abbrev pub four_units : ℕ → ℕ → ℕ → ℕ → List LogicalUnit
four_units a b c d =
    record { number = 1; blocks = 100; serial = a }
    ∷ record { number = 2; blocks = 100; serial = b }
    ∷ record { number = 3; blocks = 100; serial = c }
    ∷ record { number = 4; blocks = 100; serial = d }
    ∷ []

abbrev pub with_blank : Kind → Row
with_blank kind = record { kind = kind; standing = Shared; flags = blank }

abbrev pub drive : List LogicalUnit → List Row → ℕ → List ℕ → Drive
drive units rows next held = record { closed = false; numbering = nvme; units = units; rows = rows; next = next; policy = 1; vault = record { capacity = 15; held = held } }

abbrev pub after_units_made : Drive
after_units_made = drive (four_units 1 2 3 4) (global_row ∷ replicate 16 free_row) 5 (1 ∷ 2 ∷ 3 ∷ 4 ∷ [])

abbrev pub after_ranges_cut : Drive
after_ranges_cut = drive (four_units 1 2 3 4)
    (global_row ∷ with_blank (UnitRow 1) ∷ with_blank (UnitRow 3) ∷ with_blank (RangeRow 1 10 10 5) ∷ with_blank (RangeRow 1 30 10 6) ∷ replicate 12 free_row)
    7 (1 ∷ 2 ∷ 3 ∷ 4 ∷ 5 ∷ 6 ∷ [])

abbrev pub after_ranges_moved : Drive
after_ranges_moved = drive (four_units 1 2 3 4)
    (global_row ∷ with_blank (UnitRow 1) ∷ with_blank (UnitRow 3) ∷ with_blank (RangeRow 1 10 10 5) ∷ free_row ∷ with_blank (RangeRow 3 20 10 7) ∷ with_blank (RangeRow 3 0 0 8) ∷ replicate 10 free_row)
    9 (1 ∷ 2 ∷ 3 ∷ 4 ∷ 5 ∷ 7 ∷ 8 ∷ [])

abbrev pub after_rows_given_up : Drive
after_rows_given_up = drive (four_units 1 9 3 4)
    (global_row ∷ free_row ∷ with_blank (UnitRow 3) ∷ free_row ∷ free_row ∷ with_blank (RangeRow 3 20 10 7) ∷ with_blank (RangeRow 3 0 0 8) ∷ replicate 10 free_row)
    10 (1 ∷ 3 ∷ 4 ∷ 7 ∷ 8 ∷ 9 ∷ [])

abbrev pub after_keys_renewed : Drive
after_keys_renewed = drive (four_units 13 14 10 15)
    (global_row ∷ free_row ∷ with_blank (UnitRow 3) ∷ free_row ∷ free_row ∷ with_blank (RangeRow 3 20 10 11) ∷ with_blank (RangeRow 3 0 0 12) ∷ replicate 10 free_row)
    16 (10 ∷ 11 ∷ 12 ∷ 13 ∷ 14 ∷ 15 ∷ [])

abbrev pub read_locked_only : Flags
read_locked_only = record { read_lock_enabled = true; write_lock_enabled = false; read_locked = true; write_locked = false; lock_on_reset = false }

abbrev pub after_range_locked : Drive
after_range_locked = drive (four_units 13 14 10 15)
    (global_row ∷ with_blank (RangeRow 3 90 10 16) ∷ with_blank (UnitRow 3) ∷ free_row ∷ free_row ∷ record { kind = RangeRow 3 20 10 11; standing = Shared; flags = read_locked_only } ∷ with_blank (RangeRow 3 0 0 12) ∷ replicate 10 free_row)
    17 (10 ∷ 11 ∷ 12 ∷ 13 ∷ 14 ∷ 15 ∷ 16 ∷ [])
