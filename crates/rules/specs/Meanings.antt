-- What some of the definitions come to, in other words.
use Rattle.std.specs.Prelude.{◌≡◌, ℕ, ◌+◌, ◌<◌, ◌≤◌, true, false, ◌≢◌, List, length, Some, None, Ok, filter, slice_index_or}
use Rattle.std.specs.List.{AllByRecursion}
use Rattle.rules.specs.declared.access.Access.{Access}
use Rattle.rules.specs.declared.call.Accepted.TheVariants.{SingleUserRows}
use Rattle.rules.specs.declared.call.Call.{Call}
use Rattle.rules.specs.declared.call.Call.TheVariants.{Reactivate}
use Rattle.rules.specs.declared.cause.Cause.TheVariants.{BlockLocked}
use Rattle.rules.specs.declared.unit.Holder.{Holder}
use Rattle.rules.specs.declared.unit.Holder.TheVariants.{TheUnit, TheRow}
use Rattle.rules.specs.Commands.{formatted}
use Rattle.rules.specs.Drive.{Drive, kind_of}
use Rattle.rules.specs.FreshKeys.{HasKey, key_of, fresh_keys, renewed_by, unit_and_ranges}
use Rattle.rules.specs.Laws.{Begins, point, call_at, answers, answer_at}
use Rattle.rules.specs.Methods.{key_generated}
use Rattle.rules.specs.Questions.{block_locked, access_refusal}
use Rattle.rules.specs.Rows.{is_single_user, covers, shares, range_row_of, has_unit_row, controlling_row}
use Rattle.rules.specs.Sound.{Sound}
use Rattle.rules.specs.Units.{exists}

-- two ranges share a block just where some block is one of both
abbrev pub SharingIsACommonBlock : Type 0
SharingIsACommonBlock = (start length start' length' : ℕ)
    → (shares start length start' length' ≡ true → (block : ℕ) × (covers start length block ≡ true) × (covers start' length' block ≡ true))
    × ((block : ℕ) → covers start length block ≡ true → covers start' length' block ≡ true → shares start length start' length' ≡ true)

-- an access is denied at the first locked block that it asks for, with that block's row
pub record FirstLocked (d : Drive) (access : Access) (n start count block row : ℕ) : Type 0 where
  pub asked : (start ≤ block) × (block < start + count)
  pub shut : block_locked d.rows access n block ≡ true
  pub row_is : row ≡ controlling_row d.rows n block
  pub first : (earlier : ℕ) → start ≤ earlier → earlier < block → block_locked d.rows access n earlier ≡ false

abbrev pub DeniedAtFirstLockedBlock : Type 0
DeniedAtFirstLockedBlock = (d : Drive) (access : Access) (n start count block row : ℕ)
    → access_refusal d access n start count ≡ Some (BlockLocked block row) → FirstLocked d access n start count block row

-- where it is granted, none of the blocks is locked
abbrev pub GrantedWhereNoneLocked : Type 0
GrantedWhereNoneLocked = (d : Drive) (access : Access) (n start count : ℕ) → access_refusal d access n start count ≡ None
    → (block : ℕ) → start ≤ block → block < start + count → block_locked d.rows access n block ≡ false

-- what Reactivate answers is how many rows are in Single User Mode afterwards
abbrev pub single_user_rows : Drive → ℕ
single_user_rows d = length (filter (λ r. is_single_user r.standing) d.rows)

abbrev pub ReactivateCountsRows : Type 0
ReactivateCountsRows = (d : Drive) → Begins d → (calls : List Call) (k caller selection policy count : ℕ) → k < length calls
    → call_at calls k ≡ Reactivate caller selection policy → answer_at (answers d calls) k ≡ Ok (SingleUserRows count) → single_user_rows (point d calls (k + 1)) ≡ count

-- fresh keys are given in order: the first of these gets the next serial, the second the one after it, and so on; and no other key changes
pub record KeyedInOrder (d : Drive) (holders : List Holder) : Type 0 where
  pub each : (i : ℕ) → i < length holders → key_of (fresh_keys d holders) (slice_index_or holders i (TheUnit 0)) ≡ d.next + i
  pub others : (other : Holder) → HasKey d other → AllByRecursion (λ holder. holder ≢ other) holders → key_of (fresh_keys d holders) other ≡ key_of d other

abbrev pub FreshKeysInOrder : Type 0
FreshKeysInOrder = (d : Drive) → Sound d
    → ((r : ℕ) → KeyedInOrder d (renewed_by d r))
    × ((n : ℕ) → exists n d.units ≡ true → KeyedInOrder d (unit_and_ranges d n))

-- the order is a rising one: by GenKey of row 0 the unit of the lower number gets the lower serial; by Format the unit gets a lower one than its range rows, and of these the lower row does
pub record LowestFirst (d : Drive) : Type 0 where
  pub units : (a b : ℕ) → exists a d.units ≡ true → has_unit_row a d.rows ≡ false → exists b d.units ≡ true → has_unit_row b d.rows ≡ false → a < b
      → key_of (key_generated d 0) (TheUnit a) < key_of (key_generated d 0) (TheUnit b)
  pub unit_first : (n r : ℕ) → exists n d.units ≡ true → range_row_of n (kind_of d r) ≡ true → key_of (formatted d n) (TheUnit n) < key_of (formatted d n) (TheRow r)
  pub rows : (n q r : ℕ) → exists n d.units ≡ true → range_row_of n (kind_of d q) ≡ true → range_row_of n (kind_of d r) ≡ true → q < r
      → key_of (formatted d n) (TheRow q) < key_of (formatted d n) (TheRow r)

abbrev pub FreshKeysRise : Type 0
FreshKeysRise = (d : Drive) → Sound d → LowestFirst d
