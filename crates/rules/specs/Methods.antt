-- The methods, through a writing session of a caller: for each its checks in their order, what it leaves, and what it answers.
use Rattle.std.specs.Prelude.{ℕ, ◌+◌, ◌/◌, ◌%◌, ◌^◌, Bool, cond, not, ◌&&◌, ◌||◌, List, [], ◌∷◌, map, length, Option, Result, ◌==◌, count_ones, nat_le, nat_lt}
use Rattle.std.specs.List.{list_any}
use Rattle.std.specs.Option.{unwrap_or}
use Rattle.vault.specs.Checks.{answer, unless}
use Rattle.vault.specs.Meaning.{put_after, drop_after}
use Rattle.rules.specs.declared.cause.Cause.{Cause}
use Rattle.rules.specs.declared.cause.Cause.TheVariants.{CallerNotAllowed, NoSuchRow, RowFree, WrongKind, NoSuchUnit, PastUnit, SharesBlock, FirstNotWhole, NoFreeRow, NoUnusedKey, SerialsRunOut, Locked, SingleUserInTheWay, KeepOnRange, RangeRowsRemain, OutOfBounds, LockEnabled}
use Rattle.rules.specs.declared.row.Flags.{Flags}
use Rattle.rules.specs.declared.row.Kind.{Kind}
use Rattle.rules.specs.declared.row.Kind.TheVariants.{Free, Global, UnitRow, RangeRow}
use Rattle.rules.specs.declared.row.Row.{Row}
use Rattle.rules.specs.declared.row.Sought.TheVariants.{FreeRow, RangeRowOf, RangeSharing}
use Rattle.rules.specs.declared.row.Standing.{Standing}
use Rattle.rules.specs.declared.row.Standing.TheVariants.{Shared, SingleUser}
use Rattle.rules.specs.declared.unit.Holder.TheVariants.{TheUnit}
use Rattle.rules.specs.declared.unit.LogicalUnit.{LogicalUnit}
use Rattle.rules.specs.Causes.{Done}
use Rattle.rules.specs.Drive.{Drive, with_rows, with_policy, with_vault, row_of, kind_of, unit_of, single_user, row_locked, spent, run_out, unused_keys, refused_by}
use Rattle.rules.specs.FreshKeys.{fresh_key, fresh_keys, renewed_by}
use Rattle.rules.specs.Rows.{blank, lock_enabled, is_free, is_a_unit_row, is_range_row, with_range, with_row, with_flags, with_kind, anew, row, lowest_row, is_there, numbered, row_under, has_unit_row}
use Rattle.rules.specs.Sessions.{admins, owner, mover, is_not}
use Rattle.rules.specs.Units.{exists, unit}

-- ---- ranges of a unit's blocks
-- a range ends past its unit
abbrev pub ends_past : List LogicalUnit → ℕ → ℕ → ℕ → Bool
ends_past units n start length = nat_lt (unit n units).blocks (start + length)

-- it shares a block with a range row of the unit
abbrev pub shares_block : List Row → ℕ → ℕ → ℕ → Bool
shares_block rows n start length = is_there (RangeSharing n start length) rows

-- ---- Assign: a row for a unit, or for a range of a unit that has one
-- the first Assign of a unit gives it a unit row
abbrev pub unit_row_checks : Drive → ℕ → ℕ → Standing → List (Bool × Cause)
unit_row_checks d start length standing =
    (not (start == 0 && length == 0), FirstNotWhole)
    ∷ (single_user d 0, SingleUserInTheWay)
    ∷ (row_locked d 0, Locked)
    ∷ (not (is_there (FreeRow standing) d.rows), NoFreeRow)
    ∷ []

-- any other gives it a range row
abbrev pub range_row_checks : Drive → ℕ → ℕ → ℕ → Standing → List (Bool × Cause)
range_row_checks d n start length standing =
    (ends_past d.units n start length, PastUnit)
    ∷ (shares_block d.rows n start length, SharesBlock)
    ∷ (single_user d (row_under d.rows n), SingleUserInTheWay)
    ∷ (row_locked d (row_under d.rows n), Locked)
    ∷ (not (is_there (FreeRow standing) d.rows), NoFreeRow)
    ∷ ((unused_keys d == 0), NoUnusedKey)
    ∷ (run_out 1 d, SerialsRunOut)
    ∷ []

abbrev pub assign_checks : Drive → ℕ → ℕ → ℕ → ℕ → Standing → List (Bool × Cause)
assign_checks d caller n start length standing =
    (is_not caller admins, CallerNotAllowed)
    ∷ (not (exists n d.units), NoSuchUnit)
    ∷ cond (has_unit_row n d.rows) (range_row_checks d n start length standing) (unit_row_checks d start length standing)

abbrev pub assign_refusal : Drive → ℕ → ℕ → ℕ → ℕ → Standing → Option Cause
assign_refusal d caller n start length standing = refused_by d (assign_checks d caller n start length standing)

-- the lowest free row of the standing that is wanted; 0 where there is none, which no accepted call meets
abbrev pub row_to_take : Drive → Standing → ℕ
row_to_take d standing = unwrap_or (lowest_row (FreeRow standing) d.rows) 0

-- row r becomes one of this kind, with blank flags; its standing stays
abbrev pub become : Drive → ℕ → Kind → List Row
become d r kind = with_row r (anew kind (row_of d r)) d.rows

-- the unit's key stays
abbrev pub unit_row_assigned : Drive → ℕ → Standing → Drive
unit_row_assigned d n standing = with_rows (become d (row_to_take d standing) (UnitRow n)) d

-- the range row gets a fresh key, which is put
abbrev pub range_row_assigned : Drive → ℕ → ℕ → ℕ → Standing → Drive
range_row_assigned d n start length standing =
    spent 1 (with_vault (put_after d.vault d.next) (with_rows (become d (row_to_take d standing) (RangeRow n start length d.next)) d))

abbrev pub assigned : Drive → ℕ → ℕ → ℕ → Standing → Drive
assigned d n start length standing =
    cond (has_unit_row n d.rows) (range_row_assigned d n start length standing) (unit_row_assigned d n standing)

abbrev pub assign_after : Drive → ℕ → ℕ → ℕ → ℕ → Standing → Drive
assign_after d caller n start length standing = unless (assign_refusal d caller n start length standing) d (assigned d n start length standing)

-- the row's number, and whether it is a unit row
abbrev pub assigned_row : Drive → ℕ → Standing → ℕ × Bool
assigned_row d n standing = (row_to_take d standing, not (has_unit_row n d.rows))

abbrev pub assign_answer : Drive → ℕ → ℕ → ℕ → ℕ → Standing → Result (ℕ × Bool) Cause
assign_answer d caller n start length standing = answer (assign_refusal d caller n start length standing) (assigned_row d n standing)

-- ---- Deassign: a row is given up
-- what takes its blocks over: the unit row of its unit for a range row, row 0 for a unit row
abbrev pub receiver : Drive → ℕ → ℕ
receiver d r = cond (is_range_row (kind_of d r)) (row_under d.rows (unit_of d r)) 0

abbrev pub deassign_checks : Drive → ℕ → ℕ → Bool → List (Bool × Cause)
deassign_checks d caller r keep =
    (nat_lt 16 r, NoSuchRow)
    ∷ (is_free (kind_of d r), RowFree)
    ∷ ((r == 0), WrongKind)
    ∷ (is_not caller admins, CallerNotAllowed)
    ∷ (single_user d r || single_user d (receiver d r), SingleUserInTheWay)
    ∷ (keep && is_range_row (kind_of d r), KeepOnRange)
    ∷ (is_a_unit_row (kind_of d r) && is_there (RangeRowOf (unit_of d r)) d.rows, RangeRowsRemain)
    ∷ (row_locked d r || row_locked d (receiver d r), Locked)
    ∷ ((is_a_unit_row (kind_of d r) && not keep) && run_out 1 d, SerialsRunOut)
    ∷ []

abbrev pub deassign_refusal : Drive → ℕ → ℕ → Bool → Option Cause
deassign_refusal d caller r keep = refused_by d (deassign_checks d caller r keep)

-- the row becomes free
abbrev pub freed : Drive → ℕ → Drive
freed d r = with_rows (become d r Free) d

-- a range row's key is dropped; a unit row's unit keeps its key, or gets a fresh one
abbrev pub given_up : Drive → ℕ → Bool → Kind → Drive
given_up d r keep Free = d
given_up d r keep Global = d
given_up d r keep (UnitRow u) = cond keep (freed d r) (fresh_key (freed d r) (TheUnit u))
given_up d r keep (RangeRow u start length serial) = with_vault (drop_after d.vault serial) (freed d r)

abbrev pub deassigned : Drive → ℕ → Bool → Drive
deassigned d r keep = given_up d r keep (kind_of d r)

abbrev pub deassign_after : Drive → ℕ → ℕ → Bool → Drive
deassign_after d caller r keep = unless (deassign_refusal d caller r keep) d (deassigned d r keep)

abbrev pub deassign_answer : Drive → ℕ → ℕ → Bool → Done
deassign_answer d caller r keep = answer (deassign_refusal d caller r keep) tt

-- ---- SetRange: a range row over other blocks
-- the rows with row r as if it were free
abbrev pub other_rows : List Row → ℕ → List Row
other_rows rows r = with_row r (anew Free (row r rows)) rows

abbrev pub set_range_checks : Drive → ℕ → ℕ → ℕ → ℕ → List (Bool × Cause)
set_range_checks d caller r start length =
    (nat_lt 16 r, NoSuchRow)
    ∷ (is_free (kind_of d r), RowFree)
    ∷ (not (is_range_row (kind_of d r)), WrongKind)
    ∷ (is_not caller (mover d.policy r (row_of d r)), CallerNotAllowed)
    ∷ (ends_past d.units (unit_of d r) start length, PastUnit)
    ∷ (shares_block (other_rows d.rows r) (unit_of d r) start length, SharesBlock)
    ∷ (row_locked d r || row_locked d (row_under d.rows (unit_of d r)), Locked)
    ∷ []

abbrev pub set_range_refusal : Drive → ℕ → ℕ → ℕ → ℕ → Option Cause
set_range_refusal d caller r start length = refused_by d (set_range_checks d caller r start length)

-- the key and the flags stay
abbrev pub range_set : Drive → ℕ → ℕ → ℕ → Drive
range_set d r start length = with_rows (with_row r (with_kind (with_range start length (kind_of d r)) (row_of d r)) d.rows) d

abbrev pub set_range_after : Drive → ℕ → ℕ → ℕ → ℕ → Drive
set_range_after d caller r start length = unless (set_range_refusal d caller r start length) d (range_set d r start length)

abbrev pub set_range_answer : Drive → ℕ → ℕ → ℕ → ℕ → Done
set_range_answer d caller r start length = answer (set_range_refusal d caller r start length) tt

-- ---- SetLocks: the five flags of a row
abbrev pub set_locks_checks : Drive → ℕ → ℕ → List (Bool × Cause)
set_locks_checks d caller r =
    (nat_lt 16 r, NoSuchRow)
    ∷ (is_free (kind_of d r), RowFree)
    ∷ (is_not caller (owner r (row_of d r)), CallerNotAllowed)
    ∷ []

abbrev pub set_locks_refusal : Drive → ℕ → ℕ → Option Cause
set_locks_refusal d caller r = refused_by d (set_locks_checks d caller r)

abbrev pub locks_set : Drive → ℕ → Flags → Drive
locks_set d r flags = with_rows (with_row r (with_flags flags (row_of d r)) d.rows) d

abbrev pub set_locks_after : Drive → ℕ → ℕ → Flags → Drive
set_locks_after d caller r flags = unless (set_locks_refusal d caller r) d (locks_set d r flags)

abbrev pub set_locks_answer : Drive → ℕ → ℕ → Done
set_locks_answer d caller r = answer (set_locks_refusal d caller r) tt

-- ---- GenKey: fresh keys
abbrev pub gen_key_checks : Drive → ℕ → ℕ → List (Bool × Cause)
gen_key_checks d caller r =
    (nat_lt 16 r, NoSuchRow)
    ∷ (is_free (kind_of d r), RowFree)
    ∷ (is_not caller (owner r (row_of d r)), CallerNotAllowed)
    ∷ (run_out (length (renewed_by d r)) d, SerialsRunOut)
    ∷ []

abbrev pub gen_key_refusal : Drive → ℕ → ℕ → Option Cause
gen_key_refusal d caller r = refused_by d (gen_key_checks d caller r)

abbrev pub key_generated : Drive → ℕ → Drive
key_generated d r = fresh_keys d (renewed_by d r)

abbrev pub gen_key_after : Drive → ℕ → ℕ → Drive
gen_key_after d caller r = unless (gen_key_refusal d caller r) d (key_generated d r)

abbrev pub gen_key_answer : Drive → ℕ → ℕ → Done
gen_key_answer d caller r = answer (gen_key_refusal d caller r) tt

-- ---- Erase: what GenKey does, and then blank flags
abbrev pub erase_checks : Drive → ℕ → ℕ → List (Bool × Cause)
erase_checks d caller r =
    (nat_lt 16 r, NoSuchRow)
    ∷ (is_free (kind_of d r), RowFree)
    ∷ (not (single_user d r), WrongKind)
    ∷ (is_not caller (owner r (row_of d r)) && is_not caller admins, CallerNotAllowed)
    ∷ (run_out (length (renewed_by d r)) d, SerialsRunOut)
    ∷ []

abbrev pub erase_refusal : Drive → ℕ → ℕ → Option Cause
erase_refusal d caller r = refused_by d (erase_checks d caller r)

abbrev pub erased : Drive → ℕ → Drive
erased d r = locks_set (key_generated d r) r blank

abbrev pub erase_after : Drive → ℕ → ℕ → Drive
erase_after d caller r = unless (erase_refusal d caller r) d (erased d r)

abbrev pub erase_answer : Drive → ℕ → ℕ → Done
erase_answer d caller r = answer (erase_refusal d caller r) tt

-- ---- Reactivate: which rows are in Single User Mode
abbrev pub reactivate_checks : Drive → ℕ → ℕ → ℕ → List (Bool × Cause)
reactivate_checks d caller selection policy =
    (is_not caller admins, CallerNotAllowed)
    ∷ (nat_le (2 ^ 17) selection || nat_lt 1 policy, OutOfBounds)
    ∷ (list_any (λ r. lock_enabled r.flags) d.rows, LockEnabled)
    ∷ []

abbrev pub reactivate_refusal : Drive → ℕ → ℕ → ℕ → Option Cause
reactivate_refusal d caller selection policy = refused_by d (reactivate_checks d caller selection policy)

-- bit r of the selection is for row r
abbrev pub selected : ℕ → ℕ → Bool
selected selection r = (selection / 2 ^ r) % 2 == 1

abbrev pub reactivated_row : ℕ → ℕ → Row → Row
reactivated_row selection r old = record old { standing = cond (selected selection r) SingleUser Shared; flags = blank }

-- the policy is 1 where nothing is selected
abbrev pub reactivated : Drive → ℕ → ℕ → Drive
reactivated d selection policy = with_policy (cond (selection == 0) 1 policy) (with_rows (map (λ entry. reactivated_row selection entry.0 entry.1) (numbered d.rows)) d)

abbrev pub reactivate_after : Drive → ℕ → ℕ → ℕ → Drive
reactivate_after d caller selection policy = unless (reactivate_refusal d caller selection policy) d (reactivated d selection policy)

-- how many rows the selection puts in Single User Mode: the bits of it that are set
abbrev pub rows_selected : ℕ → ℕ
rows_selected selection = count_ones selection

abbrev pub reactivate_answer : Drive → ℕ → ℕ → ℕ → Result ℕ Cause
reactivate_answer d caller selection policy = answer (reactivate_refusal d caller selection policy) (rows_selected selection)
