-- The model of a drive: what the calls are about, however it is stored.
use Rattle.std.specs.Prelude.{ℕ, ◌+◌, ◌-◌, Bool, List, ◌∷◌, length, Option, nat_lt}
use Rattle.vault.specs.Checks.{first_of}
use Rattle.vault.specs.Meaning.{Meaning}
use Rattle.rules.specs.declared.cause.Cause.{Cause}
use Rattle.rules.specs.declared.cause.Cause.TheVariants.{Closed}
use Rattle.rules.specs.declared.numbering.Bounds.{Bounds}
use Rattle.rules.specs.declared.row.Kind.{Kind}
use Rattle.rules.specs.declared.row.Row.{Row}
use Rattle.rules.specs.declared.unit.LogicalUnit.{LogicalUnit}
use Rattle.rules.specs.Rows.{row, locked, unit_or, is_single_user}

pub record Drive : Type 0 where
  -- laid out where its check refuses
  pub closed : Bool
  pub numbering : Bounds
  pub units : List LogicalUnit
  pub rows : List Row
  -- the serial that a fresh key gets next
  pub next : ℕ
  pub policy : ℕ
  pub vault : Meaning

-- ---- a drive with one part changed
abbrev pub with_units : List LogicalUnit → Drive → Drive
with_units units d = record d { units = units }

abbrev pub with_rows : List Row → Drive → Drive
with_rows rows d = record d { rows = rows }

abbrev pub with_policy : ℕ → Drive → Drive
with_policy policy d = record d { policy = policy }

abbrev pub with_vault : Meaning → Drive → Drive
with_vault vault d = record d { vault = vault }

-- ---- its rows
-- row r, and what it says
abbrev pub row_of : Drive → ℕ → Row
row_of d r = row r d.rows

abbrev pub kind_of : Drive → ℕ → Kind
kind_of d r = (row_of d r).kind

-- its unit, or the mark where it has none
abbrev pub unit_of : Drive → ℕ → ℕ
unit_of d r = unit_or (kind_of d r) d.numbering.mark

abbrev pub single_user : Drive → ℕ → Bool
single_user d r = is_single_user (row_of d r).standing

abbrev pub row_locked : Drive → ℕ → Bool
row_locked d r = locked (row_of d r).flags

-- ---- its keys
-- n serials more are given out
abbrev pub spent : ℕ → Drive → Drive
spent n d = record d { next = d.next + n }

-- with n more the serials would pass 4,294,967,294, the largest
abbrev pub run_out : ℕ → Drive → Bool
run_out n d = nat_lt 4294967295 (d.next + n)

-- how many keys the vault has room for
abbrev pub unused_keys : Drive → ℕ
unused_keys d = d.vault.capacity - length d.vault.held

-- ---- its refusals
-- a closed table refuses every call; any other refuses by the first check that is true
abbrev pub refused_by : Drive → List (Bool × Cause) → Option Cause
refused_by d checks = first_of ((d.closed, Closed) ∷ checks)
