-- What holds of every run: a drive that is blank or that a sheet can describe, and then any list of calls, accepted or refused.
use Rattle.std.specs.Prelude.{◌≡◌, ℕ, ◌+◌, ◌<◌, ◌≤◌, Bool, true, false, ◌&&◌, ◌⊎◌, List, length, None, Ok, Err, filter, nat_lt, slice_index_or}
use Rattle.std.specs.List.{scan}
use Rattle.vault.specs.Meaning.{Meaning, sound}
use Rattle.vault.specs.Serials.{holds}
use Rattle.rules.specs.declared.access.Access.{Access}
use Rattle.rules.specs.declared.call.Accepted.TheVariants.{Success}
use Rattle.rules.specs.declared.call.Call.{Call}
use Rattle.rules.specs.declared.call.Call.TheVariants.{SetLocks, Reset}
use Rattle.rules.specs.declared.cause.Cause.{Cause}
use Rattle.rules.specs.declared.row.Flags.{Flags}
use Rattle.rules.specs.declared.row.Kind.TheVariants.{UnitRow, RangeRow}
use Rattle.rules.specs.declared.unit.Holder.{Holder}
use Rattle.rules.specs.Calls.{Answer, after, answer, is_accepted}
use Rattle.rules.specs.Drive.{Drive, row_of, kind_of, unused_keys}
use Rattle.rules.specs.FreshKeys.{HasKey, key_of}
use Rattle.rules.specs.LayingOut.{fresh_refusal, fresh}
use Rattle.rules.specs.Questions.{block_locked, control_of}
use Rattle.rules.specs.Requests.{NoneRefused, requests}
use Rattle.rules.specs.Rows.{covers, is_range_row, controlling_row}
use Rattle.rules.specs.Sessions.{owner}
use Rattle.rules.specs.Sound.{Sound}
use Rattle.rules.specs.Units.{exists, unit}
use Rattle.rules.specs.Walk.{points_by}

-- ---- runs
-- a blank drive: laid out over a vault that the check does not refuse
abbrev pub Blank : Drive → Type 0
Blank d = (vault : Meaning) × (sound vault ≡ true) × (fresh_refusal vault ≡ None) × (d ≡ fresh d.numbering vault)

-- where a run begins
abbrev pub Begins : Drive → Type 0
Begins d = Blank d ⊎ Sound d

-- point 0 is the beginning, and point k + 1 the end of call k
abbrev pub point : Drive → List Call → ℕ → Drive
point d calls k = slice_index_or (points_by after d calls) k d

abbrev pub call_at : List Call → ℕ → Call
call_at calls k = slice_index_or calls k (Reset 0)

-- what the definitions answer, call by call
abbrev pub answers : Drive → List Call → List Answer
answers d calls = scan after answer d calls

abbrev pub answer_at : List Answer → ℕ → Answer
answer_at given k = slice_index_or given k (Ok Success)

-- What is said below of one run takes where it begins and its calls; and, where it speaks of answers, those that were given.
-- A law says it of every run, where the answers given are those of the definitions.
abbrev pub EachPoint : (Drive → Type 0) → Drive → List Call → Type 0
EachPoint Law d calls = (k : ℕ) → k ≤ length calls → Law (point d calls k)

abbrev pub AtEveryPoint : (Drive → Type 0) → Type 0
AtEveryPoint Law = (d : Drive) → Begins d → (calls : List Call) → EachPoint Law d calls

-- ---- a sheet can describe the drive at every point
abbrev pub StaysSound : Type 0
StaysSound = AtEveryPoint Sound

-- ---- range rows of one unit share no block, end inside the unit and stand under exactly one unit row
pub record RangesInOrder (d : Drive) : Type 0 where
  pub apart : (i j n start length serial start' length' serial' block : ℕ)
      → kind_of d i ≡ RangeRow n start length serial → kind_of d j ≡ RangeRow n start' length' serial'
      → covers start length block ≡ true → covers start' length' block ≡ true → i ≡ j
  pub inside : (r n start length serial : ℕ) → kind_of d r ≡ RangeRow n start length serial
      → (exists n d.units ≡ true) × (start + length ≤ (unit n d.units).blocks)
  pub under : (r n start length serial : ℕ) → kind_of d r ≡ RangeRow n start length serial
      → (q : ℕ) × (q < 17) × (kind_of d q ≡ UnitRow n) × ((p : ℕ) → kind_of d p ≡ UnitRow n → p ≡ q)

abbrev pub AlwaysRangesInOrder : Type 0
AlwaysRangesInOrder = AtEveryPoint RangesInOrder

-- ---- the vault holds one key for each unit and each range row, all different, and nothing else; with the unused ones they make up the capacity
abbrev pub holds_key : Drive → ℕ → Bool
holds_key d s = holds s d.vault.held

abbrev pub range_rows : Drive → ℕ
range_rows d = length (filter (λ r. is_range_row r.kind) d.rows)

pub record OneKeyEach (d : Drive) : Type 0 where
  pub held : (holder : Holder) → HasKey d holder → holds_key d (key_of d holder) ≡ true
  pub different : (one other : Holder) → HasKey d one → HasKey d other → key_of d one ≡ key_of d other → one ≡ other
  pub nothing_else : (s : ℕ) → holds_key d s ≡ true → (holder : Holder) × HasKey d holder × (key_of d holder ≡ s)
  pub counted : length d.vault.held ≡ length d.units + range_rows d
  pub in_all : length d.units + range_rows d + unused_keys d ≡ d.vault.capacity

abbrev pub AlwaysOneKeyEach : Type 0
AlwaysOneKeyEach = AtEveryPoint OneKeyEach

-- ---- no request that is listed for an accepted call is refused by the vault, and these leave just what the vault then means
abbrev pub NoRequestRefusedIn : Drive → List Call → List Answer → Type 0
NoRequestRefusedIn d calls given = (k : ℕ) → k < length calls
    → is_accepted (answer_at given k) ≡ true
    → NoneRefused (point d calls k).vault (requests (point d calls k) (call_at calls k)) (point d calls (k + 1)).vault

abbrev pub NoRequestRefused : Type 0
NoRequestRefused = (d : Drive) → Begins d → (calls : List Call) → NoRequestRefusedIn d calls (answers d calls)

-- ---- a key that was held and is no more is never held again
abbrev pub NoKeyReturnsIn : Drive → List Call → Type 0
NoKeyReturnsIn d calls = (s i j k : ℕ) → i ≤ j → j ≤ k → k ≤ length calls
    → holds_key (point d calls i) s ≡ true → holds_key (point d calls j) s ≡ false → holds_key (point d calls k) s ≡ false

abbrev pub NoKeyReturns : Type 0
NoKeyReturns = (d : Drive) → Begins d → (calls : List Call) → NoKeyReturnsIn d calls

-- ---- a lock opens only by its owner or by a fresh key
-- there is such a block
abbrev pub has_block : Drive → ℕ → ℕ → Bool
has_block d n block = exists n d.units && nat_lt block (unit n d.units).blocks

-- its key
abbrev pub block_key : Drive → ℕ → ℕ → ℕ
block_key d n block = (control_of d.rows (unit n d.units) block).serial

-- the block was given a fresh serial: its serial afterwards is not below the next one before, and below the next one after
pub record FreshlyKeyed (before after : Drive) (n block : ℕ) : Type 0 where
  pub there : has_block after n block ≡ true
  pub fresh : before.next ≤ block_key after n block
  pub given : block_key after n block < after.next

-- the block is there, and the call is an accepted SetLocks of the row that controls it, by the owner of that row
pub record SetByOwner (d : Drive) (n block : ℕ) (call : Call) (answered : Answer) : Type 0 where
  pub there : has_block d n block ≡ true
  pub caller : ℕ
  pub flags : Flags
  pub call_is : call ≡ SetLocks caller (controlling_row d.rows n block) flags
  pub owns : caller ≡ owner (controlling_row d.rows n block) (row_of d (controlling_row d.rows n block))
  pub accepted : answered ≡ Ok Success

-- a block that is locked at one point and open at a later one, for reading or for writing
abbrev pub OpenedByOwnerOrFreshKeyIn : Drive → List Call → List Answer → Type 0
OpenedByOwnerOrFreshKeyIn d calls given = (access : Access) (n block i j : ℕ) → i ≤ j → j ≤ length calls
    → has_block (point d calls i) n block ≡ true → block_locked (point d calls i).rows access n block ≡ true
    → has_block (point d calls j) n block ≡ true → block_locked (point d calls j).rows access n block ≡ false
    → (k : ℕ) × (i ≤ k) × (k < j) × (
    FreshlyKeyed (point d calls k) (point d calls (k + 1)) n block
    ⊎ SetByOwner (point d calls k) n block (call_at calls k) (answer_at given k))

abbrev pub OpenedByOwnerOrFreshKey : Type 0
OpenedByOwnerOrFreshKey = (d : Drive) → Begins d → (calls : List Call) → OpenedByOwnerOrFreshKeyIn d calls (answers d calls)

-- ---- a refused call leaves everything as it was
abbrev pub RefusedChangesNothingIn : Drive → List Call → List Answer → Type 0
RefusedChangesNothingIn d calls given = (k : ℕ) (cause : Cause) → k < length calls
    → answer_at given k ≡ Err cause → point d calls (k + 1) ≡ point d calls k

abbrev pub RefusedChangesNothing : Type 0
RefusedChangesNothing = (d : Drive) (calls : List Call) → RefusedChangesNothingIn d calls (answers d calls)
