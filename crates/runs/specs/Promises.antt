-- What is promised of every run.
use Rattle.std.specs.Prelude.{◌≡◌, ℕ, ◌<◌, ◌≤◌, cond, List, map, length, take, Err, MatchResult, nat_lt}
use Rattle.vault.specs.Meaning.{Meaning}
use Rattle.rules.specs.declared.call.Call.{Call}
use Rattle.rules.specs.declared.call.Call.TheVariants.{Assign, Deassign, SetRange, SetLocks, GenKey, Erase, Reactivate, Create, Delete, Format, Reset}
use Rattle.rules.specs.declared.cause.Cause.{Cause}
use Rattle.rules.specs.declared.cause.Cause.TheVariants.{OutOfBounds, Closed}
use Rattle.rules.specs.declared.numbering.Bounds.{Bounds}
use Rattle.rules.specs.Calls.{Answer, answer}
use Rattle.rules.specs.Drive.{Drive}
use Rattle.rules.specs.Laws.{point, call_at, answer_at, EachPoint, RangesInOrder, OneKeyEach, NoRequestRefusedIn, NoKeyReturnsIn, OpenedByOwnerOrFreshKeyIn, RefusedChangesNothingIn}
use Rattle.rules.specs.Sound.{Sound}
use Rattle.runs.specs.declared.source.Source.{Source}
use Rattle.runs.specs.LayingOut.{laying_check, laid_out}
use Rattle.runs.specs.Steps.{after_all}

-- ---- where a table could be laid out
-- of a run that began at the first drive and ended at the last one: what its calls were answered, and what held meanwhile
pub record KeepsEveryLaw (first : Drive) (calls : List Call) (given : List Answer) (last : Drive) : Type 0 where
  -- there is one answer to each call, the one of the definitions at the point where the call is made
  pub each_answered : length given ≡ length calls
  pub answered : (k : ℕ) → k < length calls → answer_at given k ≡ answer (point first calls k) (call_at calls k)
  -- each point is what the calls before it leave, and the run ends at the last point
  pub points : (k : ℕ) → k ≤ length calls → point first calls k ≡ after_all first (take k calls)
  pub ends : last ≡ point first calls (length calls)
  -- at every point a sheet can describe the drive
  pub sound : EachPoint Sound first calls
  -- at every point range rows of one unit share no block, end inside the unit and stand under exactly one unit row
  pub ranges_in_order : EachPoint RangesInOrder first calls
  -- at every point the vault holds one key for each unit and each range row, all different, and nothing else
  pub one_key_each : EachPoint OneKeyEach first calls
  -- the vault refuses no request that is listed for an accepted call
  pub no_request_refused : NoRequestRefusedIn first calls given
  -- a key that has left the vault never stands there again
  pub no_key_returns : NoKeyReturnsIn first calls
  -- a block that was locked and is open was given a fresh key since, or its row's owner set the row's locks
  pub opened_by_owner_or_fresh_key : OpenedByOwnerOrFreshKeyIn first calls given
  -- a refused call leaves everything as it was
  pub refused_changes_nothing : RefusedChangesNothingIn first calls given

-- ---- where none could be: the table is closed
-- no session is opened for a caller above 17 (20), and any other call is refused by the closed table (29)
abbrev pub cause_in_session : ℕ → Cause
cause_in_session caller = cond (nat_lt 17 caller) OutOfBounds Closed

abbrev pub cause_when_closed : Call → Cause
cause_when_closed (Assign caller n start length standing) = cause_in_session caller
cause_when_closed (Deassign caller r keep) = cause_in_session caller
cause_when_closed (SetRange caller r start length) = cause_in_session caller
cause_when_closed (SetLocks caller r flags) = cause_in_session caller
cause_when_closed (GenKey caller r) = cause_in_session caller
cause_when_closed (Erase caller r) = cause_in_session caller
cause_when_closed (Reactivate caller selection policy) = cause_in_session caller
cause_when_closed (Create n blocks) = Closed
cause_when_closed (Delete n) = Closed
cause_when_closed (Format n) = Closed
cause_when_closed (Reset caller) = cause_in_session caller

-- every call is refused, and the run ends where it began
pub record RefusesEveryCall (first : Drive) (calls : List Call) (given : List Answer) (last : Drive) : Type 0 where
  pub refused : given ≡ map (λ call. Err (cause_when_closed call)) calls
  pub unchanged : last ≡ first

-- ---- either way
-- a run over a vault with this meaning, laid out from this source
abbrev pub RunsByTheRules : Bounds → Meaning → Source → List Call → List Answer → Drive → Type 0
RunsByTheRules bounds vault source calls given last = MatchResult (laying_check bounds vault source)
    (λ _. KeepsEveryLaw (laid_out bounds vault source) calls given last)
    (λ _. RefusesEveryCall (laid_out bounds vault source) calls given last)
