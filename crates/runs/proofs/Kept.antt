-- What holds of a run, from the laws; and of one over a closed table.
use Rattle.std.proofs.Common.{◌≡◌, ℕ, Bool, true, false, true≢false, cond, ltb, List, [], ◌∷◌, map, length, Some, None, Ok, Err, Option, refl, sym, ap, ◌∙◌, arith}
use Rattle.std.specs.Option.{option_or}
use Rattle.std.proofs.Math.Seq.{take-length}
use Rattle.std.specs.Prelude.{MatchResult, is_ok}
use Rattle.vault.specs.Checks as checks
use Rattle.vault.specs.Meaning.{Meaning}
use Rattle.rules.specs.declared.call.Call.{Call}
use Rattle.rules.specs.declared.call.Call.TheVariants.{Assign, Deassign, SetRange, SetLocks, GenKey, Erase, Reactivate, Create, Delete, Format, Reset}
use Rattle.rules.specs.declared.cause.Cause.{Cause}
use Rattle.rules.specs.declared.cause.Cause.TheVariants.{OutOfBounds, Closed}
use Rattle.rules.specs.declared.numbering.Bounds.{Bounds}
use Rattle.rules.specs.Calls.{Answer, refusal, left, said, after, answer}
use Rattle.rules.specs.Causes.{Done}
use Rattle.rules.specs.Drive.{Drive}
use Rattle.rules.specs.Laws.{Begins, answers}
use Rattle.rules.specs.Sessions.{in_session}
use Rattle.rules.proofs.Whole.{stays-sound, ranges-in-order, one-key-each, no-request-refused, no-key-returns, opened-by-owner-or-fresh-key, refused-changes-nothing, answered}
use Rattle.runs.specs.Promises.{KeepsEveryLaw, cause_in_session, cause_when_closed, RefusesEveryCall, RunsByTheRules}
use Rattle.runs.specs.declared.source.Source.{Source}
use Rattle.runs.specs.LayingOut.{laying_check, laid_out, BeginsOrIsClosed}
use Rattle.runs.specs.Steps.{after_all}
use Rattle.runs.proofs.Prefixes.{length-scan, point-fold}

refused-in-session : (caller : ℕ) (refused : Option Cause) → refused ≡ Some Closed → in_session caller refused ≡ Some (cause_in_session caller)
refused-in-session caller refused e = go (ltb 17 caller)
  where
    go : (b : Bool) → option_or (cond b (Some OutOfBounds) None) refused ≡ Some (cond b OutOfBounds Closed)
    go true = refl
    go false = e

closed-refuses : (d : Drive) → d.closed ≡ true → (call : Call) → refusal d call ≡ Some (cause_when_closed call)
closed-refuses d e (Assign caller n start len standing) = refused-in-session caller _ (rw e)
closed-refuses d e (Deassign caller r keep) = refused-in-session caller _ (rw e)
closed-refuses d e (SetRange caller r start len) = refused-in-session caller _ (rw e)
closed-refuses d e (SetLocks caller r flags) = refused-in-session caller _ (rw e)
closed-refuses d e (GenKey caller r) = refused-in-session caller _ (rw e)
closed-refuses d e (Erase caller r) = refused-in-session caller _ (rw e)
closed-refuses d e (Reactivate caller selection policy) = refused-in-session caller _ (rw e)
closed-refuses d e (Create n blocks) = rw e
closed-refuses d e (Delete n) = rw e
closed-refuses d e (Format n) = rw e
closed-refuses d e (Reset caller) = refused-in-session caller _ (rw e)

module _ (d : Drive) (closed : d.closed ≡ true) where
  stays : (call : Call) → after d call ≡ d
  stays call = ap (λ (o : Option Cause). checks.unless o d (left d call)) (closed-refuses d closed call)

  tells : (call : Call) → answer d call ≡ Err (cause_when_closed call)
  tells call = ap (λ (o : Option Cause). checks.answer o (said d call)) (closed-refuses d closed call)

  stays-all : (calls : List Call) → after_all d calls ≡ d
  stays-all [] = refl
  stays-all (call ∷ calls) = ap (λ e. after_all e calls) (stays call) ∙ stays-all calls

  tells-all : (calls : List Call) → answers d calls ≡ map (λ call. Err (cause_when_closed call)) calls
  tells-all [] = refl
  tells-all (call ∷ calls) =
      ap (λ a. a ∷ answers (after d call) calls) (tells call)
      ∙ ap (λ e. Err (cause_when_closed call) ∷ answers e calls) (stays call)
      ∙ ap (λ rest. Err (cause_when_closed call) ∷ rest) (tells-all calls)

-- the calls were made on the drive that was laid out
module _ (first laid : Drive) (calls : List Call) (given : List Answer) (last : Drive) (is : laid ≡ first) (told : given ≡ answers laid calls) (ends : last ≡ after_all laid calls) where
  keeps-every-law : Begins first → KeepsEveryLaw first calls given last
  keeps-every-law begins = rw (told, ends, is) (record {
    each_answered = length-scan after answer first calls;
    answered = answered first calls;
    points = point-fold after first calls first;
    ends = ap (after_all first) (sym (take-length calls)) ∙ sym (point-fold after first calls first (length calls) (omega arith));
    sound = stays-sound first begins calls;
    ranges_in_order = ranges-in-order first begins calls;
    one_key_each = one-key-each first begins calls;
    no_request_refused = no-request-refused first begins calls;
    no_key_returns = no-key-returns first begins calls;
    opened_by_owner_or_fresh_key = opened-by-owner-or-fresh-key first begins calls;
    refused_changes_nothing = refused-changes-nothing first calls;
  })

  refuses-every-call : first.closed ≡ true → RefusesEveryCall first calls given last
  refuses-every-call closed = rw (told, ends, is) (record { refused = tells-all first closed calls; unchanged = stays-all first closed calls })

-- a closed table answers no call with success
pub refuses : (d : Drive) → d.closed ≡ true → (call : Call) → is_ok (answer d call) ≡ false
refuses d closed call = ap is_ok (tells d closed call)

-- where the check refuses, the table is closed
pub shut-out : (check : Done) (d : Drive) → BeginsOrIsClosed check d → is_ok check ≡ false → d.closed ≡ true
shut-out (Ok done) d begins e = absurd (true≢false e)
shut-out (Err cause) d closed e = closed

pub by-the-rules : (bounds : Bounds) (vault : Meaning) (source : Source) (laid : Drive) (calls : List Call) (given : List Answer) (last : Drive)
    → laid ≡ laid_out bounds vault source → BeginsOrIsClosed (laying_check bounds vault source) (laid_out bounds vault source)
    → given ≡ answers laid calls → last ≡ after_all laid calls → RunsByTheRules bounds vault source calls given last
by-the-rules bounds vault source laid calls given last is start told ends = go (laying_check bounds vault source) start
  where
    first : Drive
    first = laid_out bounds vault source

    go : (check : Done) → BeginsOrIsClosed check first → MatchResult check (λ _. KeepsEveryLaw first calls given last) (λ _. RefusesEveryCall first calls given last)
    go (Ok done) begins = keeps-every-law first laid calls given last is told ends begins
    go (Err cause) closed = refuses-every-call first laid calls given last is told ends closed
