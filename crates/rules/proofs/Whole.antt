-- The laws over runs, from those of one call.
use Rattle.std.proofs.Common.{◌≡◌, ℕ, ◌+◌, ◌<◌, ◌≤◌, true, false, not, List, length, None, Ok, Option, sym, ap, ◌∙◌, subst, inl, inr, ⊎_elim, arith}
use Rattle.std.proofs.lemmas.Bool.Decides.{nat_tests}
use Rattle.std.proofs.lemmas.Bool.{or_right, or_from}
use Rattle.packed.proofs.Order.{has-insert, has-remove}
use Rattle.vault.specs.Checks.{unless}
use Rattle.vault.specs.declared.refusal.VaultRefusal.{VaultRefusal}
use Rattle.vault.specs.Meaning.{Meaning, with_held, put_refusal, swap_refusal, drop_refusal}
use Rattle.vault.specs.Serials.{holds, adds, drops}
use Rattle.vault.proofs.Checks.{unchanged, accepted-only, by_option}
use Rattle.rules.specs.declared.call.Accepted.TheVariants.{Success}
use Rattle.rules.specs.declared.call.Call.{Call}
use Rattle.rules.specs.declared.call.Call.TheVariants.{Reset}
use Rattle.rules.specs.declared.cause.Cause.{Cause}
use Rattle.rules.specs.Calls.{refusal, left, said, after, answer, is_accepted}
use Rattle.rules.specs.Drive.{Drive}
use Rattle.rules.specs.Laws.{Begins, point, call_at, answers, answer_at, StaysSound, AlwaysRangesInOrder, holds_key, AlwaysOneKeyEach, NoRequestRefused, NoKeyReturns, has_block, FreshlyKeyed, SetByOwner, OpenedByOwnerOrFreshKey, RefusedChangesNothing}
use Rattle.rules.specs.Questions.{block_locked}
use Rattle.rules.specs.Requests.{NoneRefused, requests}
use Rattle.rules.specs.Sound.{Sound}
use Rattle.rules.proofs.Beginnings.{fresh-sound}
use Rattle.rules.proofs.Locks.{shut_to, Way, after-opens}
use Rattle.rules.proofs.Points.{ranges-of, keys_of}
use Rattle.rules.proofs.Steps.{left-kept, after-sound, after-of}
use Rattle.rules.proofs.Walks.{always, always-from, answer-at, point-next, stopped-kept}

-- ---- what becomes of the serials
-- a serial below the next one that is not held is not held afterwards
absent-add : (s t : ℕ) (xs : List ℕ) → s < t → holds s xs ≡ false → holds s (adds t xs) ≡ false
absent-add s t xs l h = let e = has-insert (λ x. x) s t xs in grind (arith, nat_tests)

absent-either : (s : ℕ) (o : Option VaultRefusal) (m : Meaning) (xs : List ℕ) → holds s m.held ≡ false → holds s xs ≡ false → holds s (unless o m (with_held m xs)).held ≡ false
absent-either s o m xs h k = by_option o (λ o. holds s (unless o m (with_held m xs)).held ≡ false) (λ _. k) (λ _ _. h)

after-absent : (s : ℕ) (d : Drive) (c : Call) → (s < d.next) × (holds_key d s ≡ false) → (s < (after d c).next) × (holds_key (after d c) s ≡ false)
after-absent s = after-of (λ n m. (s < n) × (holds s m.held ≡ false))
    (λ n m p. (omega (arith, p.0), absent-either s (put_refusal m n) m (adds n m.held) p.1 (absent-add s n m.held p.0 p.1)))
    (λ n old m p. (omega (arith, p.0), absent-either s (swap_refusal m old n) m (adds n (drops old m.held)) p.1 (absent-add s n (drops old m.held) p.0 (has-remove (λ x. x) s old m.held p.1))))
    (λ n t m p. (p.0, absent-either s (drop_refusal m t) m (drops t m.held) p.1 (has-remove (λ x. x) s t m.held p.1)))

-- the next serial never falls
after-grows : (least : ℕ) (d : Drive) (c : Call) → least ≤ d.next → least ≤ (after d c).next
after-grows least = after-of (λ n _. least ≤ n) (λ n m l. omega arith) (λ n old m l. omega arith) (λ n s m l. l)

-- ---- the laws
begins-sound : (d : Drive) → Begins d → Sound d
begins-sound d (inl p) = subst Sound (sym p.3) (fresh-sound d.numbering p.0 p.1 p.2)
begins-sound d (inr h) = h

pub stays-sound : StaysSound
stays-sound d b calls k le = always after Sound after-sound d calls d k le (begins-sound d b)

pub ranges-in-order : AlwaysRangesInOrder
ranges-in-order d b calls k le = ranges-of (point d calls k) (stays-sound d b calls k le)

pub one-key-each : AlwaysOneKeyEach
one-key-each d b calls k le = keys_of (point d calls k) (stays-sound d b calls k le)

module _ (d : Drive) (calls : List Call) (k : ℕ) (lt : k < length calls) where
  pub next-point : point d calls (k + 1) ≡ after (point d calls k) (call_at calls k)
  next-point = point-next after d calls d (Reset 0) k lt

  pub answered : answer_at (answers d calls) k ≡ answer (point d calls k) (call_at calls k)
  answered = answer-at after answer d calls d (Reset 0) (Ok Success) k lt

pub no-request-refused : NoRequestRefused
no-request-refused d b calls k lt acc =
    let p = point d calls k in
    let c = call_at calls k in
    let e : refusal p c ≡ None = accepted-only (said p c) (refusal p c) (ap is_accepted (sym (answered d calls k lt)) ∙ acc) in
    subst (λ (q : Drive). NoneRefused p.vault (requests p c) q.vault) (sym (next-point d calls k lt ∙ ap (λ (o : Option Cause). unless o p (left p c)) e)) (left-kept p (stays-sound d b calls k (omega arith)) c e).1

pub no-key-returns : NoKeyReturns
no-key-returns d b calls s i j k ij jk kl hi hj =
    let n = (point d calls i).next in
    let early : s < n = (stays-sound d b calls i (omega arith)).keys.given s hi in
    let later : n ≤ (point d calls j).next = always-from after (λ (e : Drive). n ≤ e.next) (after-grows n) d calls d i j ij (omega arith) (omega arith) in
    (always-from after (λ (e : Drive). (s < e.next) × (holds_key e s ≡ false)) (after-absent s) d calls d j k jk kl (omega arith, hj)).1

pub opened-by-owner-or-fresh-key : OpenedByOwnerOrFreshKey
opened-by-owner-or-fresh-key d b calls access n block i j ij jl bi li bj lj =
    let shut : shut_to access n block (point d calls i) ≡ true = or_right (not (has_block (point d calls i) n block)) (block_locked (point d calls i).rows access n block) li in
    let open-now : shut_to access n block (point d calls j) ≡ false = or_from (not (has_block (point d calls j) n block)) (block_locked (point d calls j).rows access n block) (ap not bj) lj in
    let r = stopped-kept after Sound after-sound (shut_to access n block) (λ e c. Way access n block e (after e c) c (answer e c)) (after-opens access n block) d calls d (Reset 0) i j (begins-sound d b) ij jl shut open-now in
    let k = r.0 in
    let lt : k < length calls = omega (arith, r.2) in (
      k,
      r.1,
      r.2,
      ⊎_elim
          (λ x. inl (subst (λ (e : Drive). FreshlyKeyed (point d calls k) e n block) (sym (next-point d calls k lt)) x))
          (λ x. inr (subst (SetByOwner (point d calls k) n block (call_at calls k)) (sym (answered d calls k lt)) x))
          r.3,
    )

pub refused-changes-nothing : RefusedChangesNothing
refused-changes-nothing d calls k cause lt e =
    let p = point d calls k in
    let c = call_at calls k in
    next-point d calls k lt ∙ sym (unchanged (said p c) (refusal p c) cause p (left p c) (sym e ∙ answered d calls k lt))
