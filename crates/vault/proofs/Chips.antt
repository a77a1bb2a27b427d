-- The registers of a chip as a vault.
use Rattle.std.proofs.Common.{◌≡◌, ℕ, ◌<◌, ◌≤◌, true, false, not, ◌&&◌, eqb, List, [], ◌∷◌, length, get_or, take, set, Some, None, Ok, Err, sym, refl, ap, ◌∙◌, arith}
use Rattle.std.specs.Option.{unwrap_or}
use lib.Seq.{take-set-lt}
use Rattle.std.proofs.lemmas.Bool.Decides.{nat_tests}
use Rattle.std.proofs.lemmas.Bool.{eqb-true, true≢false, not-false}
use Rattle.std.proofs.lemmas.List.{length-take-le, take_all}
use Rattle.packed.specs.First.{first}
use Rattle.packed.specs.Rising.{rises}
use Rattle.packed.proofs.Search.{found_within, found-passes}
use Rattle.packed.proofs.Order.{has-absent}
use Rattle.vault.specs.declared.refusal.VaultRefusal.{VaultRefusal}
use Rattle.vault.specs.declared.refusal.VaultRefusal.TheVariants.{Unfit}
use Rattle.vault.specs.Serials.{holds, adds, drops, collect}
use Rattle.vault.specs.Meaning.{Meaning, Outcome, sound, with_held, put_refusal, swap_refusal, drop_refusal}
use Rattle.vault.specs.Kinds.{chip_check, chip_meaning, fit, lowest, overwritten, nothing}
use Rattle.vault.proofs.Checks.{accepted, all-passed, by_option}
use Rattle.vault.proofs.Words.{rises-collect, length-collect, holds-collect, holds-zero, collect-set, collect-clear, collect-swap}
use Rattle.vault.proofs.Requests.{sound-from, put-passed, swap-passed, drop-passed}

pub fit-true : (words : List ℕ) → ◌≡◌ {A = Outcome} (Ok tt) (chip_check words) → fit words ≡ true
fit-true words e = not-false _ (all-passed ((not (fit words), Unfit) ∷ []) (accepted tt _ e)).0

pub fit-false : (words : List ℕ) (x : VaultRefusal) → ◌≡◌ {A = Outcome} (Err x) (chip_check words) → fit words ≡ false
fit-false words x e = grind (arith, nat_tests)

pub fit-sound : (words : List ℕ) → fit words ≡ true → sound (record { capacity = length words; held = collect words }) ≡ true
fit-sound words f = sound-from _ (rises-collect words (grind (arith, nat_tests))) (length-collect words)

-- all registers in use, or none
pub all_in_use : (words : List ℕ) → fit words ≡ true → chip_meaning (length words) words ≡ record { capacity = length words; held = collect words }
all_in_use words f = ap (with_held (chip_meaning (length words) words)) (ap collect (take_all (length words) words (omega arith)))

pub nothing-sound : sound nothing ≡ true
unfolding rises
nothing-sound = refl

pub none-in-use : (words : List ℕ) → chip_meaning 0 words ≡ nothing
unfolding collect
none-in-use words = refl

module _ (used : ℕ) (words : List ℕ) (le : used ≤ length words) where
  abbrev meaning : Meaning
  meaning = chip_meaning used words

  size : length (take used words) ≡ used
  size = length-take-le used words le

  pub holds-serial : (s : ℕ) → holds s (collect (take used words)) ≡ (not (eqb s 0) && holds s (take used words))
  holds-serial s = holds-collect s (take used words)

  -- a register in use that has the word w
  module _ (w : ℕ) (there : holds w (take used words) ≡ true) where
    pub found : first (λ v. eqb v w) (take used words) ≡ Some (lowest used words w)
    found = by_option (first (λ v. eqb v w) (take used words)) (λ o. o ≡ Some (unwrap_or o used)) (λ e. absurd (true≢false (sym there ∙ has-absent (λ v. v) w (take used words) e))) (λ i _. refl)

    pub place : lowest used words w < used
    place = omega (arith, found_within (λ v. eqb v w) (take used words) (lowest used words w) found, size)

    inside : lowest used words w < length (take used words)
    inside = omega (arith, place, size)

    word : get_or (take used words) (lowest used words w) 0 ≡ w
    word = eqb-true (get_or (take used words) (lowest used words w) 0) w (found-passes (λ v. eqb v w) (take used words) (lowest used words w) found 0)

    -- what the chip means with t in its place
    meant : (t : ℕ) (next : List ℕ) → collect (set (take used words) (lowest used words w) t) ≡ next → chip_meaning used (overwritten used words w t) ≡ with_held meaning next
    meant t next e = ap (with_held meaning) (ap collect (take-set-lt used words (lowest used words w) t place) ∙ e)

  -- ---- what an accepted request has passed, and what it leaves
  nonzero : (s : ℕ) → holds s meaning.held ≡ true → (s ≡ 0 → ⊥) × (holds s (take used words) ≡ true)
  nonzero s h = let k = holds-serial s in ((λ z. let z' : ◌≡◌ {A = ℕ} 0 1 = grind (arith, nat_tests) in omega arith), grind (arith, nat_tests))

  module _ (s : ℕ) (e : put_refusal meaning s ≡ None) where
    pub put-there : holds 0 (take used words) ≡ true
    put-there = let p = put-passed meaning s e in let k = holds-zero (take used words) in let n = size in grind (arith, nat_tests)

    pub put-leaves : chip_meaning used (overwritten used words 0 s) ≡ with_held meaning (adds s meaning.held)
    put-leaves =
        let p = put-passed meaning s e in
        meant 0 put-there s _ (collect-set (take used words) (lowest used words 0) s (inside 0 put-there) (word 0 put-there) (grind (arith, nat_tests)))

  module _ (s t : ℕ) (e : swap_refusal meaning s t ≡ None) where
    pub swap-there : holds s (take used words) ≡ true
    swap-there = (nonzero s (swap-passed meaning s t e).0).1

    pub swap-leaves : chip_meaning used (overwritten used words s t) ≡ with_held meaning (adds t (drops s meaning.held))
    swap-leaves =
        let p = swap-passed meaning s t e in
        meant s swap-there t _ (collect-swap (take used words) (lowest used words s) s (inside s swap-there) (word s swap-there) (nonzero s p.0).0 t (grind (arith, nat_tests)))

  module _ (s : ℕ) (e : drop_refusal meaning s ≡ None) where
    pub drop-there : holds s (take used words) ≡ true
    drop-there = (nonzero s (drop-passed meaning s e)).1

    pub drop-leaves : chip_meaning used (overwritten used words s 0) ≡ with_held meaning (drops s meaning.held)
    drop-leaves =
        let h = nonzero s (drop-passed meaning s e) in
        meant s drop-there 0 _ (collect-clear (take used words) (lowest used words s) s (inside s drop-there) (word s drop-there) h.0)

  -- what the chip then means, as the definitions of the requests say it
  module _ (e' : ℕ) (words' : List ℕ) (same : e' ≡ used) where
    pub then-means : (old new : ℕ) → words' ≡ overwritten used words old new → {after : Meaning} → chip_meaning used (overwritten used words old new) ≡ after → chip_meaning e' words' ≡ after
    then-means old new w e = ap (λ n. chip_meaning n words') same ∙ ap (chip_meaning used) w ∙ e
