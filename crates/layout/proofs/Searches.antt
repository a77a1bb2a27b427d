-- Searches in a list: one over a run of numbers, past a beginning where nothing passes, and two whose tests go alike.
use Rattle.std.proofs.Common.{◌≡◌, ℕ, zero, suc, ◌+◌, ◌<◌, ◌≤◌, Bool, true, false, cond, List, [], ◌∷◌, Some, refl, ap, ◌∙◌, arith}
use Rattle.std.proofs.lemmas.Bool.{cond-true, cond-false}
use Rattle.std.specs.List.{find, range_with_len, AllByRecursion}
use Rattle.std.specs.Option.{option_map}
use Rattle.packed.specs.First.{first}

-- the first that passes is the first of those after the beginning
pub find-past : (test : ℕ → Bool) (skip from to count rest : ℕ) → from + skip ≡ to → skip + rest ≡ count → ((k : ℕ) → from ≤ k → k < to → test k ≡ false)
    → find test (range_with_len from count) ≡ find test (range_with_len to rest)
find-past test zero from to count rest t c none =
    let at : from ≡ to = omega arith in
    let same : count ≡ rest = omega arith in
    ap (λ k. find test (range_with_len k count)) at ∙ ap (λ k. find test (range_with_len to k)) same
find-past test (suc skip) from to count rest t c none =
    let more : count ≡ suc (skip + rest) = omega arith in
    ap (λ k. find test (range_with_len from k)) more
    ∙ cond-false (test from) (Some from) (find test (range_with_len (from + 1) (skip + rest))) (none from (omega arith) (omega arith))
    ∙ find-past test skip (from + 1) to (skip + rest) rest (omega arith) refl (λ k l h. none k (omega arith) h)

-- the first number passes
pub find-here : (test : ℕ → Bool) (from count : ℕ) → 0 < count → test from ≡ true → find test (range_with_len from count) ≡ Some from
find-here test from zero h t = absurd (let b : ⊥ = omega arith in b)
find-here test from (suc count) h t = cond-true (test from) (Some from) (find test (range_with_len (from + 1) count)) t

pub first-alike : {A : Type 0} (test other : A → Bool) (xs : List A) → AllByRecursion (λ x. test x ≡ other x) xs → first test xs ≡ first other xs
unfolding first
first-alike test other [] h = refl
first-alike test other (x ∷ xs) h =
    ap (λ b. cond b (Some 0) (option_map suc (first test xs))) h.0 ∙ ap (λ o. cond (other x) (Some 0) (option_map suc o)) (first-alike test other xs h.1)
