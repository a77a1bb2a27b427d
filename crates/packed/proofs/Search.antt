-- Facts of the first element that passes a test, and the steps of a loop that looks for it.
use Rattle.std.proofs.Common.{◌≡◌, ℕ, suc, ◌<◌, Bool, true, false, not, cond, ◌⊎◌, List, [], ◌∷◌, length, get_or, Some, None, Option, sym, refl, subst, inl, inr, arith}
use Rattle.std.proofs.lemmas.Bool.Decides.{nat_tests}
use Rattle.std.proofs.lemmas.List.Sums.{prefix_len-le-length}
use Rattle.std.specs.List.{position}
use Rattle.std.specs.Option.{option_map}
use Rattle.packed.specs.First.{first}

-- the library's word for the place
pub position-is-first : {A : Type 0} (test : A → Bool) (xs : List A) → position test xs ≡ first test xs
unfolding first
position-is-first test [] = refl
position-is-first test (x ∷ xs) = let h = position-is-first test xs in let n = prefix_len-le-length (λ x. not (test x)) xs in grind (arith, nat_tests)

-- how a search that found something went at its first element
some-parts : (b : Bool) (o : Option ℕ) (i : ℕ) → cond b (Some 0) (option_map suc o) ≡ Some i → ((b ≡ true) × (i ≡ 0)) ⊎ ((b ≡ false) × (j : ℕ) × (o ≡ Some j) × (i ≡ suc j))
some-parts true o i e = inl (refl, cc)
some-parts false None i e = absurd (let z : ◌≡◌ {A = ℕ} 0 1 = cc in let b : ⊥ = omega arith in b)
some-parts false (Some j) i e = inr (refl, j, refl, cc)

none-parts : (b : Bool) (o : Option ℕ) → cond b (Some 0) (option_map suc o) ≡ None → (b ≡ false) × (o ≡ None)
none-parts true o e = absurd (let z : ◌≡◌ {A = ℕ} 0 1 = cc in let b : ⊥ = omega arith in b)
none-parts false None e = (refl, refl)
none-parts false (Some j) e = absurd (let z : ◌≡◌ {A = ℕ} 0 1 = cc in let b : ⊥ = omega arith in b)

-- what holds of a list and of the place that a search found in it: shown at the first element, and carried past one that fails
pub when-found : {A : Type 0} (test : A → Bool) (P : List A → ℕ → Type 0)
    → ((x : A) (xs : List A) → test x ≡ true → P (x ∷ xs) 0)
    → ((x : A) (xs : List A) (j : ℕ) → test x ≡ false → P xs j → P (x ∷ xs) (suc j))
    → (xs : List A) (i : ℕ) → first test xs ≡ Some i → P xs i
unfolding first
when-found test P here past [] i e = absurd (let z : ◌≡◌ {A = ℕ} 0 1 = cc in let b : ⊥ = omega arith in b)
when-found test P here past (x ∷ xs) i e = elim (some-parts (test x) (first test xs) i e) [
  | inl w ↦ subst (P (x ∷ xs)) (sym w.1) (here x xs w.0)
  | inr w ↦ subst (P (x ∷ xs)) (sym w.3) (past x xs w.1 w.0 (when-found test P here past xs w.1 w.2))
]

-- what holds of a list in which a search found nothing
pub when-absent : {A : Type 0} (test : A → Bool) (P : List A → Type 0)
    → P [] → ((x : A) (xs : List A) → test x ≡ false → P xs → P (x ∷ xs))
    → (xs : List A) → first test xs ≡ None → P xs
unfolding first
when-absent test P none past [] e = none
when-absent test P none past (x ∷ xs) e = let w = none-parts (test x) (first test xs) e in past x xs w.0 (when-absent test P none past xs w.1)

pub found_within : {A : Type 0} (test : A → Bool) (xs : List A) (i : ℕ) → first test xs ≡ Some i → i < length xs
found_within test = when-found test (λ xs i. i < length xs) (λ x xs t. omega arith) (λ x xs j t h. omega arith)

pub found-passes : {A : Type 0} (test : A → Bool) (xs : List A) (i : ℕ) → first test xs ≡ Some i → (d : A) → test (get_or xs i d) ≡ true
found-passes test = when-found test (λ xs i. (d : _) → test (get_or xs i d) ≡ true) (λ x xs t d. t) (λ x xs j t h d. h d)
