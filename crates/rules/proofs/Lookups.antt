-- Elements that have a number each: what is found after one is put in, taken out or changed.
use Rattle.std.proofs.Common.{◌≡◌, ℕ, zero, Option, subst, suc, ◌<◌, ◌≤◌, true, false, cond, eqb, ltb, ◌≢◌, List, [], ◌∷◌, length, get_or, Some, unwrap_or, sym, refl, ap, ◌∙◌, inl, inr, arith}
use Rattle.std.proofs.lemmas.Bool.Decides.{nat_tests}
use Rattle.std.proofs.lemmas.Bool.{cases_lt, both_ways, eqb-true, cond_both}
use Rattle.std.proofs.lemmas.List.Elements.{All-from_recursion}
use Rattle.std.specs.Option.{option_map}
use Rattle.std.specs.List.{AllByRecursion}
use Rattle.packed.specs.First.{first}
use Rattle.packed.specs.Rising.{rises, has, lookup, insert, remove, change}
use Rattle.packed.proofs.Order.{has-absent, lookup-found}
use Rattle.packed.proofs.Place.{rises-from}
use Rattle.packed.proofs.Search.{found_within, found-passes}
use Rattle.rules.proofs.Searches.{cases-option}

module _ {A : Type 0} (key : A → ℕ) where
  -- where it stands
  pub place_of : (k : ℕ) (xs : List A) (d : A) → has key k xs ≡ true
      → (i : ℕ) × (first (λ x. eqb (key x) k) xs ≡ Some i) × (i < length xs) × (key (get_or xs i d) ≡ k) × (lookup key k xs ≡ Some (get_or xs i d))
  place_of k xs d h = elim (cases-option (first (λ x. eqb (key x) k) xs)) [
    | inl p ↦ (p.0, p.1, found_within (λ x. eqb (key x) k) xs p.0 p.1, eqb-true _ k (found-passes (λ x. eqb (key x) k) xs p.0 p.1 d), lookup-found key k xs p.0 p.1 d)
    | inr n ↦ absurd (both_ways (has key k xs) (has-absent key k xs n) h)
  ]

  -- ---- what is found
  pub lookup-insert : (k : ℕ) (x : A) (ys : List A) → has key (key x) ys ≡ false → lookup key k (insert key x ys) ≡ cond (eqb (key x) k) (Some x) (lookup key k ys)
  unfolding lookup insert has
  lookup-insert k x [] n = refl
  lookup-insert k x (y ∷ ys) n = let h = lookup-insert k x ys in grind (arith, nat_tests)

  pub lookup-remove : (k n : ℕ) (xs : List A) → k ≢ n → lookup key k (remove key n xs) ≡ lookup key k xs
  unfolding lookup remove
  lookup-remove k n [] d = refl
  lookup-remove k n (x ∷ xs) d = let h = lookup-remove k n xs d in grind (arith, nat_tests)

  pub has-remove-other : (k n : ℕ) (xs : List A) → k ≢ n → has key k (remove key n xs) ≡ has key k xs
  unfolding has remove
  has-remove-other k n [] d = refl
  has-remove-other k n (x ∷ xs) d = let h = has-remove-other k n xs d in grind (arith, nat_tests)

  has-below : (k low : ℕ) (xs : List A) → k < low → rises key low xs ≡ true → has key k xs ≡ false
  unfolding has rises
  has-below k low [] l r = refl
  has-below k low (x ∷ xs) l r = let h = has-below k (suc (key x)) xs in grind (arith, nat_tests)

  pub has-from : (k low : ℕ) (xs : List A) → rises key low xs ≡ true → has key k xs ≡ true → low ≤ k
  has-from k low xs r h = elim (cases_lt k low) [
    | inl l ↦ absurd (both_ways (has key k xs) (has-below k low xs l r) h)
    | inr g ↦ g
  ]

  pub has-remove-same : (k low : ℕ) (xs : List A) → rises key low xs ≡ true → has key k (remove key k xs) ≡ false
  unfolding has remove rises
  has-remove-same k low [] r = refl
  has-remove-same k low (x ∷ xs) r = let h = has-remove-same k (suc (key x)) xs in let b = has-below k (suc (key x)) xs in grind (arith, nat_tests)

  -- each is found by its own number
  pub lookup-at : (low : ℕ) (xs : List A) (i : ℕ) (d : A) → rises key low xs ≡ true → i < length xs → lookup key (key (get_or xs i d)) xs ≡ Some (get_or xs i d)
  unfolding lookup rises
  lookup-at low [] i d r l = absurd (let b : ⊥ = omega arith in b)
  lookup-at low (x ∷ xs) zero d r l = grind (arith, nat_tests)
  lookup-at low (x ∷ xs) (suc i) d r l =
      let p : rises key (suc (key x)) xs ≡ true = grind (arith, nat_tests) in
      let h = rises-from key (suc (key x)) xs p i d (omega arith) in
      let ih = lookup-at (suc (key x)) xs i d p (omega arith) in
      grind (arith, nat_tests)

  pub lookup_key : (k : ℕ) (xs : List A) (d : A) → has key k xs ≡ true → key (unwrap_or (lookup key k xs) d) ≡ k
  lookup_key k xs d h = let p = place_of k xs d h in ap (λ (o : Option A). key (unwrap_or o d)) p.4 ∙ p.3

  -- what holds of each holds of the one that is found
  pub all_lookup : (P : A → Type 0) (k : ℕ) (xs : List A) (d : A) → has key k xs ≡ true → AllByRecursion P xs → P (unwrap_or (lookup key k xs) d)
  all_lookup P k xs d h a = let p = place_of k xs d h in subst (λ (o : Option A). P (unwrap_or o d)) (sym p.4) (All-from_recursion P xs a p.0 d p.2)

  -- ---- what holds of each
  pub all_insert : (P : A → Type 0) (x : A) (ys : List A) → P x → AllByRecursion P ys → AllByRecursion P (insert key x ys)
  unfolding insert
  all_insert P x [] p a = (p, tt)
  all_insert P x (y ∷ ys) p a = cond_both (ltb (key y) (key x)) (y ∷ insert key x ys) (x ∷ y ∷ ys) (AllByRecursion P) (λ _. (a.0, all_insert P x ys p a.1)) (λ _. (p, a))

  pub all_remove : (P : A → Type 0) (n : ℕ) (xs : List A) → AllByRecursion P xs → AllByRecursion P (remove key n xs)
  unfolding remove
  all_remove P n [] a = a
  all_remove P n (x ∷ xs) a = cond_both (eqb (key x) n) xs (x ∷ remove key n xs) (AllByRecursion P) (λ _. a.1) (λ _. (a.0, all_remove P n xs a.1))

  -- ---- one element changed, which keeps its number
  module _ (n : ℕ) (f : A → A) (same : (x : A) → key (f x) ≡ key x) where
    pub has-change : (k : ℕ) (xs : List A) → has key k (change key n f xs) ≡ has key k xs
    unfolding has change
    has-change k [] = refl
    has-change k (x ∷ xs) = let h = has-change k xs in let s = same x in grind (arith, nat_tests)

    pub lookup-change : (k : ℕ) (xs : List A) → lookup key k (change key n f xs) ≡ cond (eqb k n) (option_map f (lookup key k xs)) (lookup key k xs)
    unfolding lookup change
    lookup-change k [] = grind (arith, nat_tests)
    lookup-change k (x ∷ xs) = let h = lookup-change k xs in let s = same x in grind (arith, nat_tests)

    pub all-change : (P : A → Type 0) → ((x : A) → P x → P (f x)) → (xs : List A) → AllByRecursion P xs → AllByRecursion P (change key n f xs)
    unfolding change
    all-change P q [] a = a
    all-change P q (x ∷ xs) a = cond_both (eqb (key x) n) (f x ∷ xs) (x ∷ change key n f xs) (AllByRecursion P) (λ _. (q x a.0, a.1)) (λ _. (a.0, all-change P q xs a.1))
