-- What a search finds in a list that rises by number, and what an edit at that place does.
use Rattle.std.proofs.Common.{◌≡◌, ℕ, zero, suc, ◌<◌, ◌≤◌, true, false, List, [], ◌∷◌, eqb, length, get_or, Some, None, Ok, Err, IfOk, IfErr, Result, sym, refl, ap, arith}
use Rattle.std.specs.List.{insert as inserted}
use Rattle.std.specs.List.Sorted.{IsSearchInRange, IsBinarySearchResult, IsNonDecreasingBy}
use Rattle.std.specs.Ordering.{nat_cmp, ordering_index}
use Rattle.std.proofs.lemmas.Cmp.{ranked}
use Rattle.std.proofs.lemmas.Bool.Decides.{nat_tests}
use Rattle.packed.specs.First.{first}
use Rattle.packed.specs.Place.{IsGapFor}
use Rattle.packed.specs.Rising.{rises, has, lookup, insert, remove, change}
use Rattle.packed.proofs.Order.{change-absent}

module _ {A : Type 0} (key : A → ℕ) where
  -- the numbers are at least the low one, and each is below those after it
  pub rises-from : (low : ℕ) (xs : List A) → rises key low xs ≡ true → (i : ℕ) (d : A) → i < length xs → low ≤ key (get_or xs i d)
  unfolding rises
  rises-from low [] r i d l = absurd (let b : ⊥ = omega arith in b)
  rises-from low (x ∷ xs) r zero d l = grind (arith, nat_tests)
  rises-from low (x ∷ xs) r (suc i) d l = let h = rises-from (suc (key x)) xs in grind (arith, nat_tests, h (grind (arith, nat_tests)) i d (omega arith))

  rises-strictly : (low : ℕ) (xs : List A) → rises key low xs ≡ true → (i j : ℕ) (d : A) → i < j → j < length xs → key (get_or xs i d) < key (get_or xs j d)
  unfolding rises
  rises-strictly low [] r i j d l n = absurd (let b : ⊥ = omega arith in b)
  rises-strictly low (x ∷ xs) r i zero d l n = absurd (let b : ⊥ = omega arith in b)
  rises-strictly low (x ∷ xs) r zero (suc j) d l n = rises-from (suc (key x)) xs (grind (arith, nat_tests)) j d (omega arith)
  rises-strictly low (x ∷ xs) r (suc i) (suc j) d l n = rises-strictly (suc (key x)) xs (grind (arith, nat_tests)) i j d (omega arith) (omega arith)

  module _ (k : ℕ) where
    -- the number stands at place i, and at none before it
    first-found : (xs : List A) (i : ℕ) → i < length xs → ((d : A) → key (get_or xs i d) ≡ k)
        → ((j : ℕ) (d : A) → j < i → key (get_or xs j d) ≡ k → ⊥) → first (λ x. eqb (key x) k) xs ≡ Some i
    unfolding first
    first-found [] i l here before = absurd (let b : ⊥ = omega arith in b)
    first-found (x ∷ xs) zero l here before = let h = here x in grind (arith, nat_tests)
    first-found (x ∷ xs) (suc i) l here before =
        let n = before 0 x (omega arith) in
        let h = first-found xs i (omega arith) here (λ j d lt. before (suc j) d (omega arith)) in
        grind (arith, nat_tests)

    module _ (xs : List A) (r : rises key 0 xs ≡ true) where
      -- the comparisons with k rise along the list, as a binary search asks
      comparisons-rise : IsNonDecreasingBy (λ x. ordering_index (nat_cmp (key x) k)) xs
      comparisons-rise i j d le l =
          let keys : key (get_or xs i d) ≤ key (get_or xs j d) = grind (arith, rises-strictly 0 xs r i j d, λ (same : i ≡ j). ap (λ i. key (get_or xs i d)) same) in
          grind (arith, nat_tests)

      -- a binary search ends at the first element that has the number, or at the gap for it
      pub searched : (s : Result ℕ ℕ) → IsSearchInRange s (length xs) → IsBinarySearchResult (λ x. nat_cmp (key x) k) xs s
          → record { found : IfOk s (λ i. first (λ x. eqb (key x) k) xs ≡ Some i); within : IfOk s (λ i. i < length xs); absent : IfErr s (IsGapFor key xs k) }
      searched (Ok at) l equal =
          let here : (d : A) → key (get_or xs at d) ≡ k = λ d. ranked _ k _ (sym (equal d)) in
          record { found = first-found xs at l here (λ j d lt same. omega (arith, rises-strictly 0 xs r j at d lt l, here d)); within = l; absent = tt }
      searched (Err at) l parted = record {
        found = tt;
        within = tt;
        absent = record {
          in_range = l;
          smaller_before = λ j d lt. ranked _ k _ (sym ((parted comparisons-rise).0 j d (omega arith) lt));
          greater_after = λ j d le lt. ranked _ k _ (sym ((parted comparisons-rise).1 j d le lt));
        };
      }

    -- ---- no element has the number
    has-none : (xs : List A) → ((j : ℕ) (d : A) → j < length xs → key (get_or xs j d) ≡ k → ⊥) → has key k xs ≡ false
    unfolding has
    has-none [] none = refl
    has-none (x ∷ xs) none =
        let n = none 0 x (omega arith) in
        let h = has-none xs (λ j d lt. none (suc j) d (omega arith)) in
        grind (arith, nat_tests)

    lookup-none : (xs : List A) → has key k xs ≡ false → lookup key k xs ≡ None
    unfolding has lookup
    lookup-none [] h = refl
    lookup-none (x ∷ xs) h = let t = lookup-none xs in grind (arith, nat_tests)

    remove-none : (xs : List A) → has key k xs ≡ false → remove key k xs ≡ xs
    unfolding has remove
    remove-none [] h = refl
    remove-none (x ∷ xs) h = let t = remove-none xs in grind (arith, nat_tests)

    module _ (xs : List A) (i : ℕ) (gap : IsGapFor key xs k i) where
      pub has-gap : has key k xs ≡ false
      has-gap = has-none xs (λ j d lt same. grind (arith, gap.smaller_before j d, gap.greater_after j d))

      pub lookup-gap : lookup key k xs ≡ None
      lookup-gap = lookup-none xs has-gap

      pub remove-gap : remove key k xs ≡ xs
      remove-gap = remove-none xs has-gap

      pub change-gap : (f : A → A) → change key k f xs ≡ xs
      change-gap f = change-absent key k f xs lookup-gap

  -- ---- a new element goes to the gap for its number
  module _ (x : A) where
    gap-filled : (ys : List A) (i : ℕ) → i ≤ length ys → ((j : ℕ) (d : A) → j < i → key (get_or ys j d) < key x)
        → ((j : ℕ) (d : A) → i ≤ j → j < length ys → key x < key (get_or ys j d)) → insert key x ys ≡ inserted ys i x
    unfolding insert
    gap-filled [] zero l before after = refl
    gap-filled [] (suc i) l before after = absurd (let b : ⊥ = omega arith in b)
    gap-filled (y ∷ ys) zero l before after = let h = after 0 y (omega arith) (omega arith) in grind (arith, nat_tests)
    gap-filled (y ∷ ys) (suc i) l before after =
        let b = before 0 y (omega arith) in
        let h = gap-filled ys i (omega arith) (λ j d lt. before (suc j) d (omega arith)) (λ j d le lt. after (suc j) d (omega arith) (omega arith)) in
        grind (arith, nat_tests)

    pub insert-gap : (ys : List A) (i : ℕ) → IsGapFor key ys (key x) i → insert key x ys ≡ inserted ys i x
    insert-gap ys i gap = gap-filled ys i gap.in_range gap.smaller_before gap.greater_after
