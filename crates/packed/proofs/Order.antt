-- Laws of lists that rise by number.
use Rattle.std.proofs.Common.{◌≡◌, ℕ, suc, ◌≤◌, true, false, ◌||◌, eqb, leb, List, [], ◌∷◌, length, get_or, set, is_some, Some, None, refl, ap, ◌∙◌, arith}
use Rattle.std.proofs.lemmas.Bool.Decides.{nat_tests}
use Rattle.std.specs.List.{list_any, insert as inserted, remove as removed}
use Rattle.packed.specs.First.{first}
use Rattle.packed.specs.Rising.{rises, has, lookup, insert, remove, change}
use Rattle.packed.proofs.Search.{when-found, when-absent}

module _ {A : Type 0} (key : A → ℕ) where
  pub remove-insert : (x : A) (ys : List A) → remove key (key x) (insert key x ys) ≡ ys
  unfolding insert remove
  remove-insert x [] = grind (arith, nat_tests)
  remove-insert x (y ∷ ys) = let h = remove-insert x ys in grind (arith, nat_tests)

  pub has-insert : (k : ℕ) (x : A) (ys : List A) → has key k (insert key x ys) ≡ (eqb (key x) k || has key k ys)
  unfolding insert has
  has-insert k x [] = grind (arith, nat_tests)
  has-insert k x (y ∷ ys) = let h = has-insert k x ys in grind (arith, nat_tests)

  pub length-insert : (x : A) (ys : List A) → length (insert key x ys) ≡ suc (length ys)
  unfolding insert
  length-insert x [] = refl
  length-insert x (y ∷ ys) = let h = length-insert x ys in grind (arith, nat_tests)

  pub rises-insert : (low : ℕ) (x : A) (ys : List A) → low ≤ key x → has key (key x) ys ≡ false → rises key low ys ≡ true → rises key low (insert key x ys) ≡ true
  unfolding insert rises has
  rises-insert low x [] l n r = grind (arith, nat_tests)
  rises-insert low x (y ∷ ys) l n r = let h = rises-insert (suc (key y)) x ys in grind (arith, nat_tests)

  pub rises-lower : (low high : ℕ) (xs : List A) → low ≤ high → rises key high xs ≡ true → rises key low xs ≡ true
  unfolding rises
  rises-lower low high [] l r = refl
  rises-lower low high (x ∷ xs) l r = grind (arith, nat_tests)

  pub rises-remove : (low k : ℕ) (xs : List A) → rises key low xs ≡ true → rises key low (remove key k xs) ≡ true
  unfolding rises remove
  rises-remove low k [] r = refl
  rises-remove low k (x ∷ xs) r = let h = rises-remove (suc (key x)) k xs in let b = rises-lower low (suc (key x)) xs in grind (arith, nat_tests)

  pub length-remove : (k : ℕ) (xs : List A) → has key k xs ≡ true → suc (length (remove key k xs)) ≡ length xs
  unfolding remove has
  length-remove k [] n = grind (arith, nat_tests)
  length-remove k (x ∷ xs) n = let h = length-remove k xs in grind (arith, nat_tests)

  pub has-remove : (j k : ℕ) (xs : List A) → has key j xs ≡ false → has key j (remove key k xs) ≡ false
  unfolding remove has
  has-remove j k [] n = refl
  has-remove j k (x ∷ xs) n = let h = has-remove j k xs in grind (arith, nat_tests)

  pub has-lookup : (k : ℕ) (xs : List A) → is_some (lookup key k xs) ≡ has key k xs
  unfolding lookup has
  has-lookup k [] = refl
  has-lookup k (x ∷ xs) = let h = has-lookup k xs in grind (arith, nat_tests)

  -- the one with this number is changed, which keeps its number
  pub rises-change : (k : ℕ) (f : A → A) → ((x : A) → key x ≡ k → key (f x) ≡ key x) → (low : ℕ) (xs : List A) → rises key low (change key k f xs) ≡ rises key low xs
  unfolding rises change
  rises-change k f same low [] = refl
  rises-change k f same low (x ∷ xs) = let h = rises-change k f same (suc (key x)) xs in let s = same x in grind (arith, nat_tests)

  pub length-change : (k : ℕ) (f : A → A) (xs : List A) → length (change key k f xs) ≡ length xs
  unfolding change
  length-change k f [] = refl
  length-change k f (x ∷ xs) = let h = length-change k f xs in grind (arith, nat_tests)

  -- the one that is found, changed but for its number, in its own place
  lookup-changed : (k : ℕ) (f : A → A) (x : A) (xs : List A) → lookup key k xs ≡ Some x → (key x ≡ k) × (change key k (λ _. f x) xs ≡ change key k f xs)
  unfolding lookup change
  lookup-changed k f x [] e = absurd cc
  lookup-changed k f x (y ∷ ys) e = let h = lookup-changed k f x ys in (grind (arith, nat_tests), grind (arith, nat_tests))

  pub change-lookup : (k : ℕ) (f : A → A) (x : A) (xs : List A) → lookup key k xs ≡ Some x → key (f x) ≡ key x → change key (key (f x)) (λ _. f x) xs ≡ change key k f xs
  change-lookup k f x xs e same = let p = lookup-changed k f x xs e in ap (λ n. change key n (λ _. f x) xs) (same ∙ p.0) ∙ p.1

  pub change-absent : (k : ℕ) (f : A → A) (xs : List A) → lookup key k xs ≡ None → change key k f xs ≡ xs
  unfolding lookup change
  change-absent k f [] e = refl
  change-absent k f (x ∷ xs) e = let h = change-absent k f xs in grind (arith, nat_tests)

  -- the library's word for it
  pub any-is-has : (k : ℕ) (xs : List A) → list_any (λ x. eqb (key x) k) xs ≡ has key k xs
  unfolding has
  any-is-has k [] = refl
  any-is-has k (x ∷ xs) = let h = any-is-has k xs in grind (arith, nat_tests)

  -- where a search for the number k came out
  module _ (k : ℕ) where
    pub lookup-found : (xs : List A) (i : ℕ) → first (λ x. eqb (key x) k) xs ≡ Some i → (d : A) → lookup key k xs ≡ Some (get_or xs i d)
    unfolding lookup
    lookup-found = when-found (λ x. eqb (key x) k) (λ xs i. (d : A) → lookup key k xs ≡ Some (get_or xs i d)) (λ x xs t d. rw t) (λ x xs j t h d. rw t (h d))

    pub has-found : (xs : List A) (i : ℕ) → first (λ x. eqb (key x) k) xs ≡ Some i → has key k xs ≡ true
    unfolding has
    has-found = when-found (λ x. eqb (key x) k) (λ xs i. has key k xs ≡ true) (λ x xs t. rw t) (λ x xs j t h. rw (t, h))

    pub remove-found : (xs : List A) (i : ℕ) → first (λ x. eqb (key x) k) xs ≡ Some i → remove key k xs ≡ removed xs i
    unfolding remove
    remove-found = when-found (λ x. eqb (key x) k) (λ xs i. remove key k xs ≡ removed xs i) (λ x xs t. rw t) (λ x xs j t h. rw (t, h))

    pub change-found : (f : A → A) (xs : List A) (i : ℕ) → first (λ x. eqb (key x) k) xs ≡ Some i → (d : A) → change key k f xs ≡ set xs i (f (get_or xs i d))
    unfolding change
    change-found f = when-found (λ x. eqb (key x) k) (λ xs i. (d : A) → change key k f xs ≡ set xs i (f (get_or xs i d))) (λ x xs t d. rw t) (λ x xs j t h d. rw t (ap (λ l. x ∷ l) (h d)))

    pub has-absent : (xs : List A) → first (λ x. eqb (key x) k) xs ≡ None → has key k xs ≡ false
    unfolding has
    has-absent = when-absent (λ x. eqb (key x) k) (λ xs. has key k xs ≡ false) refl (λ x xs t h. rw (t, h))

    -- what is not there is neither given nor taken out
    pub lookup_absent : (xs : List A) → first (λ x. eqb (key x) k) xs ≡ None → lookup key k xs ≡ None
    unfolding lookup
    lookup_absent = when-absent (λ x. eqb (key x) k) (λ xs. lookup key k xs ≡ None) refl (λ x xs t h. rw (t, h))

    pub remove_absent : (xs : List A) → first (λ x. eqb (key x) k) xs ≡ None → remove key k xs ≡ xs
    unfolding remove
    remove_absent = when-absent (λ x. eqb (key x) k) (λ xs. remove key k xs ≡ xs) refl (λ x xs t h. rw (t, h))

  -- in any list, rising or not, a new element goes before the first whose number is no smaller, or to the end
  module _ (x : A) where
    pub insert-found : (ys : List A) (i : ℕ) → first (λ y. leb (key x) (key y)) ys ≡ Some i → insert key x ys ≡ inserted ys i x
    unfolding insert
    insert-found = when-found (λ y. leb (key x) (key y)) (λ ys i. insert key x ys ≡ inserted ys i x) (λ y ys t. grind (arith, nat_tests)) (λ y ys j t h. grind (arith, nat_tests))

    pub insert-absent : (ys : List A) → first (λ y. leb (key x) (key y)) ys ≡ None → insert key x ys ≡ inserted ys (length ys) x
    unfolding insert
    insert-absent = when-absent (λ y. leb (key x) (key y)) (λ ys. insert key x ys ≡ inserted ys (length ys) x) refl (λ y ys t h. grind (arith, nat_tests))
