-- Elements that have a number each, in rising order: sets of numbers in their one form, and tables by number.
use Rattle.std.specs.Prelude.{ℕ, suc, Bool, true, false, cond, ◌&&◌, ◌||◌, List, [], ◌∷◌, Some, None, Option, ◌==◌, nat_le, nat_lt}

-- the first number is at least low, and each is above the one before it
unfoldable pub rises : {A : Type 0} → (A → ℕ) → ℕ → List A → Bool
rises key low [] = true
rises key low (x ∷ xs) = nat_le low (key x) && rises key (suc (key x)) xs

-- some element has the number k
unfoldable pub has : {A : Type 0} → (A → ℕ) → ℕ → List A → Bool
has key k [] = false
has key k (x ∷ xs) = key x == k || has key k xs

-- the element that has the number k
unfoldable pub lookup : {A : Type 0} → (A → ℕ) → ℕ → List A → Option A
lookup key k [] = None
lookup key k (x ∷ xs) = cond (key x == k) (Some x) (lookup key k xs)

-- with x in its place
unfoldable pub insert : {A : Type 0} → (A → ℕ) → A → List A → List A
insert key x [] = x ∷ []
insert key x (y ∷ ys) = cond (nat_lt (key y) (key x)) (y ∷ insert key x ys) (x ∷ y ∷ ys)

-- less the element that has the number k
unfoldable pub remove : {A : Type 0} → (A → ℕ) → ℕ → List A → List A
remove key k [] = []
remove key k (x ∷ xs) = cond (key x == k) xs (x ∷ remove key k xs)

-- with the element that has the number k changed
unfoldable pub change : {A : Type 0} → (A → ℕ) → ℕ → (A → A) → List A → List A
change key k f [] = []
change key k f (x ∷ xs) = cond (key x == k) (f x ∷ xs) (x ∷ change key k f xs)
