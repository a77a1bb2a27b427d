-- The place of the first element of a list that passes a test, counted from 0.
use Rattle.std.specs.Prelude.{ℕ, suc, Bool, cond, List, [], ◌∷◌, Some, None, Option}
use Rattle.std.specs.Option.{option_map}

unfoldable pub first : {A : Type 0} → (A → Bool) → List A → Option ℕ
first test [] = None
first test (x ∷ xs) = cond (test x) (Some 0) (option_map suc (first test xs))
