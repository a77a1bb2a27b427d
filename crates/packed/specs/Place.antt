-- Where a number would go in a list.
use Rattle.std.specs.Prelude.{ℕ, ◌<◌, ◌≤◌, List, length, slice_index_or}

-- k would go to place i: smaller numbers stand before it, and greater ones from it on
pub record IsGapFor {A : Type 0} (key : A → ℕ) (xs : List A) (k i : ℕ) : Type 0 where
  pub in_range : i ≤ length xs
  pub smaller_before : (j : ℕ) (d : A) → j < i → key (slice_index_or xs j d) < k
  pub greater_after : (j : ℕ) (d : A) → i ≤ j → j < length xs → k < key (slice_index_or xs j d)
