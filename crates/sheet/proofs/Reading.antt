-- Lists that a loop makes, one element after another.
use Rattle.std.proofs.Common.{◌≡◌, ℕ, ◌+◌, ◌<◌, ◌≤◌, List, [], ◌∷◌, ◌++◌, map, length, get_or, set, sym, ap, ◌∙◌, arith, inl, inr}
use Rattle.std.proofs.lemmas.Bool.{cases_lt}
use Rattle.std.proofs.lemmas.List.{get_or-map, get_or-set_other, get_or-set_same, get_or_default, length-map, same_lists}
use Rattle.std.proofs.lemmas.List.FromFn.{length-map-range_with_len, map-range_with_len_more, length-enumerate_from, get_or-enumerate_from}
use Rattle.std.specs.List.{enumerate_from, range_with_len}

module _ {X : Type 0} (f : ℕ → X) (xs : List X) (n : ℕ) (so_far : xs ≡ map f (range_with_len 0 n)) where
  pub as-many : length xs ≡ n
  as-many = ap length so_far ∙ length-map-range_with_len f 0 n

  pub one-more : (x : X) (more : List X) → more ≡ xs ++ x ∷ [] → x ≡ f n → more ≡ map f (range_with_len 0 (n + 1))
  one-more x more pushed next =
      pushed
      ∙ ap (λ y. xs ++ y ∷ []) next
      ∙ ap (λ ys. ys ++ f n ∷ []) so_far
      ∙ sym (map-range_with_len_more f 0 n n (omega arith))

-- the elements of a list before place i are what f makes of those of another, with their numbers
module _ {A B : Type 0} (f : ℕ → A → B) (xs : List A) (a : A) (d : B) where
  abbrev pub Made : List B → ℕ → Type 0
  Made ys i = (k : ℕ) (x : A) → k < i → get_or ys k d ≡ f k (get_or xs k x)

  pub made-more : (ys : List B) (i : ℕ) (y : B) (x : A) → i < length ys → i < length xs → y ≡ f i (get_or xs i x) → Made ys i → Made (set ys i y) (i + 1)
  made-more ys i y x there here is made k z below = elim (cases_lt k i) [
    | inl before ↦ get_or-set_other ys i k y d (λ e. absurd (omega (arith, e))) ∙ made k z before
    | inr not_before ↦
        let e : k ≡ i = omega arith in
        rw e (get_or-set_same ys i y d there ∙ is ∙ ap (f i) (get_or_default xs i x z here))
  ]

  pub made-all : (ys : List B) (i : ℕ) → length ys ≡ length xs → length xs ≤ i → Made ys i → ys ≡ map (λ entry. f entry.0 entry.1) (enumerate_from 0 xs)
  made-all ys i long end made = same_lists ys made_of (long ∙ sym (length-map numbered g ∙ length-enumerate_from 0 xs)) same
    where
      g : ℕ × A → B
      g entry = f entry.0 entry.1

      numbered : List (ℕ × A)
      numbered = enumerate_from 0 xs

      made_of : List B
      made_of = map g numbered

      same : (k : ℕ) (e : B) → k < length ys → get_or ys k e ≡ get_or made_of k e
      same k e below =
          let here : k < length xs = omega (arith, long) in
          let first : 0 + k ≡ k = omega arith in
          get_or_default ys k e d below
          ∙ made k a (omega arith)
          ∙ ap (λ n. f n (get_or xs k a)) (sym first)
          ∙ ap g (sym (get_or-enumerate_from 0 xs k (0, a) here))
          ∙ sym (get_or-map g numbered k (0, a) e (omega (arith, here, length-enumerate_from 0 xs)))
