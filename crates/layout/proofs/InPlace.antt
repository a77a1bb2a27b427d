-- A list whose elements are changed in place, one after the other. Assumes nothing.
use Rattle.std.proofs.Common.{◌≡◌, ℕ, zero, suc, ◌+◌, ◌<◌, ◌≤◌, List, [], ◌∷◌, map, length, get_or, set, sym, refl, ap, ◌∙◌, add-one, arith}
use Rattle.std.specs.List.{enumerate_from}

-- the first so many elements of xs changed by f, each by its number, which counts from n
unfoldable pub changed : {X : Type 0} → (ℕ → X → X) → ℕ → ℕ → List X → List X
changed f n zero xs = xs
changed f n (suc i) [] = []
changed f n (suc i) (x ∷ xs) = f n x ∷ changed f (n + 1) i xs

module _ {X : Type 0} (f : ℕ → X → X) where
  pub length-changed : (n i : ℕ) (xs : List X) → length (changed f n i xs) ≡ length xs
  unfolding changed
  length-changed n zero xs = refl
  length-changed n (suc i) [] = refl
  length-changed n (suc i) (x ∷ xs) = ap suc (length-changed (n + 1) i xs)

  -- one more is changed
  pub changed-next : (n i : ℕ) (xs : List X) (d : X) → i < length xs → set (changed f n i xs) i (f (n + i) (get_or (changed f n i xs) i d)) ≡ changed f n (suc i) xs
  unfolding changed
  changed-next n i [] d l = absurd (omega arith)
  changed-next n zero (x ∷ xs) d l = let e : n + 0 ≡ n = omega arith in ap (λ k. f k x ∷ xs) e
  changed-next n (suc i) (x ∷ xs) d l =
      let e : n + suc i ≡ n + 1 + i = omega arith in
      ap (λ k. f n x ∷ set (changed f (n + 1) i xs) i (f k (get_or (changed f (n + 1) i xs) i d))) e ∙ ap (λ ys. f n x ∷ ys) (changed-next (n + 1) i xs d (omega arith))

  -- the same of the list as it is by now, of which the numbers count from 0
  pub changed-more : (i : ℕ) (ys xs : List X) (d : X) → i < length xs → ys ≡ changed f 0 i xs → set ys i (f i (get_or ys i d)) ≡ changed f 0 (i + 1) xs
  changed-more i ys xs d l e =
      let z : i ≡ 0 + i = omega arith in
      ap (λ zs. set zs i (f i (get_or zs i d))) e ∙ ap (λ k. set (changed f 0 i xs) i (f k (get_or (changed f 0 i xs) i d))) z ∙ changed-next 0 i xs d l ∙ ap (λ k. changed f 0 k xs) (sym (add-one i))

  -- all are changed
  pub changed-all : (n i : ℕ) (xs : List X) → length xs ≤ i → changed f n i xs ≡ map (λ entry. f entry.0 entry.1) (enumerate_from n xs)
  unfolding changed
  changed-all n zero [] l = refl
  changed-all n zero (x ∷ xs) l = absurd (omega arith)
  changed-all n (suc i) [] l = refl
  changed-all n (suc i) (x ∷ xs) l = ap (λ ys. f n x ∷ ys) (changed-all (n + 1) i xs (omega arith))

-- all are changed alike
pub changed-alike : {X : Type 0} (f : X → X) (n i : ℕ) (xs : List X) → length xs ≤ i → changed (λ _ x. f x) n i xs ≡ map f xs
unfolding changed
changed-alike f n zero [] l = refl
changed-alike f n zero (x ∷ xs) l = absurd (omega arith)
changed-alike f n (suc i) [] l = refl
changed-alike f n (suc i) (x ∷ xs) l = ap (λ ys. f x ∷ ys) (changed-alike f (n + 1) i xs (omega arith))
