-- Rows with their numbers, and the bits of a selection.
use Rattle.std.proofs.Common.{◌≡◌, ℕ, zero, suc, ◌/◌, ◌%◌, ◌^◌, ◌<◌, true, eqb, ◌≢◌, List, [], ◌∷◌, map, sym, refl, ap, ◌∙◌, inl, inr, div-one, add-one, arith, shr_lt, ◌+◌, false, cond, length, filter, subst}
use native.Mathlib.Nat.{div-div-eq-div-mul, pow-succ'}
use Rattle.std.proofs.lemmas.Bool.{cases_Bool, eqb-false, cases_lt, cond_both}
use Rattle.std.proofs.lemmas.Bool.Decides.{nat_tests}
use Rattle.std.proofs.lemmas.List.{length-map, get_or-map, get_or_past}
use Rattle.std.proofs.lemmas.List.FromFn.{length-enumerate_from, get_or-enumerate_from}
use Rattle.std.specs.List.{enumerate_from}
use Rattle.rules.specs.declared.row.Row.{Row}
use Rattle.rules.specs.declared.row.Sought.{Sought}
use Rattle.rules.specs.Methods.{selected}
use Rattle.rules.specs.Rows.{row, free_row, suits, numbered, all_rows}

pub map-alike : {X : Type 0} (f : Row → X) (make : Row → Row) → ((r : Row) → f (make r) ≡ f r) → (rows : List Row) (i : ℕ) → f (row i (map make rows)) ≡ f (row i rows)
map-alike f make same [] i = refl
map-alike f make same (r ∷ rs) zero = same r
map-alike f make same (r ∷ rs) (suc i) = map-alike f make same rs i

-- the lowest bit, and the others as those of the half
pub selected-lowest : (selection : ℕ) → selected selection 0 ≡ eqb (selection % 2) 1
selected-lowest selection = ap (λ m. eqb (m % 2) 1) (div-one selection)

pub selected-half : (selection r : ℕ) → selected selection (suc r) ≡ selected (selection / 2) r
selected-half selection r = ap (λ m. eqb (m % 2) 1) (ap (λ m. selection / m) (pow-succ' 2 r) ∙ sym (div-div-eq-div-mul selection 2 (2 ^ r)))

-- a selection that is not 0 has a bit below its length
pub some-bit : (k selection : ℕ) → selection < 2 ^ k → selection ≢ 0 → (r : ℕ) × (r < k) × (selected selection r ≡ true)
some-bit zero n l z = absurd (z (omega arith))
some-bit (suc k) n l z = elim (cases_Bool (eqb (n % 2) 1)) [
  | inl t ↦ (0, omega arith, selected-lowest n ∙ t)
  | inr f ↦
      let odd = eqb-false (n % 2) 1 f in
      let half : n / 2 ≢ 0 = (λ e. z (omega arith)) in
      let less : n / 2 ^ 1 < 2 ^ k = shr_lt k 1 (rw add-one l) in
      let p = some-bit k (n / 2) less half in
      (suc p.0, omega (arith, p.1), selected-half n p.0 ∙ p.2)
]

-- ---- rows with their numbers
-- each row made into another by its number
abbrev pub each_row_by : (ℕ → Row → Row) → List Row → List Row
each_row_by make rows = map (λ entry. make entry.0 entry.1) (numbered rows)

module _ (make : ℕ → Row → Row) (rows : List Row) where
  pub length-each : length (each_row_by make rows) ≡ length rows
  length-each = length-map (numbered rows) (λ entry. make entry.0 entry.1) ∙ length-enumerate_from 0 rows

  pub row-each : (i : ℕ) → i < length rows → row i (each_row_by make rows) ≡ make i (row i rows)
  row-each i l =
      get_or-map (λ entry. make entry.0 entry.1) (numbered rows) i (0, free_row) free_row (omega (arith, length-enumerate_from 0 rows))
      ∙ ap (λ (entry : ℕ × Row). make entry.0 entry.1) (get_or-enumerate_from 0 rows i (0, free_row) l)
      ∙ ap (λ n. make n (row i rows)) (let e : 0 + i ≡ i = omega arith in e)

  -- what each row keeps
  pub each-alike : {X : Type 0} (f : Row → X) → ((n : ℕ) (r : Row) → f (make n r) ≡ f r) → (i : ℕ) → f (row i (each_row_by make rows)) ≡ f (row i rows)
  each-alike f same i = elim (cases_lt i (length rows)) [
    | inl l ↦ ap f (row-each i l) ∙ same i (row i rows)
    | inr g ↦ ap f (get_or_past (each_row_by make rows) i free_row (omega (arith, length-each)) ∙ sym (get_or_past rows i free_row g))
  ]

-- ---- the rest of the rows have numbers one higher
abbrev higher : ℕ × Row → ℕ × Row
higher entry = (suc entry.0, entry.1)

higher-by : (n : ℕ) (rows : List Row) → enumerate_from (n + 1) rows ≡ map higher (enumerate_from n rows)
higher-by n [] = refl
higher-by n (r ∷ rs) = ap (λ k. (k, r) ∷ enumerate_from (n + 1 + 1) rs) (add-one n) ∙ ap (λ es. (suc n, r) ∷ es) (higher-by (n + 1) rs)

map-higher : {X : Type 0} (f : ℕ × Row → X) (es : List (ℕ × Row)) → map f (map higher es) ≡ map (λ entry. f (higher entry)) es
map-higher f [] = refl
map-higher f (e ∷ es) = ap (λ xs. f (higher e) ∷ xs) (map-higher f es)

pub each-more : (make : ℕ → Row → Row) (r : Row) (rs : List Row) → each_row_by make (r ∷ rs) ≡ make 0 r ∷ each_row_by (λ n. make (suc n)) rs
each-more make r rs = ap (λ es. make 0 r ∷ map (λ entry. make entry.0 entry.1) es) (higher-by 0 rs) ∙ ap (λ xs. make 0 r ∷ xs) (map-higher (λ entry. make entry.0 entry.1) (numbered rs))

abbrev numbers : List (ℕ × Row) → List ℕ
numbers es = map (λ entry. entry.0) es

filter-higher : (w : Sought) (es : List (ℕ × Row)) → numbers (filter (λ entry. suits w entry.1) (map higher es)) ≡ map suc (numbers (filter (λ entry. suits w entry.1) es))
filter-higher w [] = refl
filter-higher w (e ∷ es) = let h = filter-higher w es in grind (arith, nat_tests)

pub all-more : (w : Sought) (r : Row) (rs : List Row) → all_rows w (r ∷ rs) ≡ cond (suits w r) (0 ∷ map suc (all_rows w rs)) (map suc (all_rows w rs))
unfolding all_rows
all-more w r rs =
    let h : numbers (filter (λ entry. suits w entry.1) (enumerate_from (0 + 1) rs)) ≡ map suc (all_rows w rs) = ap (λ es. numbers (filter (λ entry. suits w entry.1) es)) (higher-by 0 rs) ∙ filter-higher w (numbered rs) in
    grind (arith, nat_tests)

-- what holds of the numbers with and without the first row
pub all-by : (w : Sought) (r : Row) (rs : List Row) (P : List ℕ → Type 0) → (suits w r ≡ true → P (0 ∷ map suc (all_rows w rs))) → (suits w r ≡ false → P (map suc (all_rows w rs))) → P (all_rows w (r ∷ rs))
all-by w r rs P with without = subst P (sym (all-more w r rs)) (cond_both (suits w r) (0 ∷ map suc (all_rows w rs)) (map suc (all_rows w rs)) P with without)
