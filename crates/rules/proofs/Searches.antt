-- Searches over the rows: what is found, and when two searches find the same.
use Rattle.std.proofs.Common.{◌≡◌, ℕ, zero, suc, ◌<◌, Bool, true, false, cond, ◌≢◌, ◌⊎◌, List, [], ◌∷◌, length, get_or, set, is_some, Some, None, Option, unwrap_or, sym, refl, ap, ◌∙◌, subst, inl, inr, arith}
use Rattle.std.proofs.lemmas.List.{length-set, get_or-set_same, get_or-set_other, set_past}
use Rattle.std.proofs.lemmas.Bool.{cases_eq, cases_lt, both_ways}
use Rattle.std.specs.Option.{option_map}
use Rattle.packed.specs.First.{first}
use Rattle.packed.proofs.Search.{found_within, found-passes, when-absent}
use Rattle.vault.proofs.Checks.{by_option}
use Rattle.rules.specs.declared.row.Row.{Row}
use Rattle.rules.specs.declared.row.Sought.{Sought}
use Rattle.rules.specs.declared.row.Sought.TheVariants.{UnitRowOf, RangeOver}
use Rattle.rules.specs.Rows.{free_row, row, unit_row_of, range_over, suits, lowest_row, is_there, row_under, controlling_row}
use Rattle.rules.specs.Sound.{AtMostOne}

-- what is found or not, with the equation
pub cases-option : {A : Type 0} (o : Option A) → ((x : A) × (o ≡ Some x)) ⊎ (o ≡ None)
cases-option None = inr refl
cases-option (Some x) = inl (x, refl)

-- the same places pass in both lists
pub first-same : {A : Type 0} (test : A → Bool) (d : A) (xs ys : List A) → length xs ≡ length ys
    → ((i : ℕ) → test (get_or xs i d) ≡ test (get_or ys i d)) → first test xs ≡ first test ys
unfolding first
first-same test d [] [] n e = refl
first-same test d [] (y ∷ ys) n e = absurd (let b : ⊥ = omega arith in b)
first-same test d (x ∷ xs) [] n e = absurd (let b : ⊥ = omega arith in b)
first-same test d (x ∷ xs) (y ∷ ys) n e =
    ap (λ b. cond b (Some 0) (option_map suc (first test xs))) (e 0)
    ∙ ap (λ o. cond (test y) (Some 0) (option_map suc o)) (first-same test d xs ys (omega arith) (λ i. e (suc i)))

module _ (w : Sought) (rows : List Row) where
  pub hit : (i : ℕ) → lowest_row w rows ≡ Some i → suits w (row i rows) ≡ true
  hit i e = found-passes (λ r. suits w r) rows i e free_row

  pub hit-within : (i : ℕ) → lowest_row w rows ≡ Some i → i < length rows
  hit-within i e = found_within (λ r. suits w r) rows i e

  pub missed : lowest_row w rows ≡ None → (i : ℕ) → i < length rows → suits w (row i rows) ≡ false
  missed = when-absent (λ r. suits w r) (λ rs. (i : ℕ) → i < length rs → suits w (row i rs) ≡ false) (λ i l. absurd (let b : ⊥ = omega arith in b)) past rows
    where
      past : (x : Row) (xs : List Row) → suits w x ≡ false → ((i : ℕ) → i < length xs → suits w (row i xs) ≡ false) → (i : ℕ) → i < suc (length xs) → suits w (row i (x ∷ xs)) ≡ false
      past x xs f h zero l = f
      past x xs f h (suc i) l = h i (omega arith)

  pub there : (i : ℕ) → i < length rows → suits w (row i rows) ≡ true → is_there w rows ≡ true
  there i l t = elim (cases-option (lowest_row w rows)) [
    | inl p ↦ ap is_some p.1
    | inr n ↦ absurd (both_ways (suits w (row i rows)) (missed n i l) t)
  ]

  pub at_there : is_there w rows ≡ true → (i : ℕ) × (i < length rows) × (suits w (row i rows) ≡ true) × (lowest_row w rows ≡ Some i)
  at_there t = elim (cases-option (lowest_row w rows)) [
    | inl p ↦ (p.0, hit-within p.0 p.1, hit p.0 p.1, p.1)
    | inr n ↦ absurd (both_ways (is_there w rows) (ap is_some n) t)
  ]

  pub not_there : is_there w rows ≡ false → lowest_row w rows ≡ None
  not_there f = elim (cases-option (lowest_row w rows)) [
    | inl p ↦ absurd (both_ways (is_there w rows) f (ap is_some p.1))
    | inr n ↦ n
  ]

  -- where no more than one row is looked for, it is the one that is found
  pub found-is : AtMostOne w rows → (i : ℕ) → i < length rows → suits w (row i rows) ≡ true → lowest_row w rows ≡ Some i
  found-is one i l t = let p = at_there (there i l t) in p.3 ∙ ap Some (one p.0 i p.2 t)

  pub nowhere : ((i : ℕ) → i < length rows → suits w (row i rows) ≡ false) → lowest_row w rows ≡ None
  nowhere n = elim (cases-option (lowest_row w rows)) [
    | inl p ↦ absurd (both_ways (suits w (row p.0 rows)) (n p.0 (hit-within p.0 p.1)) (hit p.0 p.1))
    | inr e ↦ e
  ]

-- ---- one row is written
module _ (rows : List Row) (r : ℕ) (x : Row) where
  pub written : r < length rows → row r (set rows r x) ≡ x
  written l = get_or-set_same rows r x free_row l

  pub unwritten : (i : ℕ) → i ≢ r → row i (set rows r x) ≡ row i rows
  unwritten i n = get_or-set_other rows r i x free_row n

  -- what holds of the new row, and of each other row, holds of each row
  pub each_row : (P : ℕ → Row → Type 0) → r < length rows → P r x → ((i : ℕ) → i ≢ r → P i (row i rows)) → (i : ℕ) → P i (row i (set rows r x))
  each_row P l p q i = elim (cases_eq i r) [
    | inl e ↦ subst (λ k. P k (row k (set rows r x))) (sym e) (subst (P r) (sym (written l)) p)
    | inr n ↦ subst (P i) (sym (unwritten i n)) (q i n)
  ]

  -- what the new row has in common with the old one, each row has
  pub set-alike : {X : Type 0} (f : Row → X) → f x ≡ f (row r rows) → (i : ℕ) → f (row i (set rows r x)) ≡ f (row i rows)
  set-alike f e i = elim (cases_lt r (length rows)) [
    | inl l ↦ each_row (λ k y. f y ≡ f (row k rows)) l e (λ k n. refl) i
    | inr g ↦ ap (λ ys. f (row i ys)) (set_past rows r x g)
  ]

  pub there-kept : (w : Sought) → suits w (row r rows) ≡ false → is_there w rows ≡ true → is_there w (set rows r x) ≡ true
  there-kept w o t =
      let p = at_there w rows t in
      let ne : p.0 ≢ r = (λ e. both_ways (suits w (row r rows)) o (ap (λ k. suits w (row k rows)) (sym e) ∙ p.2)) in
      let n : length (set rows r x) ≡ length rows = length-set rows r x in
      there w (set rows r x) p.0 (omega (arith, p.1)) (ap (suits w) (unwritten p.0 ne) ∙ p.2)

  pub one_kept : (w : Sought) → r < length rows → AtMostOne w rows → (suits w x ≡ true → (i : ℕ) → i ≢ r → suits w (row i rows) ≡ false) → AtMostOne w (set rows r x)
  one_kept w l one new i j p q = elim (cases_eq i r) [
    | inl ir ↦ elim (cases_eq j r) [
      | inl jr ↦ ir ∙ sym jr
      | inr jr ↦ absurd (both_ways _ (new (here i ir p) j jr) (old j jr q))
    ]
    | inr ir ↦ elim (cases_eq j r) [
      | inl jr ↦ absurd (both_ways _ (new (here j jr q) i ir) (old i ir p))
      | inr jr ↦ one i j (old i ir p) (old j jr q)
    ]
  ]
    where
      here : (k : ℕ) → k ≡ r → suits w (row k (set rows r x)) ≡ true → suits w x ≡ true
      here k e t = sym (ap (suits w) (ap (λ n. row n (set rows r x)) e ∙ written l)) ∙ t

      old : (k : ℕ) → k ≢ r → suits w (row k (set rows r x)) ≡ true → suits w (row k rows) ≡ true
      old k n t = sym (ap (suits w) (unwritten k n)) ∙ t

-- ---- the row of a block is one of three
module _ (rows : List Row) (n block : ℕ) where
  pub control-by : (Q : ℕ → Type 0)
      → ((i : ℕ) → lowest_row (RangeOver n block) rows ≡ Some i → Q i)
      → ((i : ℕ) → lowest_row (RangeOver n block) rows ≡ None → lowest_row (UnitRowOf n) rows ≡ Some i → Q i)
      → (lowest_row (RangeOver n block) rows ≡ None → lowest_row (UnitRowOf n) rows ≡ None → Q 0)
      → Q (controlling_row rows n block)
  control-by Q f g z = by_option (lowest_row (RangeOver n block) rows) (λ a. Q (unwrap_or a (row_under rows n)))
      (λ p. by_option (lowest_row (UnitRowOf n) rows) (λ c. Q (unwrap_or c 0)) (z p) (λ i q. g i p q))
      f

  pub control-as : (ss : List Row) → length ss ≡ length rows → ((i : ℕ) → range_over n block (row i ss).kind ≡ range_over n block (row i rows).kind) → ((i : ℕ) → unit_row_of n (row i ss).kind ≡ unit_row_of n (row i rows).kind)
      → controlling_row ss n block ≡ controlling_row rows n block
  control-as ss long p q =
      ap (λ o. unwrap_or o (row_under ss n)) (first-same (λ y. suits (RangeOver n block) y) free_row ss rows long p)
      ∙ ap (λ o. unwrap_or (lowest_row (RangeOver n block) rows) (unwrap_or o 0)) (first-same (λ y. suits (UnitRowOf n) y) free_row ss rows long q)
