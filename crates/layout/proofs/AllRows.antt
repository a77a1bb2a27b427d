-- The numbers of the rows that are looked for, as far as a loop over the rows has come.
use Rattle.std.proofs.Common.{◌≡◌, ℕ, zero, suc, ◌+◌, ◌<◌, Bool, true, false, cond, List, [], ◌∷◌, ◌++◌, filter, get_or, length, map, take, sym, refl, ap, ◌∙◌, arith}
use Rattle.std.proofs.lemmas.Bool.Decides.{nat_tests}
use Rattle.std.proofs.lemmas.List.{map-append}
use Rattle.std.proofs.lemmas.List.Elements.{filter_more}
use Rattle.std.proofs.lemmas.List.FromFn.{length-enumerate_from, get_or-enumerate_from}
use Rattle.std.specs.List.{enumerate_from}
use Rattle.rules.specs.declared.row.Row.{Row}
use Rattle.rules.specs.declared.row.Sought.{Sought}
use Rattle.rules.specs.Rows.{suits, numbered, all_rows}

-- the first rows keep their numbers
enumerate_from-take : (k n : ℕ) (rows : List Row) → enumerate_from k (take n rows) ≡ take n (enumerate_from k rows)
enumerate_from-take k zero rows = refl
enumerate_from-take k (suc n) [] = refl
enumerate_from-take k (suc n) (r ∷ rs) = ap (λ es. (k, r) ∷ es) (enumerate_from-take (k + 1) n rs)

module _ (w : Sought) where
  abbrev numbers : List (ℕ × Row) → List ℕ
  numbers entries = map (λ entry. entry.0) entries

  abbrev found : List (ℕ × Row) → List (ℕ × Row)
  found entries = filter (λ entry. suits w entry.1) entries

  abbrev alone : ℕ × Row → List (ℕ × Row)
  alone entry = cond (suits w entry.1) (entry ∷ []) []

  number-alone : (entry : ℕ × Row) → numbers (alone entry) ≡ cond (suits w entry.1) (entry.0 ∷ []) []
  number-alone entry = grind (arith, nat_tests)

  -- the row with number i is among them where it is looked for
  pub all_rows-more : (rows : List Row) (i : ℕ) (d : Row) → i < length rows → all_rows w (take (i + 1) rows) ≡ all_rows w (take i rows) ++ cond (suits w (get_or rows i d)) (i ∷ []) []
  unfolding all_rows
  all_rows-more rows i d l =
      let entry : get_or (numbered rows) i (0, d) ≡ (i, get_or rows i d) = get_or-enumerate_from 0 rows i (0, d) l ∙ ap (λ n. (n, get_or rows i d)) (let e : 0 + i ≡ i = omega arith in e) in
      ap (λ es. numbers (found es)) (enumerate_from-take 0 (i + 1) rows)
      ∙ ap numbers (filter_more (λ entry. suits w entry.1) (numbered rows) i (0, d) (omega (arith, length-enumerate_from 0 rows)))
      ∙ map-append (λ entry. entry.0) (found (take i (numbered rows))) (alone (get_or (numbered rows) i (0, d)))
      ∙ ap (λ es. numbers (found es) ++ numbers (alone (get_or (numbered rows) i (0, d)))) (sym (enumerate_from-take 0 i rows))
      ∙ ap (λ e. all_rows w (take i rows) ++ numbers (alone e)) entry
      ∙ ap (λ ns. all_rows w (take i rows) ++ ns) (number-alone (i, get_or rows i d))
