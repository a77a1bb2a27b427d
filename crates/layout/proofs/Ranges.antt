-- A search over the rows of some sort, by their numbers and one by one.
use Rattle.std.proofs.Common.{◌≡◌, suc, Bool, true, false, cond, ◌&&◌, ◌||◌, List, [], ◌∷◌, map, refl, ap, ◌∙◌, arith}
use Rattle.std.proofs.lemmas.Bool.Decides.{nat_tests}
use Rattle.std.specs.List.{list_any}
use Rattle.rules.specs.declared.row.Row.{Row}
use Rattle.rules.specs.declared.row.Sought.{Sought}
use Rattle.rules.specs.Rows.{all_rows, row, suits}
use Rattle.rules.proofs.Numbered.{all-more}

any-map : {X Y : Type 0} (test : Y → Bool) (f : X → Y) (xs : List X) → list_any test (map f xs) ≡ list_any (λ x. test (f x)) xs
any-map test f [] = refl
any-map test f (x ∷ xs) = ap (λ b. test (f x) || b) (any-map test f xs)

-- some row that is looked for passes a test
pub any-of-rows : (w : Sought) (test : Row → Bool) (rows : List Row) → list_any (λ r. test (row r rows)) (all_rows w rows) ≡ list_any (λ r. suits w r && test r) rows
unfolding all_rows
any-of-rows w test [] = refl
any-of-rows w test (r ∷ rs) =
    let later = any-map (λ n. test (row n (r ∷ rs))) suc (all_rows w rs) ∙ any-of-rows w test rs in
    ap (list_any (λ n. test (row n (r ∷ rs)))) (all-more w r rs) ∙ grind (arith, nat_tests)
