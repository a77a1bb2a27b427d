-- The set of the words that are not 0.
use Rattle.std.proofs.Common.{◌≡◌, ℕ, zero, suc, ◌+◌, ◌<◌, ◌≤◌, true, not, cond, ◌&&◌, ◌||◌, eqb, ltb, List, [], ◌∷◌, length, get_or, drop, set, sym, refl, ap, ◌∙◌, arith}
use Rattle.std.proofs.lemmas.Bool.Decides.{nat_tests}
use Rattle.std.proofs.lemmas.List.{set-set, set-get_or, get_or-set_same, length-set, drop_more}
use Rattle.std.proofs.lemmas.List.Sums.{sum_by-cons}
use Rattle.std.specs.List.{count_by}
use Rattle.packed.specs.Rising.{has, insert, rises}
use Rattle.packed.proofs.Order.{remove-insert, has-insert, length-insert, rises-insert}
use Rattle.vault.specs.Serials.{set_of_serials, holds, adds, drops, collect, distinct}

pub adds-comm : (s t : ℕ) (xs : List ℕ) → adds s (adds t xs) ≡ adds t (adds s xs)
unfolding insert
adds-comm s t [] = grind (arith, nat_tests)
adds-comm s t (x ∷ xs) = let h = adds-comm s t xs in grind (arith, nat_tests)

pub holds-collect : (s : ℕ) (xs : List ℕ) → holds s (collect xs) ≡ (not (eqb s 0) && holds s xs)
unfolding has collect
holds-collect s [] = grind (arith, nat_tests)
holds-collect s (x ∷ xs) = let h = holds-collect s xs in let k = has-insert (λ y. y) s x (collect xs) in grind (arith, nat_tests)

pub rises-collect : (xs : List ℕ) → distinct xs ≡ true → set_of_serials (collect xs) ≡ true
unfolding collect distinct rises
rises-collect [] d = refl
rises-collect (x ∷ xs) d = let h = rises-collect xs in let k = holds-collect x xs in let r = rises-insert (λ y. y) 1 x (collect xs) in grind (arith, nat_tests)

pub length-collect : (xs : List ℕ) → length (collect xs) ≤ length xs
unfolding collect
length-collect [] = omega arith
length-collect (x ∷ xs) = let h = length-collect xs in let k = length-insert (λ y. y) x (collect xs) in grind (arith, nat_tests)

-- there is a word that is 0 where not all places are taken
pub holds-zero : (xs : List ℕ) → holds 0 xs ≡ ltb (length (collect xs)) (length xs)
unfolding collect has
holds-zero [] = refl
holds-zero (x ∷ xs) = let h = holds-zero xs in let l = length-collect xs in let k = length-insert (λ y. y) x (collect xs) in grind (arith, nat_tests)

pub collect-set : (xs : List ℕ) (i s : ℕ) → i < length xs → get_or xs i 0 ≡ 0 → (s ≡ 0 → ⊥) → collect (set xs i s) ≡ adds s (collect xs)
unfolding collect
collect-set [] i s l z n = absurd (let b : ⊥ = omega arith in b)
collect-set (x ∷ xs) zero s l z n = grind (arith, nat_tests)
collect-set (x ∷ xs) (suc i) s l z n = let h = collect-set xs i s (omega arith) z n in let k = adds-comm x s (collect xs) in grind (arith, nat_tests)

module _ (xs : List ℕ) (i s : ℕ) (l : i < length xs) (e : get_or xs i 0 ≡ s) (n : s ≡ 0 → ⊥) where
  within : i < length (set xs i 0)
  within = simp length-set l

  back : set (set xs i 0) i s ≡ xs
  back = set-set xs i 0 s ∙ ap (set xs i) (sym e) ∙ set-get_or xs i 0

  pub collect-clear : collect (set xs i 0) ≡ drops s (collect xs)
  collect-clear =
      let h = collect-set (set xs i 0) i s within (get_or-set_same xs i 0 0 l) n in
      sym (ap (drops s) (ap collect (sym back) ∙ h) ∙ remove-insert (λ y. y) s (collect (set xs i 0)))

  pub collect-swap : (t : ℕ) → (t ≡ 0 → ⊥) → collect (set xs i t) ≡ adds t (drops s (collect xs))
  collect-swap t m =
      let h = collect-set (set xs i 0) i t within (get_or-set_same xs i 0 0 l) m in
      ap collect (sym (set-set xs i 0 t)) ∙ h ∙ ap (adds t) collect-clear

-- ---- how many words are not 0
pub count-words : (xs : List ℕ) → count_by (λ x. not (eqb x 0)) xs ≡ length (collect xs)
unfolding collect
count-words [] = refl
count-words (x ∷ xs) = let h = count-words xs in let c = sum_by-cons (λ x. cond (not (eqb x 0)) 1 0) x xs in let k = length-insert (λ y. y) x (collect xs) in grind (arith, nat_tests)

-- whether the words from one place on are distinct, by that word and those after it
pub distinct_more : (xs : List ℕ) (i : ℕ) → i < length xs → distinct (drop i xs) ≡ ((eqb (get_or xs i 0) 0 || not (holds (get_or xs i 0) (drop (i + 1) xs))) && distinct (drop (i + 1) xs))
unfolding distinct
distinct_more xs i l = rw (drop_more xs i 0 l)
