-- A list in which a test finds nothing, by its elements.
use Rattle.std.proofs.Common.{◌≡◌, ℕ, ◌+◌, ◌<◌, Bool, false, List, length, get_or, sym, ap, ◌∙◌, arith}
use Rattle.std.proofs.lemmas.List.Elements.{All-from_get_or}
use Rattle.std.proofs.lemmas.List.Folds.{list_any_none}
use Rattle.std.proofs.lemmas.List.FromFn.{length-enumerate_from, get_or-enumerate_from}
use Rattle.std.specs.List.{enumerate_from, list_any}
use Rattle.rules.proofs.RowsKept.{none_passes}

-- the elements with their numbers
module _ {X : Type 0} (test : ℕ × X → Bool) (xs : List X) (d : X) where
  numbered-at : (i : ℕ) → i < length xs → get_or (enumerate_from 0 xs) i (0, d) ≡ (i, get_or xs i d)
  numbered-at i l = get_or-enumerate_from 0 xs i (0, d) l ∙ ap (λ (n : ℕ). (n, get_or xs i d)) (let e : 0 + i ≡ i = omega arith in e)

  long : length (enumerate_from 0 xs) ≡ length xs
  long = length-enumerate_from 0 xs

  pub none_at : list_any test (enumerate_from 0 xs) ≡ false → (i : ℕ) → i < length xs → test (i, get_or xs i d) ≡ false
  none_at f i l = ap test (sym (numbered-at i l)) ∙ none_passes test (enumerate_from 0 xs) f i (0, d) (omega (arith, long))

  pub none_from : ((i : ℕ) → i < length xs → test (i, get_or xs i d) ≡ false) → list_any test (enumerate_from 0 xs) ≡ false
  none_from each = list_any_none test (enumerate_from 0 xs) (All-from_get_or (λ e. test e ≡ false) (enumerate_from 0 xs) (0, d) (λ i l.
      let m : i < length xs = omega (arith, long) in
      ap test (numbered-at i m) ∙ each i m))
