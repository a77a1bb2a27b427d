-- Words with one space between, word by word.
use Rattle.std.proofs.Common.{◌≡◌, ℕ, List, [], ◌∷◌, ◌++◌, ap, append-nil}
use Rattle.lines.specs.Line.{spaced}

-- the words, each after a space
abbrev pub after_spaces : List (List ℕ) → List ℕ
after_spaces [] = []
after_spaces (w ∷ ws) = 32 ∷ (w ++ after_spaces ws)

pub first_then : (w : List ℕ) (ws : List (List ℕ)) → w ++ after_spaces ws ≡ spaced (w ∷ ws)
first_then w [] = append-nil w
first_then w (v ∷ vs) = ap (λ left. w ++ (32 ∷ left)) (first_then v vs)
