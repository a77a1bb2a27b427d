-- The words of a line: what stands between spaces, where anything does, before any `#`.
use Rattle.std.specs.Prelude.{◌≡◌, ℕ, Bool, true, cond, ◌⊎◌, List, [], ◌∷◌, filter, length, nat_lt, is_err, Ok, Err, Result, ◌==◌}
use Rattle.std.specs.List.{before_first, join_with_byte, slice_split}
use Rattle.std.specs.Borrow.{Bor}
use Rattle.numerals.specs.declared.NumberFault.{NumberFault}

-- a line up to its comment
abbrev pub uncommented : List ℕ → List ℕ
uncommented line = before_first (λ c. c == 35) line

-- what stands between spaces, where anything does
abbrev pub words_of : List ℕ → List (List ℕ)
words_of text = filter (λ word. nat_lt 0 (length word)) (slice_split (λ c. c == 32) text)

-- the words with one space between
abbrev pub spaced : List (List ℕ) → List ℕ
spaced words = join_with_byte 32 words

-- r is the first of the words ws, which has to be there, and left are the others
abbrev pub Given : {E : Type 0} → List (List ℕ) → Result (Bor (List ℕ)) E → List (List ℕ) → Type 0
Given ws (Ok w) left = ws ≡ w.now ∷ left
Given ws (Err e) left = ws ≡ []

-- r is the number that the first word writes; an error says that there is no word, or no such number
abbrev pub Counted : {N E : Type 0} → (List ℕ → Result N NumberFault) → List (List ℕ) → Result N E → List (List ℕ) → Type 0
Counted reads ws (Ok n) left = (w : List ℕ) × (ws ≡ w ∷ left) × (reads w ≡ Ok n)
Counted reads ws (Err e) left = (ws ≡ []) ⊎ ((w : List ℕ) × (ws ≡ w ∷ left) × (is_err (reads w) ≡ true))

-- a word that stands there or is left out
abbrev pub where_true : Bool → List ℕ → List (List ℕ)
where_true b word = cond b (word ∷ []) []
