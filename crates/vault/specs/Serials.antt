-- Sets of serials. A set is written as a list that rises from 1, so that equal sets are equal lists.
use Rattle.std.specs.Prelude.{ℕ, Bool, true, cond, not, ◌&&◌, ◌||◌, List, [], ◌∷◌, ◌==◌}
use Rattle.packed.specs.Rising as rising

-- in a set of serials each is known by its own number
abbrev pub set_of_serials : List ℕ → Bool
set_of_serials held = rising.rises (λ s. s) 1 held

abbrev pub holds : ℕ → List ℕ → Bool
holds s held = rising.has (λ x. x) s held

abbrev pub adds : ℕ → List ℕ → List ℕ
adds s held = rising.insert (λ x. x) s held

abbrev pub drops : ℕ → List ℕ → List ℕ
drops s held = rising.remove (λ x. x) s held

-- the set of the words that are not 0
unfoldable pub collect : List ℕ → List ℕ
collect [] = []
collect (word ∷ words) = cond (word == 0) (collect words) (adds word (collect words))

-- no word but 0 stands twice
unfoldable pub distinct : List ℕ → Bool
distinct [] = true
distinct (word ∷ words) = (word == 0 || not (holds word words)) && distinct words
