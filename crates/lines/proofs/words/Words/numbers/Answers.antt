-- The word that is read next adds its number after the ones so far.
use Rattle.std.proofs.Common.{◌≡◌, ℕ, List, [], ◌∷◌, ◌++◌, map, Ok, Result, append_assoc, rules}
use Rattle.std.proofs.lemmas.List.{map-append}
use Rattle.numerals.specs.declared.NumberFault.{NumberFault}
use Rattle.lines.proofs.words.Words.numbers.Goals as goal

one_more : (writes : List ℕ → Result ℕ NumberFault) (all : List (Result ℕ NumberFault)) (w : List ℕ) (before after : List (List ℕ)) (ns ms : List ℕ) (n : ℕ) →
    all ≡ map Ok ns ++ map writes before → before ≡ w ∷ after → writes w ≡ Ok n → ms ≡ ns ++ n ∷ [] → all ≡ map Ok ms ++ map writes after
one_more writes all w before after ns ms n so_far reads number push = rw push (simp (map-append, append_assoc) (search rules))

pub loop-word-preserved : goal.loop-word-preserved
loop-word-preserved c = one_more _ _ c.in-Some.word.now _ _ _ _ c.in_ok-number_of.field-0 c.loop-word.invariant (search rules) (search rules) (search rules)
