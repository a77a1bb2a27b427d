-- A text that is put together from the words of another text has the same words.
use Rattle.std.proofs.Common.{◌≡◌, ℕ, Bool, true, false, cond, List, [], ◌∷◌, filter, length, nat_lt, refl, ap, ◌∙◌, rules, ◌==◌}
use Rattle.std.specs.List.{AllByRecursion, slice_split, onto_first}
use Rattle.std.proofs.lemmas.List.Elements.{All-from_recursion}
use Rattle.std.proofs.lemmas.List.Splits.{slice_split_at, slice_split_none}
use Rattle.lines.specs.Line.{words_of, spaced}

-- no space stands in the text
abbrev Plain : List ℕ → Type 0
Plain = AllByRecursion (λ c. (c == 32) ≡ false)

-- one byte or more, and no space
abbrev IsWord : List ℕ → Type 0
IsWord w = (nat_lt 0 (length w) ≡ true) × Plain w

-- what is cut at spaces has none
part : (b : Bool) (x : ℕ) (parts : List (List ℕ)) → (x == 32) ≡ b → AllByRecursion Plain parts → AllByRecursion Plain (cond b ([] ∷ parts) (onto_first x parts))
part true x parts e h = (tt, h)
part false x [] e h = ((e, tt), tt)
part false x (p ∷ ps) e h = ((e, h.0), h.1)

parts_plain : (text : List ℕ) → AllByRecursion Plain (slice_split (λ c. c == 32) text)
parts_plain [] = (tt, tt)
parts_plain (x ∷ xs) = part (x == 32) x (slice_split (λ c. c == 32) xs) refl (parts_plain xs)

-- of parts with no space, those that are not empty are words
keep : (b : Bool) (w : List ℕ) (ws : List (List ℕ)) → nat_lt 0 (length w) ≡ b → Plain w → AllByRecursion IsWord ws → AllByRecursion IsWord (cond b (w ∷ ws) ws)
keep true w ws e p h = ((e, p), h)
keep false w ws e p h = h

kept : (parts : List (List ℕ)) → AllByRecursion Plain parts → AllByRecursion IsWord (filter (λ w. nat_lt 0 (length w)) parts)
kept [] h = tt
kept (w ∷ ws) h = keep (nat_lt 0 (length w)) w (filter (λ v. nat_lt 0 (length v)) ws) refl h.0 (kept ws h.1)

-- words with one space between are cut into the same words
words-spaced : (ws : List (List ℕ)) → AllByRecursion IsWord ws → words_of (spaced ws) ≡ ws
words-spaced [] h = refl
words-spaced (w ∷ []) h =
    let e = slice_split_none (λ c. c == 32) w (All-from_recursion _ w h.0.1) in
    let some = h.0.0 in
    search rules
words-spaced (w ∷ v ∷ ws) h =
    let e = slice_split_at (λ c. c == 32) w 32 (spaced (v ∷ ws)) (All-from_recursion _ w h.0.1) refl in
    let some = h.0.0 in
    let ih = words-spaced (v ∷ ws) h.1 in
    search rules

pub same_words : (text bs : List ℕ) → text ≡ spaced (words_of bs) → words_of text ≡ words_of bs
same_words text bs e = ap words_of e ∙ words-spaced (words_of bs) (kept _ (parts_plain bs))
