-- Spaces in front are no part of a word, and what stands before the next space is the first word.
use Rattle.std.proofs.Common.{◌≡◌, ◌≢◌, ℕ, ◌<◌, List, [], ◌∷◌, ◌++◌, length, get_or, not, false, Option, Some, None, refl, ap, sym, ◌∙◌, rules}
use Rattle.std.specs.Bool.{◌==◌, then_some}
use Rattle.std.specs.Borrow.{Bor}
use Rattle.std.specs.Iterator.{YieldsFirstRef}
use Rattle.std.specs.List.{All}
use Rattle.std.specs.Option.{unwrap_or}
use Rattle.std.specs.Str.Pattern.{CutsPrefixes, FindsCharPrefix, IsFullyTrimmed}
use Rattle.std.proofs.lemmas.List.Elements.{All-from_get_or}
use Rattle.std.proofs.lemmas.List.Splits.{slice_split_at, slice_split_none}
use Rattle.std.proofs.lemmas.Str.Pattern.{IsSplitOnceResult, drop_at_char, split_parts, strip_prefix_char}
use Rattle.lines.specs.Line.{words_of}
use Rattle.lines.proofs.words.WordsIterator.next.Goals as goal

-- spaces that are cut off the front leave the words
spaces_cut : (s ns r : List ℕ) → CutsPrefixes (FindsCharPrefix 32) s ns r → words_of r ≡ words_of s
spaces_cut s [] r h = ap words_of h
spaces_cut s (n ∷ ns) r h =
    let first = drop_at_char 32 h.0 0 n h.2 (search rules) in
    ap words_of h.3 ∙ (sym (ap words_of first) ∙ spaces_cut s ns h.0 h.1)

-- no space is left in front
no_space : (r rest : List ℕ) → IsFullyTrimmed (FindsCharPrefix 32) r → r ≢ 32 ∷ rest
no_space r rest (None, at, zero) = strip_prefix_char 32 r None at (search rules) rest
no_space r rest (Some n, at, zero) = λ e. let ends = at.ends in search rules

lacks : (xs : List ℕ) → ((i : ℕ) → i < length xs → get_or xs i 0 ≢ 32) → All (λ c. (c == 32) ≡ false) xs
lacks xs h = All-from_get_or (λ c. (c == 32) ≡ false) xs 0 (λ i lt. let ne = h i lt in search rules)

-- a word and a space, and then the other words
one : (text w rest : List ℕ) → text ≡ w ++ (32 ∷ rest) → All (λ c. (c == 32) ≡ false) w → text ≢ 32 ∷ rest → (words_of text ≡ w ∷ words_of rest) × (0 < length w)
one text [] rest e h ne = absurd (ne e)
one text (c ∷ cs) rest e h ne = let cut = slice_split_at (λ b. b == 32) (c ∷ cs) 32 rest h refl in (rw e (search rules), search rules)

-- a text with no space is one word, or none
last_one : (text : List ℕ) (last : Bor (List ℕ) × Bor (List ℕ)) → All (λ c. (c == 32) ≡ false) text → last.0.now ≡ text → last.1.now ≡ [] → YieldsFirstRef (λ ws. ws) (words_of text) (then_some (not (length last.0.now == 0)) last.0) (words_of last.1.now)
last_one [] last h e f = search rules
last_one (c ∷ cs) last h e f = let cut = slice_split_none (λ b. b == 32) (c ∷ cs) h in search rules

-- both, by what `split_once` finds
taken : (text : List ℕ) (r : Option (Bor (List ℕ) × Bor (List ℕ))) (last p : Bor (List ℕ) × Bor (List ℕ)) → p ≡ unwrap_or r last →
    IsSplitOnceResult 32 text r → IsFullyTrimmed (FindsCharPrefix 32) text → last.0.now ≡ text → last.1.now ≡ [] →
    YieldsFirstRef (λ ws. ws) (words_of text) (then_some (not (length p.0.now == 0)) p.0) (words_of p.1.now)
taken text None last p is cut trimmed e f = rw is (last_one text last (lacks text (split_parts 32 text None cut (search rules))) e f)
taken text (Some x) last p is cut trimmed e f =
    let parts = split_parts 32 text (Some x) cut (search rules) in
    let first = one text x.0.now x.1.now parts.0 (lacks x.0.now parts.1) (no_space text x.1.now trimmed) in
    rw is (search rules)

pub returns : goal.returns
returns c =
    let text = c.trim_start_matches-text.result.now in
    let same = spaces_cut _ _ _ c.trim_start_matches-text.ensures.matches.0.1 in
    let steps = taken text c.split_once.result _ c.unwrap_or.result c.unwrap_or.ensures c.split_once.ensures.cases c.trim_start_matches-text.ensures.matches.1 refl refl in
    record { steps = search rules; goes = search rules }
