-- What a line that has a word adds to what is kept.
use Rattle.std.proofs.Common.{◌≡◌, ℕ, refl, true, List, [], ◌∷◌, ◌++◌, map, length, nat_lt, Option, Some, ap, ◌∙◌, string_bytes, vec_items, rules}
use Rattle.std.proofs.lemmas.List.{map-append}
use Rattle.lines.specs.Line.{spaced, uncommented, words_of}
use Rattle.script.specs.Kept.{kept_of, kept_so_far}
use Rattle.script.specs.declared.script.Line.{Line}
use Rattle.script.specs.declared.script.Script.{Script}

pub has_word : (ws : List (List ℕ)) (w : List ℕ) (left : List (List ℕ)) → ws ≡ w ∷ left → nat_lt 0 (length ws) ≡ true
has_word ws w left e = rw e (search rules)

pub one_kept : (number : ℕ) (line bs : List ℕ) → nat_lt 0 (length (words_of (uncommented line))) ≡ true → bs ≡ spaced (words_of (uncommented line)) → (number, bs) ∷ [] ≡ kept_of number line
one_kept number line bs some e = search rules

pub one_more : (old new : Option Script) (s t : Script) (l : Line) (more : List (ℕ × List ℕ)) → old ≡ Some s → new ≡ Some t →
    t.layout_number ≡ s.layout_number → t.layout_words ≡ s.layout_words → vec_items t.lines ≡ vec_items s.lines ++ l ∷ [] →
    (l.number, string_bytes l.words) ∷ [] ≡ more → kept_so_far new ≡ kept_so_far old ++ more
one_more old new s t l more before after number words push e =
    let lines = ap (map (λ (m : Line). (m.number, string_bytes m.words))) push ∙ map-append (λ (m : Line). (m.number, string_bytes m.words)) (vec_items s.lines) (l ∷ []) in
    rw (before, after, number, words, ← e) (ap (λ ls. (s.layout_number, string_bytes s.layout_words) ∷ ls) lines)
