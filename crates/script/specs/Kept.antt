-- What a script keeps of each line of its text.
use Rattle.std.specs.Prelude.{ℕ, ◌+◌, cond, List, [], ◌∷◌, map, length, nat_lt, vec_items, string_bytes, Option, Some, None}
use Rattle.std.specs.List.{enumerate_from, flat_map}
use Rattle.std.specs.Str.Lines.{lines}
use Rattle.lines.specs.Line.{spaced, uncommented, words_of}
use Rattle.script.specs.declared.script.Line.{Line}
use Rattle.script.specs.declared.script.Script.{Script}

-- what is kept of a line that has a word: its number, and its words with one space between
abbrev pub kept_of : ℕ → List ℕ → List (ℕ × List ℕ)
kept_of number line =
    let ws = words_of (uncommented line) in
    cond (nat_lt 0 (length ws)) ((number, spaced ws) ∷ []) []

-- the same of all lines of a text, counted from 1
abbrev pub kept_of_text : List ℕ → List (ℕ × List ℕ)
kept_of_text text = flat_map (λ (line : ℕ × List ℕ). kept_of (line.0 + 1) line.1) (enumerate_from 0 (lines text))

-- the numbers and the words that a script keeps, those of the layout first
abbrev pub kept_by : Script → List (ℕ × List ℕ)
kept_by s = (s.layout_number, string_bytes s.layout_words) ∷ map (λ (l : Line). (l.number, string_bytes l.words)) (vec_items s.lines)

-- the same of a script that may not have begun
abbrev pub kept_so_far : Option Script → List (ℕ × List ℕ)
kept_so_far None = []
kept_so_far (Some s) = kept_by s
