-- What a script that was read has to do with its text.
use Rattle.std.specs.Prelude.{◌≡◌, ℕ, List, IfSome, vec_items, string_bytes, Option}
use Rattle.std.specs.List.{AllByRecursion}
use Rattle.lines.specs.Says.{LaysOut, Says}
use Rattle.lines.specs.Line.{words_of}
use Rattle.script.specs.Kept.{kept_by, kept_of_text}
use Rattle.script.specs.declared.script.Line.{Line}
use Rattle.script.specs.declared.script.Script.{Script}

-- the words that are kept of each call say that call, and those of the layout say the layout
abbrev pub LineSays : Line → Type 0
LineSays l = Says l.order (words_of (string_bytes l.words))

-- the script says what its words do
abbrev pub Faithful : Script → Type 0
Faithful s = LaysOut s.layout (words_of (string_bytes s.layout_words)) × AllByRecursion LineSays (vec_items s.lines)

-- the same of a script that may not have begun
abbrev pub SoFar : Option Script → Type 0
SoFar script = IfSome script Faithful

-- a script says what its words say, and has each line of the text that has a word, in their order
pub record IsRead (text : List ℕ) (s : Script) : Type 0 where
  pub faithful : Faithful s
  pub whole : kept_by s ≡ kept_of_text text
