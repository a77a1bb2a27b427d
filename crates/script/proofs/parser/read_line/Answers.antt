-- The words that are kept are put together from the words that were read, so they say the same.
use Rattle.std.proofs.Common.{◌≡◌, ◌∙◌, sym, refl, ◌++◌, length, nat_lt, true, string_bytes, rules}
use Rattle.std.proofs.ByRecursion.{All-push}
use Rattle.lines.specs.Line.{spaced, uncommented, words_of}
use Rattle.lines.proofs.Rejoined.{same_words}
use Rattle.script.specs.Faithful.{SoFar}
use Rattle.script.specs.Kept.{kept_of, kept_so_far}
use Rattle.script.proofs.Kept.{has_word, one_kept, one_more}
use Rattle.script.proofs.parser.read_line.Goals as goal
use Rattle.script.proofs.parser.read_line.Goals.{in-None+in_ok-layout_words-in-None+in_ok-layout-in-None+in-Some-1, in-None+in_ok-layout_words-in-None+in_ok-layout-in-None+in-None-1, in-Some-script+in_ok-order-in-Some-script+in_ok-words-in-Some-script+in_ok-push-in-Some-script}

pub returns : goal.returns
returns c =
    elim c.match-script.branch [
      | in-None+in_ok-layout_words-in-None+in_ok-layout-in-None+in-Some-1 w ↦ let kept = same_words (string_bytes w.in_ok-layout_words-in-None.layout_words) (uncommented c.args.line.now) (search rules) in search rules
      | in-None+in_ok-layout_words-in-None+in_ok-layout-in-None+in-None-1 w ↦ let kept = same_words (string_bytes w.in_ok-layout_words-in-None.layout_words) (uncommented c.args.line.now) (search rules) in search rules
      | in-Some-script+in_ok-order-in-Some-script+in_ok-words-in-Some-script+in_ok-push-in-Some-script w ↦
          let bs = string_bytes w.in_ok-words-in-Some-script.words in
          let same : bs ≡ spaced (words_of (uncommented c.args.line.now)) = search rules in
          let kept = same_words bs (uncommented c.args.line.now) same in
          let some : nat_lt 0 (length (words_of (uncommented c.args.line.now))) ≡ true = has_word _ _ _ (sym c.new-words.ensures ∙ c.in-Some.ensures.steps) in
          let one = one_kept c.args.number c.args.line.now bs some same in
          let faithful : SoFar c.match-script.script = search (rules, All-push) in
          let whole : kept_so_far c.match-script.script ≡ kept_so_far c.args.script.now ++ kept_of c.args.number c.args.line.now =
          one_more _ _ _ _ _ _ w.in-Some-script.is w.script-is refl refl w.in_ok-push-in-Some-script.ensures.items one in
          (faithful, whole)
    ]
