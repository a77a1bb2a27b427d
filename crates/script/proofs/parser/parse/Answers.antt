-- Once no line is left, those that were read are the lines of the text.
use Rattle.std.proofs.Common.{◌≡◌, ℕ, ◌+◌, ◌∷◌, [], ◌++◌, List, sym, ap, ◌∙◌, append-nil, rules}
use Rattle.std.specs.List.{flat_map}
use Rattle.std.specs.Borrow.{Bor}
use Rattle.std.specs.Str.Lines.{lines}
use Rattle.std.proofs.lemmas.List.Concat.{flat_map-append}
use Rattle.std.proofs.lemmas.List.Folds.{flat_map-map}
use Rattle.std.proofs.lemmas.Iterator.Splits.{YieldsList-from_lines}
use Rattle.std.proofs.lemmas.Iterator.Consumers.{YieldsList-end, YieldsList-from_enumerate}
use Rattle.script.specs.Faithful.{IsRead}
use Rattle.script.specs.Kept.{kept_of, kept_of_text, kept_so_far}
use Rattle.script.proofs.parser.parse.Goals as goal

kept : ℕ × Bor (List ℕ) → List (ℕ × List ℕ)
kept line = kept_of (line.0 + 1) line.1.now

pub loop-index-preserved : goal.loop-index-preserved
loop-index-preserved c = search (rules, flat_map-append, append-nil)

pub returns : goal.returns
returns c =
    let end = YieldsList-end (YieldsList-from_enumerate (YieldsList-from_lines c.args.text.now cc) cc) c.loop-index.yielded _ c.loop-index.yielded_by _ _ c.in-None.is c.next.ensures.steps in
    let all = c.loop-index.invariant.1 ∙ sym (flat_map-map (λ (line : ℕ × List ℕ). kept_of (line.0 + 1) line.1) (λ (p : ℕ × Bor (List ℕ)). (p.0, p.1.now)) c.loop-index.yielded) ∙ ap (flat_map (λ (line : ℕ × List ℕ). kept_of (line.0 + 1) line.1)) end.0 in
    search rules
