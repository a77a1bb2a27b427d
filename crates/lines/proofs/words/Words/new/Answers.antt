-- What stands before the first `#`, or the whole line where there is none.
use Rattle.std.proofs.Common.{◌≡◌, ℕ, List, Option, Some, None, refl, ap, ◌∙◌, sym, arith, ◌==◌}
use Rattle.std.specs.Borrow.{Bor}
use Rattle.std.specs.List.{before_first}
use Rattle.std.specs.Option.{unwrap_or}
use Rattle.std.proofs.lemmas.Str.Pattern.{IsSplitOnceResult, split_once_first}
use Rattle.std.proofs.Math.Seq.{take-length}
use Rattle.lines.specs.Line.{words_of}
use Rattle.lines.proofs.words.Words.new.Goals as goal

cut : (line : List ℕ) (r : Option (Bor (List ℕ) × Bor (List ℕ))) (last p : Bor (List ℕ) × Bor (List ℕ)) → p ≡ unwrap_or r last →
    IsSplitOnceResult 35 line r → last.0.now ≡ line → p.0.now ≡ before_first (λ c. c == 35) line
cut line None last p is h e = ap (λ x. x.0.now) is ∙ e ∙ sym (rw (split_once_first 35 line None h (omega arith)) (take-length line))
cut line (Some x) last p is h e = ap (λ x. x.0.now) is ∙ (split_once_first 35 line (Some x) h (omega arith)).1

pub returns : goal.returns
returns c = ap words_of (cut c.args.line.now c.split_once.result _ c.unwrap_or.result c.unwrap_or.ensures c.split_once.ensures.cases refl)
