-- The rows so far, with those of the words that are left, are those of all the words.
use Rattle.std.proofs.Common.{ℕ, ◌<◌, ◌^◌, List}
use Rattle.std.specs.List.{AllByRecursion, fold}
use Rattle.std.specs.Prelude.{bit_or}
use Rattle.numerals.specs.Number.{WriteAll32}
use Rattle.lines.specs.Says.{NameRows}
use Rattle.lines.proofs.methods.selection.Given as goal

abbrev pub invariant-loop-word : goal.invariant-loop-word
invariant-loop-word l =
    (rows : List ℕ) → WriteAll32 l.word-iterator rows → AllByRecursion (λ row. row < 32) rows → NameRows l.fn.words (fold (λ bits row. bit_or bits (2 ^ row)) l.selection rows)
