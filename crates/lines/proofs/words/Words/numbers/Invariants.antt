-- The numbers so far are those of the words before the ones that are left.
use Rattle.std.proofs.Common.{◌≡◌, ◌^◌, ◌++◌, map, Ok, vec_items}
use Rattle.numerals.specs.Number.{fitted, read}
use Rattle.lines.proofs.words.Words.numbers.Given as goal

abbrev pub invariant-loop-word : goal.invariant-loop-word
invariant-loop-word l =
    map (λ w. fitted (2 ^ 32) (read w)) l.fn.self ≡ map Ok (vec_items l.numbers) ++ map (λ w. fitted (2 ^ 32) (read w)) l.word-iterator
