-- What is put together, and the words that are left, each after a space.
use Rattle.std.proofs.Common.{◌≡◌, ◌++◌, string_bytes}
use Rattle.lines.specs.Line.{spaced}
use Rattle.lines.proofs.Joined.{after_spaces}
use Rattle.lines.proofs.words.Words.joined.Given as goal

abbrev pub invariant-loop-word : goal.invariant-loop-word
invariant-loop-word l = string_bytes l.all ++ after_spaces l.word-iterator ≡ spaced l.fn.self
