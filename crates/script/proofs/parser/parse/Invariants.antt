use Rattle.std.proofs.Common.{◌≡◌, ℕ, ◌+◌, List}
use Rattle.std.specs.List.{flat_map}
use Rattle.std.specs.Borrow.{Bor}
use Rattle.script.specs.Faithful.{SoFar}
use Rattle.script.specs.Kept.{kept_of, kept_so_far}
use Rattle.script.proofs.parser.parse.Given as goal

abbrev pub invariant-loop-index : goal.invariant-loop-index
invariant-loop-index l = SoFar l.script × (kept_so_far l.script ≡ flat_map (λ (line : ℕ × Bor (List ℕ)). kept_of (line.0 + 1) line.1.now) l.yielded)
