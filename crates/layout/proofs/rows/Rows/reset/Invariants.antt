use Rattle.std.proofs.Common.{◌≡◌}
use Rattle.rules.specs.Rows.{relocked, with_flags}
use Rattle.layout.proofs.InPlace.{changed}
use Rattle.layout.proofs.rows.Rows.reset.Given as goal

abbrev pub invariant-loop-row : goal.invariant-loop-row
invariant-loop-row l = l.row-items ≡ changed (λ _ r. with_flags (relocked r.flags) r) 0 l.row-index l.initial.row-items
