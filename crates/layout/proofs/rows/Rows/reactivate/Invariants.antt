use Rattle.std.proofs.Common.{◌≡◌}
use Rattle.rules.specs.Methods.{reactivated_row}
use Rattle.layout.proofs.InPlace.{changed}
use Rattle.layout.proofs.rows.Rows.reactivate.Given as goal

abbrev pub invariant-loop-i : goal.invariant-loop-i
invariant-loop-i l = l.row-items ≡ changed (reactivated_row l.fn.selection) 0 l.i l.initial.row-items
