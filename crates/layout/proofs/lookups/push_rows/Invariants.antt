use Rattle.std.proofs.Common.{◌≡◌, ◌++◌, map, take}
use Rattle.rules.specs.Sound.{row_key}
use Rattle.layout.proofs.lookups.push_rows.Given as goal

abbrev pub invariant-loop-row : goal.invariant-loop-row
invariant-loop-row l = l.all.items ≡ l.fn.all.items ++ map row_key (take l.row-index l.rows)
