use Rattle.std.proofs.Common.{◌≡◌, ◌+◌, ◌≤◌, ◌++◌, length, map, take}
use Rattle.rules.specs.declared.row.Sought.TheVariants.{RangeRowOf}
use Rattle.rules.specs.declared.unit.Holder.TheVariants.{TheRow}
use Rattle.rules.specs.Rows.{all_rows}
use Rattle.layout.proofs.holders.push_ranges.Given as goal

abbrev pub invariant-loop-number : goal.invariant-loop-number
invariant-loop-number l = record {
  pushed : l.holders.items ≡ l.fn.holders.items ++ map TheRow (all_rows (RangeRowOf l.unit) (take l.number l.rows));
  fits : length l.holders.items ≤ length l.fn.holders.items + l.number;
}
