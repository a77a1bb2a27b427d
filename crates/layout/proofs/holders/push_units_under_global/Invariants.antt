use Rattle.std.proofs.Common.{◌≡◌, ◌+◌, ◌≤◌, ◌++◌, length, take}
use Rattle.rules.specs.FreshKeys.{units_under_global}
use Rattle.layout.proofs.holders.push_units_under_global.Given as goal

abbrev pub invariant-loop-unit : goal.invariant-loop-unit
invariant-loop-unit l = record {
  pushed : l.holders.items ≡ l.fn.holders.items ++ units_under_global l.rows (take l.unit-index l.units);
  fits : length l.holders.items ≤ length l.fn.holders.items + l.unit-index;
}
