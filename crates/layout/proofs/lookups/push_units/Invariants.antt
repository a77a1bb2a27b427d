use Rattle.std.proofs.Common.{◌≡◌, ◌++◌, map, take}
use Rattle.rules.specs.Sound.{serial_of}
use Rattle.layout.proofs.lookups.push_units.Given as goal

abbrev pub invariant-loop-unit : goal.invariant-loop-unit
invariant-loop-unit l = l.all.items ≡ l.fn.all.items ++ map serial_of (take l.unit-index l.units)
