use Rattle.std.proofs.Common.{◌+◌, ◌*◌, arith}
use Rattle.sheet.specs.Format.{unit_at}
use Rattle.sheet.proofs.Reading.{as-many, one-more}
use Rattle.sheet.proofs.reader.read_units.Goals as goal

-- src/load.rt
pub push-requires : goal.push-requires
push-requires c = (omega arith, omega (arith, as-many (λ k. unit_at (32 + 16 * k) c.args.sheet.now) c.loop-k.units.items c.loop-k.k c.loop-k.invariant))

pub loop-k-preserved : goal.loop-k-preserved
loop-k-preserved c = one-more (λ k. unit_at (32 + 16 * k) c.args.sheet.now) c.loop-k.units.items c.loop-k.k c.loop-k.invariant c.unit_at.result c.push.new.self.items c.push.ensures.items c.unit_at.ensures
