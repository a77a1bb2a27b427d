use Rattle.std.proofs.Common.{◌+◌, ◌*◌, arith}
use Rattle.sheet.specs.Format.{row_at}
use Rattle.sheet.proofs.Reading.{as-many, one-more}
use Rattle.sheet.proofs.reader.read_rows.Goals as goal

-- src/load.rt
pub push-requires : goal.push-requires
push-requires c = (omega arith, omega (arith, as-many (λ i. row_at (32 + 16 * c.args.count + 32 * i) c.args.sheet.now) c.loop-i.rows.items c.loop-i.i c.loop-i.invariant))

pub loop-i-preserved : goal.loop-i-preserved
loop-i-preserved c = one-more (λ i. row_at (32 + 16 * c.args.count + 32 * i) c.args.sheet.now) c.loop-i.rows.items c.loop-i.i c.loop-i.invariant c.read.result c.push.new.self.items c.push.ensures.items c.read.ensures
