use Rattle.std.proofs.Common.{◌+◌, sym, ap, ◌∙◌, arith}
use Rattle.fields.specs.Fields.{bytes_of, size, written}
use Rattle.fields.proofs.Bytes.{written-none}
use Rattle.sheet.specs.Format.{unit_bytes}
use Rattle.sheet.proofs.Lengths.{length-unit}
use Rattle.sheet.proofs.Writing.{wrote-next}
use Rattle.sheet.proofs.writer.write_units.Goals as goal

pub loop-unit-init : goal.loop-unit-init
loop-unit-init c = record { place = omega arith; bytes = sym (written-none c.args.at c.args.out.now) }

pub loop-unit-preserved : goal.loop-unit-preserved
loop-unit-preserved c =
    let loop = c.loop-unit in
    let next = wrote-next unit_bytes 16 length-unit c.args.at c.args.out.now (omega arith) c.args.units.now loop.unit-index loop.end c.write-end.result _ loop.out c.write-end.new.out c.loop-unit-test.true (loop.invariant.place, loop.invariant.bytes) (c.write-end.ensures.end ∙ ap (λ fs. c.loop-unit.end + size fs) c.unit_fields.ensures) (c.write-end.ensures.bytes ∙ ap (λ fs. written c.loop-unit.end (bytes_of fs) c.loop-unit.out) c.unit_fields.ensures) in
    record { place = next.0; bytes = next.1 }
