use Rattle.std.proofs.Common.{◌+◌, sym, ap, ◌∙◌, arith}
use Rattle.fields.specs.Fields.{bytes_of, size, written}
use Rattle.fields.proofs.Bytes.{written-none}
use Rattle.sheet.specs.Format.{row_bytes, row_fields}
use Rattle.sheet.specs.Saving.{record_of}
use Rattle.sheet.proofs.Lengths.{length-row}
use Rattle.sheet.proofs.Writing.{wrote-next}
use Rattle.sheet.proofs.writer.write_rows.Goals as goal

pub loop-row-init : goal.loop-row-init
loop-row-init c = record { place = omega arith; bytes = sym (written-none c.args.at c.args.out.now) }

pub loop-row-preserved : goal.loop-row-preserved
loop-row-preserved c =
    let loop = c.loop-row in
    let fields = c.fields.ensures ∙ ap row_fields c.record_of.ensures in
    let next = wrote-next (λ r. row_bytes (record_of c.args.bounds r)) 32 (λ r. length-row (record_of c.args.bounds r)) c.args.at c.args.out.now (omega arith) c.args.rows.now loop.row-index loop.end c.write-end.result _ loop.out c.write-end.new.out c.loop-row-test.true (loop.invariant.place, loop.invariant.bytes) (c.write-end.ensures.end ∙ ap (λ fs. c.loop-row.end + size fs) fields) (c.write-end.ensures.bytes ∙ ap (λ fs. written c.loop-row.end (bytes_of fs) c.loop-row.out) fields) in
    record { place = next.0; bytes = next.1 }
