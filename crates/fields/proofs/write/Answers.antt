use Rattle.std.proofs.Common.{◌≡◌, ◌+◌, length, take, sym, arith}
use Rattle.std.proofs.lemmas.List.Sums.{sum_by_more}
use Rattle.fields.specs.declared.Field.{Field}
use Rattle.fields.specs.Fields.{be, bytes_of, bytes_of_field}
use Rattle.fields.proofs.Bytes.{written-next, written-none}
use Rattle.fields.proofs.Fields.{length-bytes_of}
use Rattle.fields.proofs.write.Goals as goal

pub loop-field-init : goal.loop-field-init
unfolding bytes_of
loop-field-init c = record { place = omega arith; bytes = sym (written-none c.args.at c.args.out.now) }

pub loop-field-preserved : goal.loop-field-preserved
unfolding bytes_of
loop-field-preserved c =
    let at = c.args.at in
    let fields = c.args.fields.now in
    let i = c.loop-field.field-index in
    let place : c.loop-field.end ≡ at + length (bytes_of (take i fields)) = omega (arith, length-bytes_of (take i fields)) in
    record {
      place = omega (arith, sum_by_more (λ (f : Field). f.width) fields i (be 0 0) c.loop-field-test.true);
      bytes = written-next bytes_of_field at c.args.out.now (omega arith) fields i c.loop-field.end (be 0 0) c.loop-field.out c.put.new.out c.loop-field-test.true place c.loop-field.invariant.bytes c.put.ensures;
    }
