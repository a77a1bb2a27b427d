use Rattle.std.proofs.Common.{◌∙◌, sym, ap, length, arith}
use Rattle.std.proofs.lemmas.List.{length-set}
use Rattle.rules.specs.Rows.{free_row}
use Rattle.sheet.specs.declared.records.RowRecord.{RowRecord}
use Rattle.sheet.specs.Loading.{row_said}
use Rattle.sheet.proofs.Reading.{made-more, made-all}
use Rattle.sheet.proofs.reader.rows_said.Goals as goal

-- what stands for a record where there is none
abbrev no_record : RowRecord
no_record = record { unit = 0; serial = 0; start = 0; length = 0; flags = 0; zeros = 0 }

pub loop-i-preserved : goal.loop-i-preserved
loop-i-preserved c = record {
  seventeen = ap length c.put.ensures ∙ length-set c.loop-i.rows c.loop-i.i c.row_said.result ∙ c.loop-i.invariant.seventeen;
  done = λ k x below. rw c.put.ensures (made-more (row_said c.args.bounds c.args.mask) c.args.records.now x free_row c.loop-i.rows c.loop-i.i c.row_said.result _ (omega (arith, c.loop-i.invariant.seventeen)) c.loop-i-test.true c.row_said.ensures (λ n z before. c.loop-i.invariant.done n z before) k x below);
}

pub returns : goal.returns
returns c = made-all (row_said c.args.bounds c.args.mask) c.args.records.now no_record free_row c.loop-i.rows c.loop-i.i (c.loop-i.invariant.seventeen ∙ sym c.requires) c.loop-i-test.false (λ k x before. c.loop-i.invariant.done k x before)
