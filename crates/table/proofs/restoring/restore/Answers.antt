use Rattle.std.proofs.Common.{arith, sym, ◌∙◌}
use Rattle.sheet.proofs.Promised.{saved-sheet}
use Rattle.table.proofs.restoring.restore.Goals as goal

pub returns-clause-same_table : goal.returns-clause-same_table
returns-clause-same_table g c = λ sound numbered over.
    let d = g.C.Calls.model c.args.table.now in
    let accepted = sym c.in_ok-total.was ∙ c.save.ensures.answer in
    let written = saved-sheet d sound.rows.seventeen c.args.buffer.now c.save.new.out c.in_ok-total.total accepted c.save.ensures.buffer in
    c.load.ensures.loads_what_was_saved d (record { sound = sound; numbered = numbered; over = over; written = written })

pub returns-clause-model : goal.returns-clause-model
returns-clause-model g c = grind arith
