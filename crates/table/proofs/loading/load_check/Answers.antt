use Rattle.sheet.proofs.Promised.{takes-saved-sheets}
use Rattle.table.proofs.loading.load_check.Goals as goal

pub returns-clause-takes_saved_sheets : goal.returns-clause-takes_saved_sheets
returns-clause-takes_saved_sheets g c =
    takes-saved-sheets g.N.Numbering.BOUNDS (g.V.KeySet.meaning c.args.vault.now) c.args.sheet.now
    c.check.ensures.fits g.N.Numbering.apart (g.V.KeySet.lawful c.args.vault.now) (λ i. (c.type_inv.sheet i).fits) c.check.result c.check.ensures.answer
