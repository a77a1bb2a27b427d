use Rattle.sheet.proofs.Promised.{loads-what-was-saved, saves-what-was-loaded}
use Rattle.table.proofs.state.Table.load.Goals as goal

pub returns-clause-loads_what_was_saved : goal.returns-clause-loads_what_was_saved
returns-clause-loads_what_was_saved g c =
    loads-what-was-saved g.N.Numbering.BOUNDS (g.V.KeySet.meaning c.args.vault.now) c.args.sheet.now
    c.described.ensures.fits g.N.Numbering.apart (g.V.KeySet.lawful c.args.vault.now) (λ i. (c.type_inv.sheet i).fits) _ c.described.ensures.model

pub returns-clause-saves_what_was_loaded : goal.returns-clause-saves_what_was_loaded
returns-clause-saves_what_was_loaded g c =
    saves-what-was-loaded g.N.Numbering.BOUNDS (g.V.KeySet.meaning c.args.vault.now) c.args.sheet.now
    (g.V.KeySet.lawful c.args.vault.now) (λ i. (c.type_inv.sheet i).fits) _ c.described.ensures.model
