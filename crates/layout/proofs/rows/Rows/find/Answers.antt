use Rattle.std.proofs.Common.{◌∙◌, rules}
use Rattle.std.proofs.lemmas.Iterator.{YieldsList-from_slice}
use Rattle.std.proofs.lemmas.Iterator.Search.{position_from_yields_List}
use Rattle.packed.proofs.Search.{position-is-first}
use Rattle.rules.specs.Rows.{suits}
use Rattle.layout.proofs.rows.Rows.find.Goals as goal

pub returns-clause-lowest : goal.returns-clause-lowest
returns-clause-lowest c =
    let at = position_from_yields_List (suits c.args.sought) _ _ _ c.position.ensures.ran (YieldsList-from_slice c.args.self.now (c.iter.ensures.rest ∙ c.self.view_is)) (λ x b q k. search rules)
    ∙ position-is-first (suits c.args.sought) c.args.self.now in
    search rules
