use Rattle.std.proofs.Common.{◌==◌, ◌∙◌, rules}
use Rattle.std.proofs.lemmas.Iterator.{YieldsList-from_slice}
use Rattle.std.proofs.lemmas.Iterator.Search.{position_from_yields_List}
use Rattle.packed.proofs.Search.{position-is-first}
use Rattle.packed.proofs.place_of.Goals as goal

pub returns-clause-place : goal.returns-clause-place
returns-clause-place g c =
    let at = position_from_yields_List (λ x. g.T.Keyed.key x == c.args.number) _ _ _ c.position.ensures.ran (YieldsList-from_slice c.args.xs.now c.iter.ensures.rest) (λ x b q k. search rules)
    ∙ position-is-first _ c.args.xs.now in
    search rules
