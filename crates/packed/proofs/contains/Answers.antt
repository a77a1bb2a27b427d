use Rattle.std.proofs.Common.{◌==◌, ◌∙◌, rules}
use Rattle.std.proofs.lemmas.Iterator.{YieldsList-from_slice}
use Rattle.std.proofs.lemmas.Iterator.Search.{any_from_yields_List}
use Rattle.packed.proofs.Order.{any-is-has}
use Rattle.packed.proofs.contains.Goals as goal

pub returns : goal.returns
returns g c =
    any_from_yields_List (λ x. g.T.Keyed.key x == c.args.number) _ _ _ c.any.ensures.ran (YieldsList-from_slice c.args.xs.now c.iter.ensures.rest) (λ x b q k. search rules)
    ∙ any-is-has g.T.Keyed.key c.args.number c.args.xs.now
