use Rattle.std.proofs.Common.{ap, ◌∙◌, set, map, refl, arith}
use Rattle.rules.specs.declared.row.Row.{Row}
use Rattle.rules.specs.Rows.{relocked, with_flags}
use Rattle.layout.proofs.InPlace.{changed, changed-more, changed-alike, length-changed}
use Rattle.layout.proofs.rows.Rows.reset.Goals as goal

abbrev locked_again : Row → Row
locked_again r = with_flags (relocked r.flags) r

pub loop-row-init : goal.loop-row-init
unfolding changed
loop-row-init c = refl

pub invariant_of-self : goal.invariant_of-self
invariant_of-self c = rw c.loop-row.invariant (length-changed (λ _ r. locked_again r) 0 c.loop-row.row-index c.self.inside.list ∙ c.self.invariant)

pub loop-row-preserved : goal.loop-row-preserved
loop-row-preserved c =
    ap (set c.loop-row.row-items c.loop-row.row-index) c.reset.ensures
    ∙ changed-more (λ _ r. locked_again r) c.loop-row.row-index c.loop-row.row-items c.self.inside.list _ (omega (arith, c.self.invariant, c.loop-row-test.true)) c.loop-row.invariant

pub returns : goal.returns
returns c =
    c.loop-row.invariant
    ∙ changed-alike locked_again 0 c.loop-row.row-index c.self.inside.list (omega (arith, c.self.invariant))
    ∙ ap (map locked_again) c.self.view_is
