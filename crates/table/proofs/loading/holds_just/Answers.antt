use Rattle.std.proofs.Common.{◌&&◌, not, length, eqb, sym, ◌∙◌}
use Rattle.std.specs.List.{count_by}
use Rattle.sheet.proofs.SerialChecks.{counted}
use Rattle.table.proofs.loading.holds_just.Goals as goal

pub returns-then-holds_each : goal.returns-then-holds_each
returns-then-holds_each g c =
    let each = sym c.holds_each.ensures ∙ c.if-holds_each.true in
    sym (counted (g.V.KeySet.meaning c.args.vault.now) c.args.serials.now (g.V.KeySet.lawful c.args.vault.now) c.requires
    ∙ (λ i. each i && eqb (sym c.count.ensures i) (sym c.count_of.ensures i)))

pub returns-else-holds_each : goal.returns-else-holds_each
returns-else-holds_each g c =
    let each = sym c.holds_each.ensures ∙ c.if-holds_each.false in
    c.if-holds_each.false
    ∙ sym (counted (g.V.KeySet.meaning c.args.vault.now) c.args.serials.now (g.V.KeySet.lawful c.args.vault.now) c.requires ∙ (λ i. each i && eqb (length (g.V.KeySet.meaning c.args.vault.now).held) (count_by (λ s. not (eqb s 0)) c.args.serials.now)))
