use Rattle.std.proofs.Common.{ap, ◌∙◌, rules}
use Rattle.vault.specs.Meaning.{sound, swap_refusal}
use Rattle.vault.specs.Views.{chip_view}
use Rattle.vault.proofs.Checks.{accepted, changed}
use Rattle.vault.proofs.Requests.{swap-sound}
use Rattle.vault.proofs.Chips.{swap-there, swap-leaves, then-means}
use Rattle.vault.proofs.chip.KeyChipVault.swap.Goals as goal

pub overwrite-requires : goal.overwrite-requires
overwrite-requires c =
    let v = c.args.self.now in
    let words = v.registers.now in
    let e = accepted tt (swap_refusal (chip_view v) c.args.old c.args.new) c.in_ok-check_swap.ensures in
    record {
      there = swap-there v.used words v.sized.0 c.args.old c.args.new e;
      stays = ap sound (swap-leaves v.used words v.sized.0 c.args.old c.args.new e) ∙ swap-sound (chip_view v) v.ordered c.args.old c.args.new e;
    }

pub returns-clause-after : goal.returns-clause-after
returns-clause-after c =
    let v = c.args.self.now in
    let words = v.registers.now in
    let e = accepted tt (swap_refusal (chip_view v) c.args.old c.args.new) c.in_ok-check_swap.ensures in
    then-means v.used words v.sized.0 c.overwrite.new.self.used c.overwrite.new.self.registers.now c.overwrite.ensures.used c.args.old c.args.new c.overwrite.ensures.words
    (swap-leaves v.used words v.sized.0 c.args.old c.args.new e)
    ∙ changed (swap_refusal (chip_view v) c.args.old c.args.new) (chip_view v) _ e

pub returns-clause-words : goal.returns-clause-words
returns-clause-words c = search rules
