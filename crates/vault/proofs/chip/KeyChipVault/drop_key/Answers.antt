use Rattle.std.proofs.Common.{ap, ◌∙◌, rules}
use Rattle.vault.specs.Meaning.{sound, drop_refusal}
use Rattle.vault.specs.Views.{chip_view}
use Rattle.vault.proofs.Checks.{accepted, changed}
use Rattle.vault.proofs.Requests.{drop-sound}
use Rattle.vault.proofs.Chips.{drop-there, drop-leaves, then-means}
use Rattle.vault.proofs.chip.KeyChipVault.drop_key.Goals as goal

pub overwrite-requires : goal.overwrite-requires
overwrite-requires c =
    let v = c.args.self.now in
    let words = v.registers.now in
    let e = accepted tt (drop_refusal (chip_view v) c.args.serial) c.in_ok-check_drop.ensures in
    record {
      there = drop-there v.used words v.sized.0 c.args.serial e;
      stays = ap sound (drop-leaves v.used words v.sized.0 c.args.serial e) ∙ drop-sound (chip_view v) v.ordered c.args.serial e;
    }

pub returns-clause-after : goal.returns-clause-after
returns-clause-after c =
    let v = c.args.self.now in
    let words = v.registers.now in
    let e = accepted tt (drop_refusal (chip_view v) c.args.serial) c.in_ok-check_drop.ensures in
    then-means v.used words v.sized.0 c.overwrite.new.self.used c.overwrite.new.self.registers.now c.overwrite.ensures.used c.args.serial 0 c.overwrite.ensures.words
    (drop-leaves v.used words v.sized.0 c.args.serial e)
    ∙ changed (drop_refusal (chip_view v) c.args.serial) (chip_view v) _ e

pub returns-clause-words : goal.returns-clause-words
returns-clause-words c = search rules
