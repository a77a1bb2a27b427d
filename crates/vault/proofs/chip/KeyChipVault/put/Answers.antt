use Rattle.std.proofs.Common.{ap, ◌∙◌, rules}
use Rattle.vault.specs.Meaning.{sound, put_refusal}
use Rattle.vault.specs.Views.{chip_view}
use Rattle.vault.proofs.Checks.{accepted, changed}
use Rattle.vault.proofs.Requests.{put-sound}
use Rattle.vault.proofs.Chips.{put-there, put-leaves, then-means}
use Rattle.vault.proofs.chip.KeyChipVault.put.Goals as goal

pub overwrite-requires : goal.overwrite-requires
overwrite-requires c =
    let v = c.args.self.now in
    let words = v.registers.now in
    let e = accepted tt (put_refusal (chip_view v) c.args.serial) c.in_ok-check_put.ensures in
    record {
      there = put-there v.used words v.sized.0 c.args.serial e;
      stays = ap sound (put-leaves v.used words v.sized.0 c.args.serial e) ∙ put-sound (chip_view v) v.ordered c.args.serial e;
    }

pub returns-clause-after : goal.returns-clause-after
returns-clause-after c =
    let v = c.args.self.now in
    let words = v.registers.now in
    let e = accepted tt (put_refusal (chip_view v) c.args.serial) c.in_ok-check_put.ensures in
    then-means v.used words v.sized.0 c.overwrite.new.self.used c.overwrite.new.self.registers.now c.overwrite.ensures.used 0 c.args.serial c.overwrite.ensures.words
    (put-leaves v.used words v.sized.0 c.args.serial e)
    ∙ changed (put_refusal (chip_view v) c.args.serial) (chip_view v) _ e

pub returns-clause-words : goal.returns-clause-words
returns-clause-words c = search rules
