use Rattle.std.proofs.Common.{◌≡◌, ◌==◌, Some, set, ap, ◌∙◌}
use Rattle.std.proofs.lemmas.List.{length-set}
use Rattle.packed.specs.First.{first}
use Rattle.vault.specs.Meaning.{sound}
use Rattle.vault.specs.Kinds.{chip_meaning, lowest}
use Rattle.vault.proofs.Chips.{found}
use Rattle.vault.proofs.chip.KeyChip.overwrite.Goals as goal

pub invariant_of-self : goal.invariant_of-self
invariant_of-self c =
    let v = c.args.self.now in
    let words = v.registers.now in
    let e : Some c.in-Some.at ≡ Some (lowest v.used words c.args.old) = c.in-Some.ensures.place ∙ ap (first (λ x. x == c.args.old)) c.words.ensures ∙ found v.used words v.sized.0 c.args.old c.requires.there in
    let i : c.in-Some.at ≡ lowest v.used words c.args.old = cc in
    record { sized = (simp length-set v.sized.0, v.sized.1); ordered = ap (λ i. sound (chip_meaning v.used (set words i c.args.new))) i ∙ c.requires.stays }

pub returns-in_default-clause-words : goal.returns-in_default-clause-words
returns-in_default-clause-words c =
    let v = c.args.self.now in
    absurd (c.in_default.not-Some (lowest v.used v.registers.now c.args.old) (c.place_of.ensures.place ∙ ap (first (λ x. x == c.args.old)) c.words.ensures ∙ found v.used v.registers.now v.sized.0 c.args.old c.requires.there))
