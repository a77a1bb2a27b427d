use Rattle.std.proofs.Common.{◌≤◌, length, sym, refl, ap, ◌∙◌, arith}
use Rattle.std.proofs.lemmas.Bool.Decides.{nat_tests}
use Rattle.std.proofs.lemmas.Bool.{cond-true, cond-false}
use Rattle.vault.specs.Meaning.{sound}
use Rattle.vault.specs.Kinds.{chip_meaning, fit}
use Rattle.vault.proofs.Chips.{fit-true, fit-false, fit-sound, all_in_use, none-in-use, nothing-sound}
use Rattle.vault.proofs.chip.KeyChip.new.Goals as goal
use Rattle.vault.proofs.chip.KeyChip.new.Goals.{in-Ok, in-Err}

pub invariant_of-result : goal.invariant_of-result
invariant_of-result c =
    let words = c.args.registers.now in
    elim c.match-check.branch [
      | in-Ok w ↦
          let f = fit-true words w.in-Ok.ensures in
          let small : length words ≤ 64 = grind (arith, nat_tests) in
          record { sized = (omega (arith, w.used-is), omega (arith, w.used-is)); ordered = ap (λ n. sound (chip_meaning n words)) w.used-is ∙ ap sound (all_in_use words f) ∙ fit-sound words f }
      | in-Err w ↦ record { sized = (omega (arith, w.used-is), omega (arith, w.used-is)); ordered = ap (λ n. sound (chip_meaning n words)) w.used-is ∙ ap sound (none-in-use words) ∙ nothing-sound }
    ]

pub returns : goal.returns
returns c =
    let words = c.args.registers.now in
    elim c.match-check.branch [
      | in-Ok w ↦
          let f = fit-true words w.in-Ok.ensures in
          record {
            value = ap (λ n. chip_meaning n words) w.used-is ∙ all_in_use words f ∙ sym (cond-true (fit words) _ _ f);
            used = w.used-is ∙ sym (cond-true (fit words) (length words) 0 f);
            words = refl;
            lent = refl;
          }
      | in-Err w ↦
          let f = fit-false words w.in-Err.field-0 w.in-Err.ensures in
          record {
            value = ap (λ n. chip_meaning n words) w.used-is ∙ none-in-use words ∙ sym (cond-false (fit words) _ _ f);
            used = w.used-is ∙ sym (cond-false (fit words) (length words) 0 f);
            words = refl;
            lent = refl;
          }
    ]
