-- The registers of a chip after a run.
use Rattle.std.proofs.Common.{◌≡◌, ℕ, Bool, true, false, cond, List, Some, None, Option, length, refl, ap, ◌∙◌, arith}
use Rattle.std.proofs.lemmas.Bool.Decides.{nat_tests}
use Rattle.vault.specs.Checks.{unless}
use Rattle.vault.specs.Kinds.{nothing, fit, chip_meaning, in_use, chip_new}
use Rattle.vault.specs.Meaning.{Meaning}
use Rattle.vault.specs.Serials.{collect}
use Rattle.vault.proofs.Checks.{by_option}
use Rattle.rules.specs.declared.call.Call.{Call}
use Rattle.rules.specs.declared.cause.Cause.{Cause}
use Rattle.rules.specs.declared.numbering.Bounds.{Bounds}
use Rattle.rules.specs.Drive.{Drive}
use Rattle.sheet.specs.Loading.{load_refusal, drive_on, shut}
use Rattle.runs.specs.declared.source.Source.{Source}
use Rattle.runs.specs.declared.source.Source.TheVariants.{Blank, Sheet}
use Rattle.runs.specs.LayingOut.{laid_out}
use Rattle.runs.specs.Steps.{after_all}
use Rattle.runs.proofs.Capacity.{as-roomy}

laid-over : (bounds : Bounds) (vault : Meaning) (source : Source) → (laid_out bounds vault source).vault ≡ vault
laid-over bounds vault Blank = refl
laid-over bounds vault (Sheet bytes) = by_option (load_refusal bounds vault bytes.now) (λ o. (unless o (shut bounds vault) (drive_on bounds vault bytes.now)).vault ≡ vault) (λ _. refl) (λ _ _. refl)

room-of : (words : List ℕ) → (chip_new words).capacity ≡ in_use words
room-of words = grind (arith, nat_tests)

-- As many registers are in use as before, since the capacity is what it was.
pub same-use : (bounds : Bounds) (vault : Meaning) (source : Source) (calls : List Call) (words chip words' : List ℕ) (used : ℕ)
    → words' ≡ chip → vault ≡ chip_new words → chip_meaning used chip ≡ (after_all (laid_out bounds vault source) calls).vault
    → chip_meaning (in_use words) words' ≡ (after_all (laid_out bounds (chip_new words) source) calls).vault
same-use bounds vault source calls words chip words' used tie is e =
    let left : chip_meaning used words' ≡ (after_all (laid_out bounds (chip_new words) source) calls).vault = rw (tie, ← is) e in
    let first : Drive = laid_out bounds (chip_new words) source in
    let same : used ≡ in_use words =
    ap (λ (m : Meaning). m.capacity) left ∙ as-roomy first calls
    ∙ ap (λ (m : Meaning). m.capacity) (laid-over bounds (chip_new words) source) ∙ room-of words in
    rw same at left
