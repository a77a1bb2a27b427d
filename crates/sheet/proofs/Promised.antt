-- What a saved sheet is good for, of the check and of the drive that is laid out.
use Rattle.std.proofs.Common.{◌≡◌, ℕ, true, false, List, Ok, Option, Result, length, take, drop, sym, ap, ◌∙◌, is_ok}
use Rattle.std.proofs.Math.Seq.{take-append_seam}
use Rattle.vault.specs.Checks.{answer, unless}
use Rattle.vault.specs.Meaning.{Meaning, sound}
use Rattle.vault.proofs.Checks.{accepted-only, accepted-with, by_option}
use Rattle.rules.specs.declared.cause.Cause.{Cause}
use Rattle.rules.specs.declared.numbering.Bounds.{Bounds}
use Rattle.rules.specs.Causes.{Done}
use Rattle.rules.specs.Drive.{Drive}
use Rattle.rules.specs.Units.{valid}
use Rattle.fields.specs.Fields.{IsBytes}
use Rattle.sheet.specs.Format.{Fits}
use Rattle.sheet.specs.Loading.{drive_on, load, load_check, load_refusal, shut}
use Rattle.sheet.specs.Promises.{IsSheetOf, LoadsWhatWasSaved, SavesWhatWasLoaded, TakesSavedSheets}
use Rattle.sheet.specs.Saving.{filled, save_answer, save_refusal, saved, sheet, total_of}
use Rattle.sheet.proofs.Exact.{loads-saved, saved-loads}
use Rattle.sheet.proofs.Lengths.{length-sheet}

module _ (bounds : Bounds) (vault : Meaning) (s : List ℕ) where
  module _ (fits : Fits bounds) (apart : valid bounds bounds.mark ≡ false) (ok : sound vault ≡ true) (bytes : IsBytes s) where
    is-saved : is_ok (load_check bounds vault s) ≡ true → IsSheetOf bounds vault s (drive_on bounds vault s)
    is-saved accepted = loads-saved bounds vault ok s bytes (accepted-only tt (load_refusal bounds vault s) accepted)

    is-taken : (d : Drive) → IsSheetOf bounds vault s d → is_ok (load_check bounds vault s) ≡ true
    is-taken d h = ap (λ (refusal : Option Cause). is_ok (answer refusal (tt {0}))) (saved-loads bounds fits apart vault s d h).0

    pub takes-saved-sheets : (check : Done) → check ≡ load_check bounds vault s → TakesSavedSheets bounds vault s check
    takes-saved-sheets check is = rw is (record { saved = λ accepted. (drive_on bounds vault s, is-saved accepted); taken = is-taken })

    pub loads-what-was-saved : (loaded : Drive) → loaded ≡ load bounds vault s → LoadsWhatWasSaved bounds vault s loaded
    loads-what-was-saved loaded is d h =
        let both = saved-loads bounds fits apart vault s d h in
        is ∙ ap (λ refusal. unless refusal (shut bounds vault) (drive_on bounds vault s)) both.0 ∙ both.1

  module _ (ok : sound vault ≡ true) (bytes : IsBytes s) where
    pub saves-what-was-loaded : (loaded : Drive) → loaded ≡ load bounds vault s → SavesWhatWasLoaded bounds vault s loaded
    saves-what-was-loaded loaded is opened = rw is (by_option (load_refusal bounds vault s)
        (λ refusal. (unless refusal (shut bounds vault) (drive_on bounds vault s)).closed ≡ false → IsSheetOf bounds vault s (unless refusal (shut bounds vault) (drive_on bounds vault s)))
        (λ e _. loads-saved bounds vault ok s bytes e)
        (λ cause _ opened. absurd cc)
        (ap (λ (d : Drive). d.closed) (sym is) ∙ opened))

-- what Save has written, as far as it answers that it has
pub saved-sheet : (d : Drive) → length d.rows ≡ 17 → (old new : List ℕ) (n : ℕ) → ◌≡◌ {A = Result ℕ Cause} (Ok n) (save_answer d old) → new ≡ saved d old → take n new ≡ sheet d
saved-sheet d seventeen old new n accepted is =
    let p = accepted-with (save_refusal d old) n (total_of d) accepted in
    let long : n ≡ length (sheet d) = p.1 ∙ sym (length-sheet d seventeen) in
    ap (take n) (is ∙ ap (λ refusal. unless refusal old (filled (sheet d) old)) p.0) ∙ rw long (take-append_seam (sheet d) (drop (length (sheet d)) old))
