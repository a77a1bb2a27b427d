-- What a saved sheet is good for.
use Rattle.std.specs.Prelude.{◌≡◌, ℕ, true, false, List, is_ok}
use Rattle.vault.specs.Meaning.{Meaning}
use Rattle.rules.specs.declared.numbering.Bounds.{Bounds}
use Rattle.rules.specs.Causes.{Done}
use Rattle.rules.specs.Drive.{Drive}
use Rattle.rules.specs.Sound.{Sound}
use Rattle.sheet.specs.Saving.{sheet}

-- the sheet is just what Save writes for this drive, which is in order, has this numbering, and stands over this vault
pub record IsSheetOf (bounds : Bounds) (vault : Meaning) (s : List ℕ) (d : Drive) : Type 0 where
  pub sound : Sound d
  pub numbered : d.numbering ≡ bounds
  pub over : d.vault ≡ vault
  pub written : s ≡ sheet d

-- the check takes a sheet just where it is one that Save writes
pub record TakesSavedSheets (bounds : Bounds) (vault : Meaning) (s : List ℕ) (check : Done) : Type 0 where
  pub saved : is_ok check ≡ true → (d : Drive) × IsSheetOf bounds vault s d
  pub taken : (d : Drive) → IsSheetOf bounds vault s d → is_ok check ≡ true

-- the drive that is laid out from a saved sheet is the one that was saved
abbrev pub LoadsWhatWasSaved : Bounds → Meaning → List ℕ → Drive → Type 0
LoadsWhatWasSaved bounds vault s loaded = (d : Drive) → IsSheetOf bounds vault s d → loaded ≡ d

-- where a drive is laid out that is not closed, it is in order, and Save writes it back byte for byte
abbrev pub SavesWhatWasLoaded : Bounds → Meaning → List ℕ → Drive → Type 0
SavesWhatWasLoaded bounds vault s loaded = loaded.closed ≡ false → IsSheetOf bounds vault s loaded
