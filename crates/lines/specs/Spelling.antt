-- How each word of a script is spelled.
use Rattle.std.specs.Prelude.{◌≡◌, ℕ, List, [], ◌∷◌, codes, Option, Result, MatchOption, ◌≢◌}
use Rattle.std.specs.Result.{result_ok}
use Rattle.std.specs.Borrow.{Bor}
use Rattle.rules.specs.declared.access.Access.{Access}
use Rattle.rules.specs.declared.access.Access.TheVariants.{Read, Write}
use Rattle.rules.specs.declared.row.Standing.{Standing}
use Rattle.rules.specs.declared.row.Standing.TheVariants.{Shared, SingleUser}
use Rattle.lines.specs.declared.keywords.Keyword.{Keyword}
use Rattle.lines.specs.declared.keywords.Keyword.TheVariants as keyword
use Rattle.lines.specs.declared.keywords.Method.{Method}
use Rattle.lines.specs.declared.keywords.Method.TheVariants as method
use Rattle.lines.specs.declared.kinds.NumberingKind.{NumberingKind}
use Rattle.lines.specs.declared.kinds.NumberingKind.TheVariants.{Nvme, Scsi}
use Rattle.lines.specs.declared.kinds.VaultKind.{VaultKind}
use Rattle.lines.specs.declared.kinds.VaultKind.TheVariants.{Chip, File}

abbrev pub method_spelling : Method → List ℕ
method_spelling method.Assign = codes "assign"
method_spelling method.Deassign = codes "deassign"
method_spelling method.SetRange = codes "set-range"
method_spelling method.SetLocks = codes "set-locks"
method_spelling method.GenKey = codes "gen-key"
method_spelling method.Erase = codes "erase"
method_spelling method.Reactivate = codes "reactivate"
method_spelling method.Reset = codes "reset"
method_spelling method.ReadRow = codes "read-row"

abbrev pub spelling : Keyword → List ℕ
spelling keyword.Fresh = codes "fresh"
spelling keyword.Load = codes "load"
spelling keyword.Admins = codes "admins"
spelling keyword.User = codes "user"
spelling (keyword.Method m) = method_spelling m
spelling keyword.Create = codes "create"
spelling keyword.Delete = codes "delete"
spelling keyword.Format = codes "format"
spelling keyword.Access = codes "access"
spelling keyword.Controls = codes "controls"
spelling keyword.Unused = codes "unused"
spelling keyword.Describe = codes "describe"
spelling keyword.Save = codes "save"

abbrev pub numbering_word : NumberingKind → List ℕ
numbering_word Nvme = codes "nvme"
numbering_word Scsi = codes "scsi"

abbrev pub vault_word : VaultKind → List ℕ
vault_word Chip = codes "chip"
vault_word File = codes "file"

abbrev pub access_word : Access → List ℕ
access_word Read = codes "read"
access_word Write = codes "write"

abbrev pub standing_words : Standing → List (List ℕ)
standing_words Shared = []
standing_words SingleUser = codes "single" ∷ []

-- the result is what the text spells, and none where nothing is spelled so
abbrev pub Spelled : {K : Type 0} → (K → List ℕ) → List ℕ → Option K → Type 0
Spelled spells text r = MatchOption r ((k : _) → spells k ≢ text) (λ k. spells k ≡ text)

-- the word was read as what it spells, and refused where nothing is spelled so
abbrev pub Reads : {K E : Type 0} → (K → List ℕ) → Bor (List ℕ) → Result K E → Type 0
Reads spells word r = Spelled spells word.now (result_ok r)
