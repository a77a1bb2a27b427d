-- Laying a table out, blank or from a sheet.
use Rattle.std.specs.Prelude.{◌≡◌, true, Option, MatchResult}
use Rattle.vault.specs.Checks.{answer}
use Rattle.vault.specs.Meaning.{Meaning}
use Rattle.rules.specs.declared.cause.Cause.{Cause}
use Rattle.rules.specs.declared.numbering.Bounds.{Bounds}
use Rattle.rules.specs.Causes.{Done}
use Rattle.rules.specs.Drive.{Drive}
use Rattle.rules.specs.Laws.{Begins}
use Rattle.rules.specs.LayingOut.{fresh_refusal, fresh}
use Rattle.sheet.specs.Loading.{load_refusal, load}
use Rattle.runs.specs.declared.source.Source.{Source}
use Rattle.runs.specs.declared.source.Source.TheVariants.{Blank, Sheet}

abbrev pub laying_refusal : Bounds → Meaning → Source → Option Cause
laying_refusal bounds vault Blank = fresh_refusal vault
laying_refusal bounds vault (Sheet bytes) = load_refusal bounds vault bytes.now

abbrev pub laying_check : Bounds → Meaning → Source → Done
laying_check bounds vault source = answer (laying_refusal bounds vault source) tt

-- the drive that is laid out; a closed one where the check refuses
abbrev pub laid_out : Bounds → Meaning → Source → Drive
laid_out bounds vault Blank = fresh bounds vault
laid_out bounds vault (Sheet bytes) = load bounds vault bytes.now

-- where the check lets it be laid out a run can begin there, and where it does not the drive is closed
abbrev pub BeginsOrIsClosed : Done → Drive → Type 0
BeginsOrIsClosed check d = MatchResult check (λ _. Begins d) (λ _. d.closed ≡ true)
