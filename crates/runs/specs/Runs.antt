-- A run over a vault with this meaning: a table is laid out from the source, and the calls are made on it.
use Rattle.std.specs.Prelude.{List}
use Rattle.vault.specs.Meaning.{Meaning}
use Rattle.rules.specs.declared.call.Call.{Call}
use Rattle.rules.specs.declared.numbering.Bounds.{Bounds}
use Rattle.rules.specs.Calls.{Answer}
use Rattle.rules.specs.Drive.{Drive}
use Rattle.rules.specs.Laws.{answers}
use Rattle.runs.specs.declared.source.Source.{Source}
use Rattle.runs.specs.LayingOut.{laid_out}
use Rattle.runs.specs.Steps.{after_all}

abbrev pub answers_of_run : Bounds → Meaning → Source → List Call → List Answer
answers_of_run bounds vault source calls = answers (laid_out bounds vault source) calls

abbrev pub end_of_run : Bounds → Meaning → Source → List Call → Drive
end_of_run bounds vault source calls = after_all (laid_out bounds vault source) calls
