-- The steps of a run: its calls, what they were answered, and what they leave.
use Rattle.std.specs.Prelude.{◌≡◌, List, map}
use Rattle.std.specs.List.{fold}
use Rattle.rules.specs.declared.call.Call.{Call}
use Rattle.rules.specs.Calls.{Answer, after}
use Rattle.rules.specs.Drive.{Drive}
use Rattle.rules.specs.Laws.{answers}
use Rattle.runs.specs.declared.step.Step.{Step}

abbrev pub calls_of : List Step → List Call
calls_of steps = map (λ s. s.call) steps

abbrev pub answers_of : List Step → List Answer
answers_of steps = map (λ s. s.answer) steps

-- what calls leave that are made one after the other
abbrev pub after_all : Drive → List Call → Drive
after_all d calls = fold after d calls

-- the steps were made on the one drive as the definitions say, and leave the other
pub record AreMade (start : Drive) (made : List Step) (left : Drive) : Type 0 where
  pub answered : answers_of made ≡ answers start (calls_of made)
  pub leave : left ≡ after_all start (calls_of made)

-- what is shown of a run: a drive, and the steps that were made on some drive and leave this one
abbrev pub IsShown : Drive → List Step → Type 0
IsShown d made = (start : Drive) × AreMade start made d
