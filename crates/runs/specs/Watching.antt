-- What an observer is shown of a run.
use Rattle.std.specs.Prelude.{List, [], ◌∷◌, ◌++◌}
use Rattle.rules.specs.Drive.{Drive}
use Rattle.runs.specs.declared.step.Step.{Step}
use Rattle.runs.specs.Steps.{calls_of, after_all}

-- after the steps that are made, it is shown the drive that they leave, and so on after each step that is still to come.
-- The relation says what comes of an observer by the drive and the steps that it is shown
abbrev pub WatchedFrom : {O : Type 0} → (O → Drive → List Step → O → Type 0) → Drive → List Step → List Step → O → O → Type 0
WatchedFrom saw start made [] o o' = saw o (after_all start (calls_of made)) made o'
WatchedFrom {O} saw start made (step ∷ steps) o o' = (p : O) × (saw o (after_all start (calls_of made)) made p × WatchedFrom saw start (made ++ step ∷ []) steps p o')

-- it is shown the first drive, and after each step the drive that the steps so far leave: all points, in their order, and each once
abbrev pub Watched : {O : Type 0} → (O → Drive → List Step → O → Type 0) → Drive → List Step → O → O → Type 0
Watched saw start steps o o' = WatchedFrom saw start [] steps o o'
