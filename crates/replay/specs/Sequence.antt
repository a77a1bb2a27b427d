-- What the definitions of the calls give, step by step.
use Rattle.std.specs.Prelude.{◌≡◌, List, [], ◌∷◌}
use Rattle.std.specs.List.{fold}
use Rattle.rules.specs.Asks.{reply_to, left_by}
use Rattle.rules.specs.Drive.{Drive}
use Rattle.replay.specs.declared.sequence.Shown.{Shown}
use Rattle.replay.specs.declared.sequence.Shown.TheVariants.{ByProof, ByRun}
use Rattle.replay.specs.declared.sequence.Step.{Step}

-- a step that is only run asks for no proof
abbrev pub wanted : Shown → Type 0 → Type 0
wanted ByProof fact = fact
wanted ByRun fact = Unit {0}

-- from this drive on, the definitions give the reply of every step that is shown by proof
abbrev pub Given : Drive → List Step → Type 0
Given d [] = Unit {0}
Given d (step ∷ steps) = wanted step.shown (reply_to d step.ask ≡ step.reply) × Given (left_by d step.ask) steps

-- what the steps leave
abbrev pub left_by_all : Drive → List Step → Drive
left_by_all d steps = fold (λ e (step : Step). left_by e step.ask) d steps

-- the steps of a stage, and the drive that they leave
pub record Stage (d : Drive) (steps : List Step) (last : Drive) : Type 0 where
  pub given : Given d steps
  pub left : left_by_all d steps ≡ last

-- one stage after the other
abbrev pub AllGiven : Drive → List (List Step) → Type 0
AllGiven d [] = Unit {0}
AllGiven d (stage ∷ stages) = Given d stage × AllGiven (left_by_all d stage) stages
