-- The points of a list of calls, whatever the states and the calls are.
use Rattle.std.specs.Prelude.{List, ◌∷◌}
use Rattle.std.specs.List.{scan}

-- the state before the first call, and after each
abbrev pub points_by : {S C : Type 0} → (S → C → S) → S → List C → List S
points_by next s calls = s ∷ scan next next s calls
