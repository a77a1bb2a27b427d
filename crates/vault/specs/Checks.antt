-- How a call is decided: its checks stand in a list, and the first that applies gives the cause of the refusal.
use Rattle.std.specs.Prelude.{Bool, cond, List, [], ◌∷◌, Some, None, Ok, Err, Option, Result}

abbrev pub first_of : {C : Type 0} → List (Bool × C) → Option C
first_of [] = None
first_of (check ∷ checks) = cond check.0 (Some check.1) (first_of checks)

-- what a call answers: the refusal, or else this
abbrev pub answer : {A C : Type 0} → Option C → A → Result A C
answer (Some cause) done = Err cause
answer None done = Ok done

-- what a call leaves: all as it was where it is refused, or else this
abbrev pub unless : {C S : Type 0} → Option C → S → S → S
unless (Some cause) was after = was
unless None was after = after
