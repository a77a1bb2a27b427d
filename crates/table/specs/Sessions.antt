-- What becomes of the session in which a call is made.
use Rattle.std.specs.Prelude.{ℕ, Ok, Err, Result}
use Rattle.rules.specs.declared.cause.Cause.{Cause}
use Rattle.table.specs.declared.session.Refused.{Refused}
use Rattle.table.specs.declared.session.WritingSession.{WritingSession}

-- a refusal gives the session back, and an accepted call ends it
abbrev pub giving_back : WritingSession → Result ℕ Cause → Result ℕ Refused
giving_back session (Ok answer) = Ok answer
giving_back session (Err cause) = Err (record { cause = cause; session = session })
