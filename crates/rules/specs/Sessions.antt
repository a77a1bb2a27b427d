-- Callers, the sessions that they open, and who owns a row.
use Rattle.std.specs.Prelude.{ℕ, ◌+◌, Bool, cond, not, [], ◌∷◌, Option, ◌==◌, nat_lt}
use Rattle.std.specs.Option.{option_or}
use Rattle.vault.specs.Checks.{first_of}
use Rattle.rules.specs.declared.cause.Cause.{Cause}
use Rattle.rules.specs.declared.cause.Cause.TheVariants.{OutOfBounds}
use Rattle.rules.specs.declared.row.Row.{Row}
use Rattle.rules.specs.Rows.{is_single_user}

-- caller 0 is Admins, caller n is User n
abbrev pub admins : ℕ
admins = 0

-- a session needs only its caller
abbrev pub opening_refusal : ℕ → Option Cause
opening_refusal caller = first_of ((nat_lt 17 caller, OutOfBounds) ∷ [])

-- opening the session may be refused (20), before the call's own checks
abbrev pub in_session : ℕ → Option Cause → Option Cause
in_session caller refusal = option_or (opening_refusal caller) refusal

-- User r + 1 owns row r where it is single-user, and Admins own any other
abbrev pub owner : ℕ → Row → ℕ
owner r row = cond (is_single_user row.standing) (r + 1) admins

-- who may move a range row: its owner under policy 0, Admins under policy 1
abbrev pub mover : ℕ → ℕ → Row → ℕ
mover policy r row = cond (policy == 0) (owner r row) admins

abbrev pub is_not : ℕ → ℕ → Bool
is_not caller who = not (caller == who)
