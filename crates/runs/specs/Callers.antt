-- Whose session a call comes in.
use Rattle.std.specs.Prelude.{ℕ}
use Rattle.rules.specs.Sessions.{admins}
use Rattle.rules.specs.declared.call.Call.{Call}
use Rattle.rules.specs.declared.call.Call.TheVariants.{Assign, Deassign, SetRange, SetLocks, GenKey, Erase, Reactivate, Create, Delete, Format, Reset}

-- the commands but Reset come in no session
abbrev pub caller_of : Call → ℕ
caller_of (Assign caller n start length standing) = caller
caller_of (Deassign caller r keep) = caller
caller_of (SetRange caller r start length) = caller
caller_of (SetLocks caller r flags) = caller
caller_of (GenKey caller r) = caller
caller_of (Erase caller r) = caller
caller_of (Reactivate caller selection policy) = caller
caller_of (Create n blocks) = admins
caller_of (Delete n) = admins
caller_of (Format n) = admins
caller_of (Reset caller) = caller
