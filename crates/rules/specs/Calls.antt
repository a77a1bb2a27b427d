-- A call as a value: when it is refused, what it leaves, and what it answers.
use Rattle.std.specs.Prelude.{Bool, is_ok, Option, Result}
use Rattle.vault.specs.Checks as checks
use Rattle.vault.specs.Checks.{unless}
use Rattle.rules.specs.declared.call.Accepted.{Accepted}
use Rattle.rules.specs.declared.call.Accepted.TheVariants.{Success, Assigned, SingleUserRows}
use Rattle.rules.specs.declared.call.Call.{Call}
use Rattle.rules.specs.declared.call.Call.TheVariants.{Assign, Deassign, SetRange, SetLocks, GenKey, Erase, Reactivate, Create, Delete, Format, Reset}
use Rattle.rules.specs.declared.cause.Cause.{Cause}
use Rattle.rules.specs.Commands.{create_refusal, created, delete_refusal, deleted, format_refusal, formatted, reset_refusal, was_reset}
use Rattle.rules.specs.Drive.{Drive}
use Rattle.rules.specs.Methods.{assign_refusal, assigned, assigned_row, deassign_refusal, deassigned, set_range_refusal, range_set, set_locks_refusal, locks_set, gen_key_refusal, key_generated, erase_refusal, erased, reactivate_refusal, reactivated, rows_selected}
use Rattle.rules.specs.Sessions.{in_session}

-- a method comes in a session, and Reset is shown one
abbrev pub refusal : Drive → Call → Option Cause
refusal d (Assign caller n start length standing) = in_session caller (assign_refusal d caller n start length standing)
refusal d (Deassign caller r keep) = in_session caller (deassign_refusal d caller r keep)
refusal d (SetRange caller r start length) = in_session caller (set_range_refusal d caller r start length)
refusal d (SetLocks caller r flags) = in_session caller (set_locks_refusal d caller r)
refusal d (GenKey caller r) = in_session caller (gen_key_refusal d caller r)
refusal d (Erase caller r) = in_session caller (erase_refusal d caller r)
refusal d (Reactivate caller selection policy) = in_session caller (reactivate_refusal d caller selection policy)
refusal d (Create n blocks) = create_refusal d n blocks
refusal d (Delete n) = delete_refusal d n
refusal d (Format n) = format_refusal d n
refusal d (Reset caller) = in_session caller (reset_refusal d)

-- what an accepted call leaves
abbrev pub left : Drive → Call → Drive
left d (Assign caller n start length standing) = assigned d n start length standing
left d (Deassign caller r keep) = deassigned d r keep
left d (SetRange caller r start length) = range_set d r start length
left d (SetLocks caller r flags) = locks_set d r flags
left d (GenKey caller r) = key_generated d r
left d (Erase caller r) = erased d r
left d (Reactivate caller selection policy) = reactivated d selection policy
left d (Create n blocks) = created d n blocks
left d (Delete n) = deleted d n
left d (Format n) = formatted d n
left d (Reset caller) = was_reset d

-- what an accepted call answers
abbrev pub said : Drive → Call → Accepted
said d (Assign caller n start length standing) = Assigned (assigned_row d n standing)
said d (Deassign caller r keep) = Success
said d (SetRange caller r start length) = Success
said d (SetLocks caller r flags) = Success
said d (GenKey caller r) = Success
said d (Erase caller r) = Success
said d (Reactivate caller selection policy) = SingleUserRows (rows_selected selection)
said d (Create n blocks) = Success
said d (Delete n) = Success
said d (Format n) = Success
said d (Reset caller) = Success

-- any call: all as it was, and the cause, where it is refused
abbrev pub after : Drive → Call → Drive
after d call = unless (refusal d call) d (left d call)

abbrev pub Answer : Type 0
Answer = Result Accepted Cause

abbrev pub answer : Drive → Call → Answer
answer d call = checks.answer (refusal d call) (said d call)

abbrev pub is_accepted : Answer → Bool
is_accepted answer = is_ok answer
