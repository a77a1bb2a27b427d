-- A call or a question as a value: the reply to it, and what it leaves.
use Rattle.std.specs.Prelude.{Result}
use Rattle.std.specs.Result.{result_map_both}
use Rattle.vault.specs.Checks.{answer}
use Rattle.rules.specs.declared.ask.Ask.{Ask}
use Rattle.rules.specs.declared.ask.Ask.TheVariants as asks
use Rattle.rules.specs.declared.ask.Question.{Question}
use Rattle.rules.specs.declared.ask.Question.TheVariants.{Unused, Controls, Access, ReadRow}
use Rattle.rules.specs.declared.ask.Told.{Told}
use Rattle.rules.specs.declared.ask.Told.TheVariants as tells
use Rattle.rules.specs.declared.call.Call.TheVariants.{Assign, Deassign, SetRange, SetLocks, GenKey, Erase, Reactivate, Create, Delete, Format, Reset}
use Rattle.rules.specs.declared.cause.Asked.{Asked}
use Rattle.rules.specs.declared.cause.Asked.TheVariants.{Method, Command}
use Rattle.rules.specs.declared.cause.Cause.{Cause}
use Rattle.rules.specs.Calls as calls
use Rattle.rules.specs.Drive.{Drive}
use Rattle.rules.specs.Questions.{access_answer, controls_answer, unused_answer, read_row_refusal, row_fields}
use Rattle.rules.specs.Sessions.{in_session}

abbrev pub Reply : Type 0
Reply = Result Told Cause

-- an outcome, told by how its value is told
abbrev pub told : {A : Type 0} → (A → Told) → Result A Cause → Reply
told tell outcome = result_map_both tell (λ cause. cause) outcome

-- what the definitions reply to a question
abbrev pub reply : Drive → Question → Reply
reply d Unused = told tells.Unused (unused_answer d)
reply d (Controls unit block) = told tells.Controls (controls_answer d unit block)
reply d (Access access unit start count) = told (λ _. tells.Granted) (access_answer d access unit start count)
reply d (ReadRow caller row) = told tells.Row (answer (in_session caller (read_row_refusal d row)) (row_fields d row))

-- what they reply to a call or a question
abbrev pub reply_to : Drive → Ask → Reply
reply_to d (asks.Call call) = told tells.Answered (calls.answer d call)
reply_to d (asks.Question question) = reply d question

-- what they leave: a question changes nothing
abbrev pub left_by : Drive → Ask → Drive
left_by d (asks.Call call) = calls.after d call
left_by d (asks.Question question) = d

-- how it comes in: the methods through a session, and all else over the host interface
abbrev pub way : Ask → Asked
way (asks.Call (Assign caller n start length standing)) = Method
way (asks.Call (Deassign caller r keep)) = Method
way (asks.Call (SetRange caller r start length)) = Method
way (asks.Call (SetLocks caller r flags)) = Method
way (asks.Call (GenKey caller r)) = Method
way (asks.Call (Erase caller r)) = Method
way (asks.Call (Reactivate caller selection policy)) = Method
way (asks.Call (Create n blocks)) = Command
way (asks.Call (Delete n)) = Command
way (asks.Call (Format n)) = Command
way (asks.Call (Reset caller)) = Command
way (asks.Question question) = Command
