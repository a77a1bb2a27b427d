use Rattle.std.proofs.Common.{rules}
use Rattle.lines.proofs.Joined.{first_then}
use Rattle.lines.proofs.words.Words.joined.Goals as goal
use Rattle.lines.proofs.words.Words.joined.Goals.{in-Some+in_ok-push_str, in_default}

pub loop-word-init : goal.loop-word-init
loop-word-init c =
    elim c.match-next.branch [
      | in-Some+in_ok-push_str w ↦ let e = first_then w.in-Some.first.now c.next.new.self in search rules
      | in_default w ↦ search rules
    ]
