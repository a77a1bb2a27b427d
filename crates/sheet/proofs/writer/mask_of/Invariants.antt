use Rattle.std.proofs.Common.{◌≡◌, map, take}
use Rattle.rules.specs.Rows.{is_single_user}
use Rattle.sheet.proofs.writer.mask_of.Given as goal

abbrev pub invariant-loop-row : goal.invariant-loop-row
invariant-loop-row l = l.bits.items ≡ map (λ r. is_single_user r.standing) (take l.row-index l.rows)
