use Rattle.std.proofs.Common.{◌≡◌, false, cond, ◌||◌, sym, ap, ◌∙◌, arith, ◌==◌}
use Rattle.std.proofs.lemmas.Bool.Decides.{nat_tests}
use Rattle.vault.specs.Kinds.{nothing}
use Rattle.layout.specs.View.{drive}
use Rattle.rules.specs.declared.row.Row.{Row}
use Rattle.rules.specs.Drive.{Drive, row_of, single_user}
use Rattle.rules.specs.Methods.{receiver}
use Rattle.rules.specs.Rows.{is_range_row, is_single_user, row, row_under, unit_or}
use Rattle.rules.specs.Sessions.{admins, is_not}
use Rattle.content.proofs.Leaving.{in_use, left_to_check, answer-by-kind}
use Rattle.content.proofs.Content.check_deassign.Goals as goal

pub returns-clause-answer : goal.returns-clause-answer
returns-clause-answer g c =
    let t = c.args.self.now in
    let d : Drive = drive t.layout t.closed g.N.Numbering.BOUNDS nothing in
    let p = in_use d c.args.row c.in_ok-leaving.leaving c.in_ok-leaving.ensures.answer in
    let at : c.receiver.result ≡ receiver d c.args.row = c.receiver.ensures.row d.numbering.mark ∙ ap (λ (r : Row). cond (is_range_row r.kind) (row_under d.rows (unit_or r.kind d.numbering.mark)) 0) p.3 in
    let taking : c.get-receiver.result ≡ row_of d (receiver d c.args.row) = c.get-receiver.ensures ∙ ap (λ r. row r d.rows) at in
    let right : is_not c.args.caller admins ≡ false = grind (arith, nat_tests) in
    let other : (c.args.row == 0) ≡ false = grind (arith, nat_tests) in
    let leaver : single_user d c.args.row ≡ false = ap (λ (r : Row). is_single_user r.standing) (sym p.3) ∙ sym c.is_single_user.ensures ∙ c.if-is_single_user.false in
    let taker : single_user d (receiver d c.args.row) ≡ false = ap (λ (r : Row). is_single_user r.standing) (sym taking) ∙ sym c.is_single_user-else-is_single_user.ensures ∙ c.if-is_single_user-2.false in
    let shared : (single_user d c.args.row || single_user d (receiver d c.args.row)) ≡ false = rw leaver taker in
    c.check_leaving.ensures.answer d.numbering.mark
    ∙ ap (λ (r : Row). left_to_check d r c.get-receiver.result c.args.keep) p.3
    ∙ ap (λ (r : Row). left_to_check d (row_of d c.args.row) r c.args.keep) taking
    ∙ answer-by-kind d c.args.caller c.args.row c.args.keep p.0 p.1 p.2 other right shared
