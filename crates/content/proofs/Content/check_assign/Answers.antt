use Rattle.std.proofs.Common.{rules, ◌≡◌, ◌∙◌, true, false, arith}
use Rattle.std.proofs.lemmas.Bool.Decides.{nat_tests}
use Rattle.layout.specs.View.{drive}
use Rattle.content.specs.Rooms.{room_for}
use Rattle.rules.specs.Drive.{Drive}
use Rattle.rules.specs.Rows.{has_unit_row}
use Rattle.rules.specs.Sessions.{admins, is_not}
use Rattle.rules.specs.Units.{exists}
use Rattle.content.proofs.AssignAnswers.{answer-by-range, answer-by-unit}
use Rattle.content.proofs.Content.check_assign.Goals as goal

pub returns-in-Some-clause-answer : goal.returns-in-Some-clause-answer
returns-in-Some-clause-answer g c =
    let t = c.args.self.now in
    let d : Drive = drive t.layout t.closed g.N.Numbering.BOUNDS (room_for c.args.unused) in
    let open-now : d.closed ≡ false = search rules in
    let right : is_not c.args.caller admins ≡ false = grind (arith, nat_tests) in
    let there : exists c.args.unit d.units ≡ true = search rules in
    let under : has_unit_row c.args.unit d.rows ≡ true = search rules in
    c.check_range_row.ensures.answer ∙ answer-by-range d c.args.caller c.args.unit c.args.start c.args.length c.args.standing open-now right there under

pub returns-in-None-clause-answer : goal.returns-in-None-clause-answer
returns-in-None-clause-answer g c =
    let t = c.args.self.now in
    let d : Drive = drive t.layout t.closed g.N.Numbering.BOUNDS (room_for c.args.unused) in
    let open-now : d.closed ≡ false = search rules in
    let right : is_not c.args.caller admins ≡ false = grind (arith, nat_tests) in
    let there : exists c.args.unit d.units ≡ true = search rules in
    let bare : has_unit_row c.args.unit d.rows ≡ false = search rules in
    c.check_unit_row.ensures.answer ∙ answer-by-unit d c.args.caller c.args.unit c.args.start c.args.length c.args.standing open-now right there bare
