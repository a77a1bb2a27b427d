use Rattle.std.proofs.Common.{rules, arith, ◌≡◌, ℕ, cond, sym, ap, ◌∙◌}
use Rattle.vault.proofs.Checks.{unchanged}
use Rattle.layout.specs.View.{drive}
use Rattle.rules.specs.Drive.{Drive, with_rows, with_vault, spent}
use Rattle.rules.specs.Methods.{assign_refusal, assigned, assigned_row, become, range_row_assigned, unit_row_assigned}
use Rattle.vault.specs.Meaning.{put_after}
use Rattle.rules.specs.declared.row.Kind.TheVariants.{UnitRow, RangeRow}
use Rattle.content.proofs.AssignAnswers.{after-by}
use Rattle.content.proofs.Rooms.{assign-by-room}
use Rattle.table.proofs.table_calls.TableCalls.assign.Goals as goal

-- row r is made a range row
abbrev range_row_made : Drive → ℕ → ℕ → ℕ → ℕ → Drive
range_row_made d r n start len = spent 1 (with_vault (put_after d.vault d.next) (with_rows (become d r (RangeRow n start len d.next)) d))

pub returns-then-is_unit_row-clause-answer : goal.returns-then-is_unit_row-clause-answer
returns-then-is_unit_row-clause-answer g c =
    let t = c.args.self.now in
    let d : Drive = drive t.content.layout t.content.closed g.N.Numbering.BOUNDS (g.V.KeySet.meaning t.vault.now) in
    c.in_ok-row.ensures.answer ∙ assign-by-room d c.unused_keys.result c.unused_keys.ensures c.args.session.now.caller c.args.unit c.args.start c.args.length c.args.standing

pub returns-else-is_unit_row-clause-answer : goal.returns-else-is_unit_row-clause-answer
returns-else-is_unit_row-clause-answer g c =
    let t = c.args.self.now in
    let d : Drive = drive t.content.layout t.content.closed g.N.Numbering.BOUNDS (g.V.KeySet.meaning t.vault.now) in
    c.in_ok-row.ensures.answer ∙ assign-by-room d c.unused_keys.result c.unused_keys.ensures c.args.session.now.caller c.args.unit c.args.start c.args.length c.args.standing

pub returns-in_err-row-clause-after : goal.returns-in_err-row-clause-after
returns-in_err-row-clause-after g c =
    let t = c.args.self.now in
    let d : Drive = drive t.content.layout t.content.closed g.N.Numbering.BOUNDS (g.V.KeySet.meaning t.vault.now) in
    unchanged (assigned_row d c.args.unit c.args.standing) (assign_refusal d c.args.session.now.caller c.args.unit c.args.start c.args.length c.args.standing) _ d (assigned d c.args.unit c.args.start c.args.length c.args.standing) (c.in_err-row.ensures.answer ∙ assign-by-room d c.unused_keys.result c.unused_keys.ensures c.args.session.now.caller c.args.unit c.args.start c.args.length c.args.standing)

pub returns-then-is_unit_row-clause-after : goal.returns-then-is_unit_row-clause-after
returns-then-is_unit_row-clause-after g c =
    let t = c.args.self.now in
    let d : Drive = drive t.content.layout t.content.closed g.N.Numbering.BOUNDS (g.V.KeySet.meaning t.vault.now) in
    let by = after-by d c.args.session.now.caller c.args.unit c.args.start c.args.length c.args.standing c.in_ok-row.row c.in_ok-row.is_unit_row (returns-then-is_unit_row-clause-answer g c) in
    let made : drive c.turn_into.new.self t.content.closed g.N.Numbering.BOUNDS (g.V.KeySet.meaning t.vault.now) ≡ with_rows (become d c.in_ok-row.row (UnitRow c.args.unit)) d = search rules in
    made
    ∙ ap (λ row. with_rows (become d row (UnitRow c.args.unit)) d) by.0
    ∙ sym (ap (λ b. cond b (unit_row_assigned d c.args.unit c.args.standing) (range_row_assigned d c.args.unit c.args.start c.args.length c.args.standing)) c.if-is_unit_row.true)
    ∙ by.1

pub returns-else-is_unit_row-clause-after : goal.returns-else-is_unit_row-clause-after
returns-else-is_unit_row-clause-after g c =
    let t = c.args.self.now in
    let d : Drive = drive t.content.layout t.content.closed g.N.Numbering.BOUNDS (g.V.KeySet.meaning t.vault.now) in
    let by = after-by d c.args.session.now.caller c.args.unit c.args.start c.args.length c.args.standing c.in_ok-row.row c.in_ok-row.is_unit_row (returns-else-is_unit_row-clause-answer g c) in
    let made : drive c.add_range.new.self c.put_fresh_key.new.self.content.closed g.N.Numbering.BOUNDS (g.V.KeySet.meaning c.put_fresh_key.new.self.vault.now) ≡ range_row_made d c.in_ok-row.row c.args.unit c.args.start c.args.length = grind arith in
    made
    ∙ ap (λ row. range_row_made d row c.args.unit c.args.start c.args.length) by.0
    ∙ sym (ap (λ b. cond b (unit_row_assigned d c.args.unit c.args.standing) (range_row_assigned d c.args.unit c.args.start c.args.length c.args.standing)) c.if-is_unit_row.false)
    ∙ by.1
