use Rattle.std.proofs.Common.{arith, ◌∙◌}
use Rattle.std.proofs.lemmas.Bool.Decides.{nat_tests}
use Rattle.vault.proofs.Checks.{accepted, unchanged}
use Rattle.layout.specs.View.{drive}
use Rattle.rules.specs.Drive.{Drive}
use Rattle.rules.specs.Commands.{create_checks, create_refusal, created}
use Rattle.rules.proofs.Sounds.{passed}
use Rattle.content.proofs.Rooms.{create-by-room}
use Rattle.table.proofs.table_calls.TableCalls.create.Goals as goal

-- there is room for the unit, none has its number, and the next serial is not the last
pub create-requires : goal.create-requires
create-requires g c =
    let t = c.args.self.now in
    let d : Drive = drive t.content.layout t.content.closed g.N.Numbering.BOUNDS (g.V.KeySet.meaning t.vault.now) in
    let p = passed d (create_checks d c.args.number c.args.blocks) (accepted tt (create_refusal d c.args.number c.args.blocks) (c.in_ok-check_create.ensures ∙ create-by-room d c.unused_keys.result c.unused_keys.ensures c.args.number c.args.blocks)) in
    record { room = grind (arith, nat_tests); fresh = grind (arith, nat_tests); spare = grind (arith, nat_tests) }

pub returns-in_err-check_create-clause-after : goal.returns-in_err-check_create-clause-after
returns-in_err-check_create-clause-after g c =
    let t = c.args.self.now in
    let d : Drive = drive t.content.layout t.content.closed g.N.Numbering.BOUNDS (g.V.KeySet.meaning t.vault.now) in
    unchanged tt (create_refusal d c.args.number c.args.blocks) _ d (created d c.args.number c.args.blocks) (c.in_err-check_create.ensures ∙ create-by-room d c.unused_keys.result c.unused_keys.ensures c.args.number c.args.blocks)
