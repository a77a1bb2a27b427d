use Rattle.std.proofs.Common.{arith}
use Rattle.vault.proofs.Checks.{unchanged}
use Rattle.layout.specs.View.{drive}
use Rattle.rules.specs.Drive.{Drive}
use Rattle.rules.specs.Methods.{set_range_refusal, range_set}
use Rattle.table.proofs.table_calls.TableCalls.set_range.Goals as goal

pub returns-in_err-check_set_range-clause-after : goal.returns-in_err-check_set_range-clause-after
returns-in_err-check_set_range-clause-after g c =
    let t = c.args.self.now in
    let d : Drive = drive t.content.layout t.content.closed g.N.Numbering.BOUNDS (g.V.KeySet.meaning t.vault.now) in
    unchanged tt (set_range_refusal d c.args.session.now.caller c.args.row c.args.start c.args.length) _ d (range_set d c.args.row c.args.start c.args.length) c.in_err-check_set_range.ensures.answer

pub returns-clause-after : goal.returns-clause-after
returns-clause-after g c = grind arith
