use Rattle.std.proofs.Common.{arith}
use Rattle.vault.proofs.Checks.{unchanged}
use Rattle.layout.specs.View.{drive}
use Rattle.rules.specs.Drive.{Drive}
use Rattle.rules.specs.Methods.{deassign_refusal, deassigned}
use Rattle.table.proofs.table_calls.TableCalls.deassign.Goals as goal

pub returns-in_err-check_deassign-clause-after : goal.returns-in_err-check_deassign-clause-after
returns-in_err-check_deassign-clause-after g c =
    let t = c.args.self.now in
    let d : Drive = drive t.content.layout t.content.closed g.N.Numbering.BOUNDS (g.V.KeySet.meaning t.vault.now) in
    unchanged tt (deassign_refusal d c.args.session.now.caller c.args.row c.args.keep) _ d (deassigned d c.args.row c.args.keep) c.in_err-check_deassign.ensures.answer

pub returns-clause-after : goal.returns-clause-after
returns-clause-after g c = grind arith
