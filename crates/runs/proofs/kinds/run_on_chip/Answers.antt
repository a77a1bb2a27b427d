use Rattle.std.proofs.Common.{arith, rules}
use Rattle.runs.specs.Steps.{calls_of}
use Rattle.runs.proofs.Registers.{same-use}
use Rattle.runs.proofs.kinds.run_on_chip.Goals as goal

pub returns-clause-registers : goal.returns-clause-registers
returns-clause-registers g c =
    same-use g.N.Numbering.BOUNDS _ c.args.source (calls_of c.args.steps.now) c.args.registers.now c.run_over.new.vault.registers.now _ c.run_over.new.vault.used
    (search rules) c.new-chip.ensures.value c.run_over.ensures.vault

pub returns-clause-kept : goal.returns-clause-kept
returns-clause-kept g c = grind arith

pub returns-clause-unfit : goal.returns-clause-unfit
returns-clause-unfit g c = grind arith
