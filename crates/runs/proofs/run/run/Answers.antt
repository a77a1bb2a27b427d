use Rattle.std.proofs.Common.{ap, ◌∙◌, arith}
use Rattle.runs.specs.Steps.{calls_of}
use Rattle.runs.proofs.Kept.{by-the-rules, shut-out}
use Rattle.runs.proofs.run.run.Goals as goal

pub returns-clause-by_the_rules : goal.returns-clause-by_the_rules
returns-clause-by_the_rules g c =
    by-the-rules g.N.Numbering.BOUNDS (g.V.KeySet.meaning c.args.vault.now) c.args.source _ (calls_of c.args.steps.now) _ _
    c.lay_out-table.ensures.model c.lay_out-table.ensures.begins c.make_all.ensures.answers c.make_all.ensures.last

-- the table that is laid out is closed, so no call changes it
pub returns-clause-kept : goal.returns-clause-kept
returns-clause-kept g c = λ refused.
    ap (λ t. t.vault.now) (c.make_all.ensures.kept (ap (λ d. d.closed) c.lay_out-table.ensures.model ∙ shut-out _ _ c.lay_out-table.ensures.begins refused))
    ∙ c.lay_out-table.ensures.same

pub returns-clause-watched : goal.returns-clause-watched
returns-clause-watched g c = grind arith

pub returns-clause-answers : goal.returns-clause-answers
returns-clause-answers g c = grind arith

pub returns-clause-last : goal.returns-clause-last
returns-clause-last g c = grind arith
