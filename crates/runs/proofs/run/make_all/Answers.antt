use Rattle.std.proofs.Common.{Ok, get_or, refl, ap, ◌∙◌, arith, rules}
use Rattle.std.proofs.Math.Seq.{map-set_same}
use Rattle.std.specs.Prelude.{is_ok}
use Rattle.rules.specs.declared.call.Accepted.TheVariants.{Success}
use Rattle.rules.specs.declared.call.Call.TheVariants.{Assign}
use Rattle.rules.specs.declared.row.Standing.TheVariants.{Shared}
use Rattle.runs.specs.declared.step.Step.{Step}
use Rattle.runs.proofs.Kept.{refuses}
use Rattle.runs.proofs.Making.{made-more}
use Rattle.runs.proofs.Watching.{shown-more, shown-all}
use Rattle.runs.proofs.run.make_all.Goals as goal

-- the step that the list is read at past its end, which no run does
none : Step
none = record { call = Assign 0 0 0 0 Shared; answer = Ok Success }

pub loop-i-init : goal.loop-i-init
loop-i-init g c = record { lent = search rules; calls = search rules; made = search rules; kept = search rules; watched = λ o seen. seen }

pub see-requires-in-loop-i : goal.see-requires-in-loop-i
see-requires-in-loop-i g c =
    (g.C.Calls.model c.args.table.now, made-more _ _ _ c.loop-i.steps c.loop-i.i _ (omega arith) c.loop-i.invariant.made c.make.ensures.answer c.make.ensures.after)

pub loop-i-preserved : goal.loop-i-preserved
unfolding none
loop-i-preserved g c =
    let made = made-more _ _ _ c.loop-i.steps c.loop-i.i _ (omega arith) c.loop-i.invariant.made c.make.ensures.answer c.make.ensures.after in
    record {
      lent = c.make.ensures.lent ∙ c.loop-i.invariant.lent;
      calls = map-set_same (λ s. s.call) c.loop-i.steps c.loop-i.i _ _ refl ∙ c.loop-i.invariant.calls;
      made = made;
      kept = λ closed.
          c.make.ensures.kept (ap is_ok c.make.ensures.answer ∙ refuses (g.C.Calls.model c.loop-i.table) (ap (λ t. (g.C.Calls.model t).closed) (c.loop-i.invariant.kept closed) ∙ closed) (get_or c.loop-i.steps c.loop-i.i none).call)
          ∙ c.loop-i.invariant.kept closed;
      watched = λ o seen. shown-more g.O.Observer.saw (g.C.Calls.model c.args.table.now) c.loop-i.steps c.loop-i.i _ _ o _ _ (omega arith) (c.loop-i.invariant.watched o seen) made.leave c.see-in-loop-i.ensures;
    }

pub returns-clause-watched : goal.returns-clause-watched
returns-clause-watched g c =
    shown-all g.O.Observer.saw _ c.loop-i.steps c.loop-i.i _ _ (omega arith) (c.loop-i.invariant.watched c.args.observer.now c.see.ensures)
