use Rattle.std.proofs.Common.{◌≡◌, true, [], take}
use Rattle.runs.specs.Steps.{calls_of, AreMade}
use Rattle.runs.specs.Watching.{Watched}
use Rattle.runs.proofs.run.make_all.Given as goal

-- the calls before this one are made and no call is another one, a closed table is as it was, and an observer that was shown
-- the drive before the first call was shown each point since
abbrev pub invariant-loop-i : goal.invariant-loop-i
invariant-loop-i g l = record {
  lent : g.C.Calls.lenders l.table ≡ g.C.Calls.lenders l.initial.table;
  calls : calls_of l.steps ≡ calls_of l.initial.steps;
  made : AreMade (g.C.Calls.model l.initial.table) (take l.i l.steps) (g.C.Calls.model l.table);
  kept : (g.C.Calls.model l.initial.table).closed ≡ true → l.table ≡ l.initial.table;
  watched : (o : _) → g.O.Observer.saw o (g.C.Calls.model l.initial.table) [] l.initial.observer → Watched g.O.Observer.saw (g.C.Calls.model l.initial.table) (take l.i l.steps) o l.observer;
}
