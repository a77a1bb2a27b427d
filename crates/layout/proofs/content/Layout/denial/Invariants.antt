use Rattle.std.proofs.Common.{◌-◌, ◌≡◌, ◌≤◌}
use Rattle.rules.specs.Questions.{first_locked}
use Rattle.layout.proofs.Edges.{steps_left}
use Rattle.layout.proofs.content.Layout.denial.Given as goal

-- the blocks that were passed are not locked
abbrev pub invariant-loop-block : goal.invariant-loop-block
invariant-loop-block l = record {
  within : l.block ≤ l.end;
  ahead : first_locked l.self.rows l.access l.unit l.first l.count ≡ first_locked l.self.rows l.access l.unit l.block (l.end - l.block);
}

-- a row makes at most two edges, so seventeen rows allow 35 steps, however many blocks there are
abbrev pub decreases-loop-block : goal.decreases-loop-block
decreases-loop-block l = steps_left l.self.rows l.unit l.block l.end
