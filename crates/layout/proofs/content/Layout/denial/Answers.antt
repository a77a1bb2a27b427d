use Rattle.std.proofs.Common.{◌≡◌, true, false, Some, sym, ap, ◌∙◌, arith, rules}
use Rattle.rules.specs.declared.cause.Cause.TheVariants.{BlockLocked}
use Rattle.rules.specs.Questions.{block_locked, denied_at}
use Rattle.layout.proofs.Edges.{step-within, step-past, steps-fall}
use Rattle.layout.proofs.Searches.{find-here}
use Rattle.layout.proofs.content.Layout.denial.Goals as goal

pub returns-then-is_locked_for : goal.returns-then-is_locked_for
returns-then-is_locked_for c =
    let rows = c.args.self.now.rows in
    let n = c.args.unit in
    let block = c.loop-block.block in
    let t : block_locked rows c.args.access n block ≡ true = cc in
    ap (λ r. Some (BlockLocked block r)) c.controlling_row-row.ensures.row
    ∙ sym (ap (denied_at rows n) (c.loop-block.invariant.ahead ∙ find-here (block_locked rows c.args.access n) block _ (omega arith) t))

pub loop-block-smaller : goal.loop-block-smaller
loop-block-smaller c = steps-fall c.args.self.now.rows c.args.unit c.loop-block.block _ c.next_edge-block.result (rw c.as_slice.ensures.rows at c.next_edge-block.ensures) (omega arith)

pub loop-block-preserved : goal.loop-block-preserved
loop-block-preserved c =
    let rows = c.args.self.now.rows in
    let n = c.args.unit in
    let block = c.loop-block.block in
    let free : block_locked rows c.args.access n block ≡ false = cc in
    let edge = rw c.as_slice.ensures.rows at c.next_edge-block.ensures in
    record {
      within = step-within rows n block _ c.next_edge-block.result edge (omega arith);
      ahead = c.loop-block.invariant.ahead ∙ step-past rows n block _ c.next_edge-block.result edge (omega arith) c.args.access free;
    }

pub loop-block-init : goal.loop-block-init
loop-block-init c = record { within = omega arith; ahead = search rules }
