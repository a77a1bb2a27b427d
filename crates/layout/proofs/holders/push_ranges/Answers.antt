use Rattle.std.proofs.Common.{arith}
use Rattle.std.proofs.lemmas.Grind.{common_steps}
use Rattle.rules.specs.declared.row.Sought.TheVariants.{RangeRowOf}
use Rattle.rules.specs.Rows.{all_rows, free_row}
use Rattle.layout.proofs.AllRows.{all_rows-more}
use Rattle.layout.proofs.holders.push_ranges.Goals as goal

pub loop-number-init : goal.loop-number-init
unfolding all_rows
loop-number-init c = grind (arith, common_steps)

pub loop-number-preserved : goal.loop-number-preserved
loop-number-preserved c = let more = all_rows-more (RangeRowOf c.args.unit) c.args.rows.now c.loop-number.number free_row c.loop-number-test.true in grind (arith, common_steps)
