use Rattle.std.proofs.Common.{sym, ap, ◌∙◌}
use Rattle.std.specs.List.{list_any}
use Rattle.rules.specs.declared.row.Sought.TheVariants.{RangeRowOf}
use Rattle.rules.specs.Rows.{locked, row, all_rows}
use Rattle.layout.proofs.Ranges.{any-of-rows}
use Rattle.layout.proofs.rows.Rows.is_range_locked.Goals as goal

pub returns : goal.returns
returns c =
    c.is_any_locked.ensures
    ∙ sym (any-of-rows (RangeRowOf c.args.unit) (λ r. locked r.flags) c.self.inside.list)
    ∙ ap (λ rows. list_any (λ r. locked (row r rows).flags) (all_rows (RangeRowOf c.args.unit) rows)) c.self.view_is
