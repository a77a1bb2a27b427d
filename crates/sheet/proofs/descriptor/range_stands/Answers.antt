use Rattle.std.proofs.Common.{◌∙◌, rules}
use Rattle.std.proofs.lemmas.Iterator.{YieldsList-from_slice}
use Rattle.std.proofs.lemmas.Iterator.Search.{any_from_yields_List}
use Rattle.rules.specs.Rows.{is_range_row}
use Rattle.sheet.proofs.descriptor.range_stands.Goals as goal

pub returns : goal.returns
returns c = any_from_yields_List (λ r. is_range_row r.kind) _ _ _ c.any.ensures.ran (YieldsList-from_slice c.args.rows.now (c.iter.ensures.rest ∙ c.as_slice.ensures.rows)) (λ x b q k. search rules)
