use Rattle.std.proofs.Common.{◌+◌, ◌++◌, false, sym, ap, ◌∙◌, length, arith}
use Rattle.std.proofs.lemmas.List.Folds.{flat_map-map}
use Rattle.std.specs.List.{flat_map}
use Rattle.vault.specs.Kinds.{nothing}
use Rattle.fields.specs.Fields.{bytes_of, size, written}
use Rattle.layout.specs.View.{drive}
use Rattle.sheet.specs.Format.{header_bytes, header_fields, laid_down, row_bytes, unit_bytes}
use Rattle.sheet.specs.Saving.{filled, header_for, record_of, sheet}
use Rattle.sheet.proofs.Lengths.{length-header, length-records, length-unit}
use Rattle.sheet.proofs.Writing.{parts-written}
use Rattle.sheet.proofs.writer.save.Goals as goal

pub returns : goal.returns
unfolding sheet laid_down
returns c closed vault =
    let bounds = c.args.bounds in
    let layout = c.args.layout.now in
    let header = header_for (drive layout false bounds nothing) in
    let units = flat_map unit_bytes layout.units in
    let rows = flat_map (λ r. row_bytes (record_of bounds r)) layout.rows in
    let fields = c.fields.ensures ∙ ap header_fields c.header_of.ensures in
    let first = c.write-units_at.ensures.bytes ∙ ap (λ fs. written 0 (bytes_of fs) c.args.out.now) fields in
    let after = c.write-units_at.ensures.end ∙ ap (λ fs. 0 + size fs) fields in
    let second = c.write_units-rows_at.ensures.bytes ∙ ap (λ us. written c.write-units_at.result (flat_map unit_bytes us) c.write-units_at.new.out) c.as_slice.ensures.value in
    let behind = length-records unit_bytes 16 length-unit layout.units in
    let third = c.write_rows.ensures ∙ ap (λ rs. written c.write_units-rows_at.result (flat_map (λ r. row_bytes (record_of bounds r)) rs) c.write_units-rows_at.new.out) c.as_slice-2.ensures.rows in
    parts-written (header_bytes header) units rows c.args.out.now _ _ _ _ _ first
    (omega (arith, after, length-header header)) second (omega (arith, after, length-header header, behind, ap length c.as_slice.ensures.value)) third
    ∙ ap (λ bs. filled (header_bytes header ++ units ++ bs) c.args.out.now) (sym (flat_map-map row_bytes (record_of bounds) layout.rows))
