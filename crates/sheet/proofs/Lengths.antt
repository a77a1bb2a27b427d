-- How long records, and sheets, are.
use Rattle.std.proofs.Common.{◌≡◌, ℕ, ◌+◌, ◌*◌, List, [], ◌∷◌, ◌++◌, length, map, refl, arith}
use Rattle.std.proofs.Math.Nat.{mul-suc, mul-zero}
use Rattle.std.proofs.lemmas.List.{length-append, length-map}
use Rattle.std.proofs.lemmas.List.FromFn.{length-map-range_with_len}
use Rattle.std.specs.List.{flat_map}
use Rattle.fields.proofs.Fields.{length-bytes_of}
use Rattle.rules.specs.declared.unit.LogicalUnit.{LogicalUnit}
use Rattle.rules.specs.Drive.{Drive}
use Rattle.sheet.specs.declared.records.Header.{Header}
use Rattle.sheet.specs.declared.records.RowRecord.{RowRecord}
use Rattle.sheet.specs.Format.{header_bytes, header_fields, header_of, laid_down, row_at, row_bytes, row_fields, rows_offset, rows_on, unit_at, unit_bytes, unit_fields, units_on}
use Rattle.sheet.specs.Saving.{header_for, record_of, sheet, total_of}

pub length-header : (h : Header) → length (header_bytes h) ≡ 32
length-header h = length-bytes_of (header_fields h)

pub length-unit : (u : LogicalUnit) → length (unit_bytes u) ≡ 16
length-unit u = length-bytes_of (unit_fields u)

pub length-row : (r : RowRecord) → length (row_bytes r) ≡ 32
length-row r = length-bytes_of (row_fields r)

pub length-records : {A : Type 0} (enc : A → List ℕ) (k : ℕ) → ((x : A) → length (enc x) ≡ k) → (xs : List A) → length (flat_map enc xs) ≡ k * length xs
length-records enc k long [] = rw mul-zero refl
length-records enc k long (x ∷ xs) = rw mul-suc (omega (arith, length-append (enc x) (flat_map enc xs), long x, length-records enc k long xs))

pub length-laid_down : (h : Header) (units : List LogicalUnit) (rows : List RowRecord) → length (laid_down h units rows) ≡ 32 + 16 * length units + 32 * length rows
unfolding laid_down
length-laid_down h units rows =
    let us = flat_map unit_bytes units in
    let rs = flat_map row_bytes rows in
    omega (arith, length-append (header_bytes h ++ us) rs, length-append (header_bytes h) us, length-header h, length-records unit_bytes 16 length-unit units, length-records row_bytes 32 length-row rows)

pub length-sheet : (d : Drive) → length d.rows ≡ 17 → length (sheet d) ≡ total_of d
unfolding sheet
length-sheet d seventeen = omega (arith, length-laid_down (header_for d) d.units (map (record_of d.numbering) d.rows), length-map d.rows (record_of d.numbering))

module _ (s : List ℕ) where
  pub length-units_on : length (units_on s) ≡ (header_of s).unit_count
  unfolding units_on
  length-units_on = length-map-range_with_len (λ k. unit_at (32 + 16 * k) s) 0 (header_of s).unit_count

  pub length-rows_on : length (rows_on s) ≡ 17
  unfolding rows_on
  length-rows_on = length-map-range_with_len (λ r. row_at (rows_offset (header_of s).unit_count + 32 * r) s) 0 17
