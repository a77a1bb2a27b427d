-- A sheet's bytes and its records: what is written is read back, and what is read gives the same bytes.
use Rattle.std.proofs.Common.{◌≡◌, ℕ, ◌+◌, ◌*◌, ◌^◌, ◌<◌, List, [], ◌∷◌, ◌++◌, length, map, drop, get_or, sym, refl, ap, ◌∙◌, arith}
use Rattle.std.proofs.Math.Seq.{drop-append_seam, take-add}
use Rattle.std.proofs.lemmas.List.{append-nil, append_assoc, drop-drop, length-append, take_all}
use Rattle.std.proofs.lemmas.List.Sums.{sum_by-append}
use Rattle.std.specs.List.{AllByRecursion, flat_map, range_with_len}
use Rattle.fields.specs.declared.Field.{Field}
use Rattle.fields.specs.Fields.{IsBytes, be, bytes_of, number_at, size}
use Rattle.fields.proofs.Fields.{bytes_of-read_fields, number_at-bytes_of, read_fields}
use Rattle.fields.proofs.Records.{records-back, records-read-at}
use Rattle.rules.specs.declared.unit.LogicalUnit.{LogicalUnit}
use Rattle.sheet.specs.declared.records.Header.{Header}
use Rattle.sheet.specs.declared.records.RowRecord.{RowRecord}
use Rattle.sheet.specs.Format.{header_bytes, header_fields, header_of, laid_down, row_at, row_bytes, row_fields, rows_offset, rows_on, total_beside, unit_at, unit_bytes, unit_fields, units_on}
use Rattle.sheet.proofs.Lengths.{length-header, length-records, length-row, length-unit}

-- ---- one record
-- each number fits its width
abbrev pub Fit : List Field → Type 0
Fit fs = AllByRecursion (λ f. f.value < 256 ^ f.width) fs

module _ (rest : List ℕ) where
  read-from : (before fs : List Field) → Fit fs → read_fields (map (λ f. f.width) fs) (size before) (bytes_of (before ++ fs) ++ rest) ≡ fs
  read-from before [] fit = refl
  read-from before (f ∷ fs) fit =
      let first = number_at-bytes_of before fs f.width f.value rest fit.0 in
      let place : size before + f.width ≡ size (before ++ f ∷ []) = omega (arith, sum_by-append (λ (g : Field). g.width) before (f ∷ [])) in
      let others : read_fields (map (λ g. g.width) fs) (size before + f.width) (bytes_of (before ++ f ∷ fs) ++ rest) ≡ fs =
      rw (place, ← append_assoc before (f ∷ []) fs) (read-from (before ++ f ∷ []) fs fit.1) in
      λ i. be f.width (first i) ∷ others i

  fields-read : (fs : List Field) → Fit fs → read_fields (map (λ f. f.width) fs) 0 (bytes_of fs ++ rest) ≡ fs
  fields-read fs fit = read-from [] fs fit

abbrev value : ℕ → List Field → ℕ
value i fs = (get_or fs i (be 0 0)).value

header-read : (h : Header) (rest : List ℕ) → Fit (header_fields h) → header_of (header_bytes h ++ rest) ≡ h
header-read h rest fit = ap (λ fs. record { form = value 0 fs; numbering = value 1 fs; unit_count = value 2 fs; row_count = value 3 fs; units_at = value 4 fs; rows_at = value 5 fs; total = value 6 fs; next = value 7 fs; mask = value 8 fs; policy = value 9 fs; zero = value 10 fs }) (fields-read rest (header_fields h) fit)

unit-read : (u : LogicalUnit) (rest : List ℕ) → Fit (unit_fields u) → unit_at 0 (unit_bytes u ++ rest) ≡ u
unit-read u rest fit = ap (λ fs. record { number = value 0 fs; serial = value 1 fs; blocks = value 2 fs }) (fields-read rest (unit_fields u) fit)

row-read : (r : RowRecord) (rest : List ℕ) → Fit (row_fields r) → row_at 0 (row_bytes r ++ rest) ≡ r
row-read r rest fit = ap (λ fs. record { unit = value 0 fs; serial = value 1 fs; start = value 2 fs; length = value 3 fs; flags = value 4 fs; zeros = value 5 fs }) (fields-read rest (row_fields r) fit)

-- the record at a place is the first of what stands from there on
unit-from : (at : ℕ) (s : List ℕ) → unit_at at s ≡ unit_at 0 (drop at s)
unfolding number_at
unit-from at s = rw (drop-drop 4 at s, drop-drop 8 at s) refl

row-from : (at : ℕ) (s : List ℕ) → row_at at s ≡ row_at 0 (drop at s)
unfolding number_at
row-from at s = rw (drop-drop 4 at s, drop-drop 8 at s, drop-drop 16 at s, drop-drop 24 at s, drop-drop 26 at s) refl

-- ---- the records in a row
abbrev units_from : ℕ → ℕ → List ℕ → List LogicalUnit
units_from at n s = map (λ k. unit_at 0 (drop (at + 16 * k) s)) (range_with_len 0 n)

abbrev rows_from : ℕ → ℕ → List ℕ → List RowRecord
rows_from at n s = map (λ k. row_at 0 (drop (at + 32 * k) s)) (range_with_len 0 n)

module _ (s : List ℕ) where
  units-there : units_on s ≡ units_from 32 (header_of s).unit_count s
  unfolding units_on
  units-there i = map (λ k. unit-from (32 + 16 * k) s i) (range_with_len 0 (header_of s).unit_count)

  rows-there : rows_on s ≡ rows_from (rows_offset (header_of s).unit_count) 17 s
  unfolding rows_on
  rows-there i = map (λ k. row-from (rows_offset (header_of s).unit_count + 32 * k) s i) (range_with_len 0 17)

-- ---- what is written is read back
module _ (h : Header) (units : List LogicalUnit) (rows : List RowRecord) (fit : Fit (header_fields h)) where
  abbrev us : List ℕ
  us = flat_map unit_bytes units

  abbrev rs : List ℕ
  rs = flat_map row_bytes rows

  pub header-back : header_of (laid_down h units rows) ≡ h
  unfolding laid_down
  header-back = rw (append_assoc (header_bytes h) us rs) (header-read h (us ++ rs) fit)

  module _ (count : h.unit_count ≡ length units) where
    pub units-back : AllByRecursion (λ u. Fit (unit_fields u)) units → units_on (laid_down h units rows) ≡ units
    unfolding laid_down
    units-back fits =
        let s = laid_down h units rows in
        let there : drop 32 s ≡ us ++ rs = rw (append_assoc (header_bytes h) us rs, ← length-header h) (drop-append_seam (header_bytes h) (us ++ rs)) in
        units-there s
        ∙ ap (λ (x : Header). units_from 32 x.unit_count s) header-back
        ∙ ap (λ n. units_from 32 n s) count
        ∙ records-read-at unit_bytes (unit_at 0) 16 (λ u. Fit (unit_fields u)) length-unit unit-read 32 s rs units fits there

    pub rows-back : length rows ≡ 17 → AllByRecursion (λ r. Fit (row_fields r)) rows → rows_on (laid_down h units rows) ≡ rows
    unfolding laid_down
    rows-back seventeen fits =
        let s = laid_down h units rows in
        let front = header_bytes h ++ us in
        let place : rows_offset (length units) ≡ length front = omega (arith, length-append (header_bytes h) us, length-header h, length-records unit_bytes 16 length-unit units) in
        let there : drop (rows_offset (length units)) s ≡ rs ++ [] = rw (place, append-nil rs) (drop-append_seam front rs) in
        rows-there s
        ∙ ap (λ (x : Header). rows_from (rows_offset x.unit_count) 17 s) header-back
        ∙ ap (λ n. rows_from (rows_offset n) 17 s) count
        ∙ ap (λ n. rows_from (rows_offset (length units)) n s) (sym seventeen)
        ∙ records-read-at row_bytes (row_at 0) 32 (λ r. Fit (row_fields r)) length-row row-read (rows_offset (length units)) s [] rows fits there

-- ---- what is read gives the same bytes
module _ (s : List ℕ) (bytes : IsBytes s) (long : length s ≡ total_beside (header_of s).unit_count) where
  parts : (n : ℕ) → length s ≡ total_beside n → header_bytes (header_of s) ++ flat_map unit_bytes (units_from 32 n s) ++ flat_map row_bytes (rows_from (rows_offset n) 17 s) ≡ s
  parts n l =
      let header = bytes_of-read_fields (2 ∷ 2 ∷ 2 ∷ 2 ∷ 4 ∷ 4 ∷ 4 ∷ 4 ∷ 4 ∷ 2 ∷ 2 ∷ []) 0 s bytes (omega arith) in
      let units = records-back unit_bytes (unit_at 0) 16 (bytes_of-read_fields (4 ∷ 4 ∷ 8 ∷ []) 0) 32 n s bytes (omega arith) in
      let rows = records-back row_bytes (row_at 0) 32 (bytes_of-read_fields (4 ∷ 4 ∷ 8 ∷ 8 ∷ 2 ∷ 6 ∷ []) 0) (rows_offset n) 17 s bytes (omega arith) in
      (λ i. header i ++ units i ++ rows i)
      ∙ rw (← take-add 32 (16 * n) s, ← take-add (rows_offset n) 544 s) (take_all (rows_offset n + 544) s (omega arith))

  pub bytes-back : laid_down (header_of s) (units_on s) (rows_on s) ≡ s
  unfolding laid_down
  bytes-back = rw (units-there s, rows-there s) (parts (header_of s).unit_count long)
