-- The mask: which rows are in Single User Mode.
use Rattle.std.proofs.Common.{◌≡◌, ℕ, ◌+◌, ◌^◌, ◌<◌, Bool, false, not, eqb, List, [], ◌∷◌, map, length, refl, ap, ◌∙◌, subst, arith}
use Rattle.std.proofs.lemmas.List.{length-map, get_or-map}
use Rattle.std.proofs.lemmas.Bool.Decides.{nat_tests}
use Rattle.std.specs.List.{enumerate_from, list_any, range_with_len}
use Rattle.std.specs.Simd.Lanes.{mask_l}
use Rattle.rules.specs.declared.numbering.Bounds.{Bounds}
use Rattle.rules.specs.declared.row.Row.{Row}
use Rattle.rules.specs.Methods.{selected}
use Rattle.rules.specs.Rows.{free_row, row, is_single_user}
use Rattle.sheet.specs.declared.records.RowRecord.{RowRecord}
use Rattle.sheet.specs.Loading.{row_said, rows_said}
use Rattle.sheet.specs.Saving.{number_with, mask_of}
use Rattle.sheet.proofs.Bits.{as-mask, number-small, selected-number, number-selected}

-- whether a row is in Single User Mode
abbrev single : Row → Bool
single r = is_single_user r.standing

-- the rows that records describe are in it where the mask says so
singles-said : (bounds : Bounds) (mask n : ℕ) (records : List RowRecord)
    → map single (map (λ entry. row_said bounds mask entry.0 entry.1) (enumerate_from n records)) ≡ map (selected mask) (range_with_len n (length records))
singles-said bounds mask n [] = refl
singles-said bounds mask n (r ∷ rs) = let h = singles-said bounds mask (n + 1) rs in grind (arith, nat_tests)

pub mask-back : (bounds : Bounds) (mask : ℕ) (records : List RowRecord) {k : ℕ} → length records ≡ k → mask < 2 ^ k → mask_of (rows_said bounds mask records) ≡ mask
mask-back bounds mask records {k} n l =
    ap number_with (singles-said bounds mask 0 records)
    ∙ ap (λ m. number_with (map (selected mask) (range_with_len 0 m))) n
    ∙ number-selected k mask l

module _ (rows : List Row) where
  pub mask-bit : (i : ℕ) → i < length rows → selected (mask_of rows) i ≡ is_single_user (row i rows).standing
  mask-bit i l = selected-number (map single rows) i ∙ get_or-map single rows i free_row false l

  pub mask-small : mask_of rows < 2 ^ length rows
  mask-small = subst (λ n. mask_of rows < 2 ^ n) (length-map rows single) (number-small (map single rows))

-- the mask is 0 where no row is in it
pub mask-zero : (rows : List Row) → eqb (mask_of rows) 0 ≡ not (list_any (λ r. is_single_user r.standing) rows)
mask-zero rows = ap (λ n. eqb n 0) (as-mask (map single rows)) ∙ go rows
  where
    go : (rows : List Row) → eqb (mask_l (map single rows)) 0 ≡ not (list_any single rows)
    go [] = refl
    go (r ∷ rs) = let h = go rs in grind (arith, nat_tests)
