-- The row records of a sheet and the rows of a drive: each list is read back from the other.
use Rattle.std.proofs.Common.{◌≡◌, ℕ, zero, suc, ◌+◌, ◌<◌, Bool, false, List, [], ◌∷◌, map, length, refl, ap, ◌∙◌, subst, arith}
use Rattle.std.proofs.lemmas.Bool.{or_parts, or_from}
use Rattle.std.specs.List.{enumerate_from, list_any}
use Rattle.rules.specs.declared.numbering.Bounds.{Bounds}
use Rattle.rules.specs.declared.row.Row.{Row}
use Rattle.rules.specs.Methods.{selected}
use Rattle.rules.specs.Rows.{row, is_single_user}
use Rattle.rules.specs.Units.{valid}
use Rattle.sheet.specs.declared.records.RowRecord.{RowRecord}
use Rattle.sheet.specs.Loading.{flags_of, kind_said, row_said, one_of, row_faults}
use Rattle.sheet.specs.Saving.{record_of}
use Rattle.sheet.proofs.RowRecords.{RowInOrder, record-back, row-in-order, row-back, no-row-faults}

module _ (bounds : Bounds) (next mask : ℕ) where
  -- the rows that records say, and whether one has a fault, where the first record has the number n
  abbrev said_from : ℕ → List RowRecord → List Row
  said_from n records = map (λ entry. row_said bounds mask entry.0 entry.1) (enumerate_from n records)

  abbrev faulty_from : ℕ → List RowRecord → Bool
  faulty_from n records = list_any (λ entry. one_of (row_faults bounds next entry.0 entry.1)) (enumerate_from n records)

  -- ---- from records with no faults
  first-and-others : (n : ℕ) (r : RowRecord) (rs : List RowRecord) → faulty_from n (r ∷ rs) ≡ false
      → (one_of (row_faults bounds next n r) ≡ false) × (faulty_from (n + 1) rs ≡ false)
  first-and-others n r rs none = or_parts (one_of (row_faults bounds next n r)) _ none

  pub records-back : (n : ℕ) (records : List RowRecord) → faulty_from n records ≡ false → map (record_of bounds) (said_from n records) ≡ records
  records-back n [] none = refl
  records-back n (r ∷ rs) none =
      let p = first-and-others n r rs none in
      ap (λ s. s ∷ map (record_of bounds) (said_from (n + 1) rs)) (record-back bounds next n r p.0 mask) ∙ ap (λ ss. r ∷ ss) (records-back (n + 1) rs p.1)

  pub rows-in-order : (n : ℕ) (records : List RowRecord) → faulty_from n records ≡ false
      → (i k : ℕ) → n + k ≡ i → k < length records → RowInOrder bounds next i (row k (said_from n records)).kind (row k (said_from n records)).flags
  rows-in-order n [] none i k e l = absurd (let b : ⊥ = omega arith in b)
  rows-in-order n (r ∷ rs) none i zero e l =
      let p = first-and-others n r rs none in
      subst (λ m. RowInOrder bounds next m (kind_said bounds n r) (flags_of r.flags)) (omega arith) (row-in-order bounds next n r p.0)
  rows-in-order n (r ∷ rs) none i (suc k) e l =
      let p = first-and-others n r rs none in
      rows-in-order (n + 1) rs p.1 i k (omega arith) (omega arith)

  -- ---- from rows in order
  -- the row is in order under this number, and its standing is in the mask
  abbrev pub Masked : ℕ → Row → Type 0
  Masked i r = RowInOrder bounds next i r.kind r.flags × (selected mask i ≡ is_single_user r.standing)

  module _ (apart : valid bounds bounds.mark ≡ false) where
    pub rows-back : (n : ℕ) (rows : List Row) → ((i k : ℕ) → n + k ≡ i → k < length rows → Masked i (row k rows))
        → (said_from n (map (record_of bounds) rows) ≡ rows) × (faulty_from n (map (record_of bounds) rows) ≡ false)
    rows-back n [] each = (refl, refl)
    rows-back n (r ∷ rs) each =
        let a = each n 0 (omega arith) (omega arith) in
        let h = rows-back (n + 1) rs (λ i k e l. each i (suc k) (omega arith) (omega arith)) in (
          ap (λ s. s ∷ said_from (n + 1) (map (record_of bounds) rs)) (row-back bounds apart next n r a.0 mask a.1) ∙ ap (λ ss. r ∷ ss) h.0,
          or_from _ _ (no-row-faults bounds apart next n r a.0) h.1,
        )
