-- The checks between records: the rows are in order.
use Rattle.std.proofs.Common.{◌≡◌, ℕ, ◌<◌, ◌≢◌, true, false, eqb, List, length, set, sym, refl, ap, ◌∙◌, subst, inl, inr, arith}
use Rattle.std.proofs.lemmas.Bool.Decides.{nat_tests}
use Rattle.std.proofs.lemmas.Bool.{cases_eq, cases_lt, both_ways, and_parts, and_from, eq-eqb, true≢false, false_from_ne_true}
use Rattle.std.proofs.lemmas.List.{length-set, get_or_past}
use Rattle.std.specs.List.{list_any}
use Rattle.rules.specs.declared.numbering.Bounds.{Bounds}
use Rattle.rules.specs.declared.row.Kind.{Kind}
use Rattle.rules.specs.declared.row.Kind.TheVariants.{Free, Global, UnitRow, RangeRow}
use Rattle.rules.specs.declared.row.Row.{Row}
use Rattle.rules.specs.declared.row.Sought.{Sought}
use Rattle.rules.specs.declared.row.Sought.TheVariants.{UnitRowOf, RangeOver, RangeSharing}
use Rattle.rules.specs.declared.unit.LogicalUnit.{LogicalUnit}
use Rattle.rules.specs.Methods.{other_rows}
use Rattle.rules.specs.Rows.{free_row, row, is_range_row, key_or, anew, covers, shares, unit_row_of, range_over, range_sharing, suits, is_there, numbered}
use Rattle.rules.specs.Sound.{row_fits, AtMostOne, SoundRows}
use Rattle.rules.proofs.Blocks.{over-parts, unit-row-is}
use Rattle.rules.proofs.OtherWords.{sharing-is-a-common-block}
use Rattle.rules.proofs.RowsKept.{over-apart}
use Rattle.rules.proofs.Searches.{missed, at_there, not_there, written, unwritten}
use Rattle.sheet.specs.Loading.{bad_serial, one_of, kind_faults}
use Rattle.sheet.proofs.Each.{none_at, none_from}
use Rattle.sheet.proofs.RowRecords.{RowInOrder}

-- each row is in order under its number
abbrev pub GoodRows : Bounds → ℕ → List Row → Type 0
GoodRows bounds next rows = (i : ℕ) → RowInOrder bounds next i (row i rows).kind (row i rows).flags

-- where those in the table are, the free ones past it are too
pub good-rows : (bounds : Bounds) (next : ℕ) (rows : List Row) → 0 < length rows → ((i : ℕ) → i < length rows → RowInOrder bounds next i (row i rows).kind (row i rows).flags) → GoodRows bounds next rows
good-rows bounds next rows some each i = elim (cases_lt i (length rows)) [
  | inl l ↦ each i l
  | inr g ↦ subst (λ (r : Row). RowInOrder bounds next i r.kind r.flags) (sym (get_or_past rows i free_row g)) (record {
    global = λ e. absurd (let b : ⊥ = omega arith in b);
    others = λ _. refl;
    blanks = λ _. refl;
    given = λ e. absurd cc;
    numbers = λ e. absurd cc;
  })
]

module _ (units : List LogicalUnit) (rows : List Row) where
  -- ---- a search in the other rows
  -- what is not found there stands nowhere else
  absent : (w : Sought) (i j : ℕ) → is_there w (other_rows rows i) ≡ false → i ≢ j → j < length rows → suits w (row j rows) ≡ false
  absent w i j f n l =
      let x = anew Free (row i rows) in
      let m : j ≢ i = (λ e. n (sym e)) in
      ap (suits w) (sym (unwritten rows i x j m)) ∙ missed w (set rows i x) (not_there w (set rows i x) f) j (rw length-set l)

  -- what is found there is another row
  elsewhere : (w : Sought) (i : ℕ) → suits w (anew Free (row i rows)) ≡ false → is_there w (other_rows rows i) ≡ true → (j : ℕ) × (i ≢ j) × (suits w (row j rows) ≡ true)
  elsewhere w i z t =
      let x = anew Free (row i rows) in
      let p = at_there w (set rows i x) t in
      let l : p.0 < length rows = omega (arith, p.1, length-set rows i x) in
      let n : p.0 ≢ i = (λ e. both_ways (suits w x) z (ap (suits w) (sym (ap (λ k. row k (set rows i x)) e ∙ written rows i x (subst (λ k. k < length rows) e l))) ∙ p.2)) in
      (p.0, (λ e. n (sym e)), ap (suits w) (sym (unwritten rows i x p.0 n)) ∙ p.2)

  -- ---- the rows are in order
  within : (w : Sought) → suits w free_row ≡ false → (i : ℕ) → suits w (row i rows) ≡ true → i < length rows
  within w z i t = elim (cases_lt i (length rows)) [
    | inl l ↦ l
    | inr g ↦ absurd (both_ways (suits w (row i rows)) (ap (suits w) (get_or_past rows i free_row g) ∙ z) t)
  ]

  at_most_one : (w : Sought) → suits w free_row ≡ false
      → ((i j : ℕ) → i < length rows → suits w (row i rows) ≡ true → i ≢ j → j < length rows → suits w (row j rows) ≡ false) → AtMostOne w rows
  at_most_one w z other i j p q = elim (cases_eq i j) [
    | inl e ↦ e
    | inr n ↦ absurd (both_ways (suits w (row j rows)) (other i j (within w z i p) p n (within w z j q)) q)
  ]

  row-fits : (next i : ℕ) (kind : Kind) → (is_range_row kind ≡ true → bad_serial next (key_or kind 0) ≡ false) → one_of (kind_faults units rows i kind) ≡ false → row_fits units rows kind ≡ true
  row-fits next i Free g f = refl
  row-fits next i Global g f = refl
  row-fits next i (UnitRow u) g f = grind (arith, nat_tests)
  row-fits next i (RangeRow u s l k) g f = let h = g refl in grind (arith, nat_tests)

  module _ (i j : ℕ) (ne : i ≢ j) (l : j < length rows) where
    no_other : (n : ℕ) (kind : Kind) → one_of (kind_faults units rows i kind) ≡ false → unit_row_of n kind ≡ true → unit_row_of n (row j rows).kind ≡ false
    no_other n kind f t =
        let g : one_of (kind_faults units rows i (UnitRow n)) ≡ false = ap (λ k. one_of (kind_faults units rows i k)) (sym (unit-row-is n kind t)) ∙ f in
        absent (UnitRowOf n) i j (grind (arith, nat_tests)) ne l

    apart : (n block : ℕ) (kind : Kind) → one_of (kind_faults units rows i kind) ≡ false → range_over n block kind ≡ true → range_over n block (row j rows).kind ≡ false
    apart n block kind f t =
        let p = over-parts n block kind t in
        let g : one_of (kind_faults units rows i (RangeRow n p.0 p.1 p.2)) ≡ false = ap (λ k. one_of (kind_faults units rows i k)) (sym p.3) ∙ f in
        over-apart n p.0 p.1 block (row j rows).kind (and_parts (eqb n n) _ (ap (range_over n block) (sym p.3) ∙ t)).1 (absent (RangeSharing n p.0 p.1) i j (grind (arith, nat_tests)) ne l)

  pub rows-sound : (bounds : Bounds) (next : ℕ) → length rows ≡ 17 → GoodRows bounds next rows
      → list_any (λ entry. one_of (kind_faults units rows entry.0 entry.1.kind)) (numbered rows) ≡ false → SoundRows units rows
  rows-sound bounds next long good none =
      let sound = none_at (λ (entry : ℕ × Row). one_of (kind_faults units rows entry.0 entry.1.kind)) rows free_row none in
      record {
        seventeen = long;
        global = (good 0).global refl;
        others = λ r. (good r).others;
        blanks = λ r. (good r).blanks;
        each = λ i. elim (cases_lt i (length rows)) [
          | inl l ↦ row-fits next i (row i rows).kind (good i).given (sound i l)
          | inr g ↦ ap (λ (x : Row). row_fits units rows x.kind) (get_or_past rows i free_row g)
        ];
        unit_rows = λ n. at_most_one (UnitRowOf n) refl (λ i j l t ne m. no_other i j ne m n (row i rows).kind (sound i l) t);
        ranges = λ n block. at_most_one (RangeOver n block) refl (λ i j l t ne m. apart i j ne m n block (row i rows).kind (sound i l) t);
      }

  -- ---- rows in order have no faults
  shared-block : (n start len : ℕ) (kind : Kind) → range_sharing n start len kind ≡ true → (block : ℕ) × (covers start len block ≡ true) × (range_over n block kind ≡ true)
  shared-block n start len Free t = absurd (true≢false (sym t))
  shared-block n start len Global t = absurd (true≢false (sym t))
  shared-block n start len (UnitRow u) t = absurd (true≢false (sym t))
  shared-block n start len (RangeRow u s q k) t =
      let p = and_parts (eqb u n) (shares s q start len) t in
      let c = (sharing-is-a-common-block s q start len).0 p.1 in
      (c.0, c.2, and_from (eqb u n) (covers s q c.0) p.0 c.1)

  module _ (h : SoundRows units rows) where
    no-fault : (i : ℕ) (kind : Kind) → (row i rows).kind ≡ kind → row_fits units rows kind ≡ true → one_of (kind_faults units rows i kind) ≡ false
    no-fault i Free e f = refl
    no-fault i Global e f = refl
    no-fault i (UnitRow u) e f =
        let only : is_there (UnitRowOf u) (other_rows rows i) ≡ false = false_from_ne_true _ (λ t.
        let p = elsewhere (UnitRowOf u) i refl t in
        p.1 (h.unit_rows u i p.0 (ap (unit_row_of u) e ∙ eq-eqb u u refl) p.2)) in
        grind (arith, nat_tests)
    no-fault i (RangeRow u s q k) e f =
        let only : is_there (RangeSharing u s q) (other_rows rows i) ≡ false = false_from_ne_true _ (λ t.
        let p = elsewhere (RangeSharing u s q) i refl t in
        let b = shared-block u s q (row p.0 rows).kind p.2 in
        p.1 (h.ranges u b.0 i p.0 (ap (range_over u b.0) e ∙ and_from (eqb u u) (covers s q b.0) (eq-eqb u u refl) b.1) b.2)) in
        grind (arith, nat_tests)

    pub rows-no-faults : list_any (λ entry. one_of (kind_faults units rows entry.0 entry.1.kind)) (numbered rows) ≡ false
    rows-no-faults = none_from (λ (entry : ℕ × Row). one_of (kind_faults units rows entry.0 entry.1.kind)) rows free_row (λ i l. no-fault i (row i rows).kind refl (h.each i))
