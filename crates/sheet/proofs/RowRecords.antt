-- A row record with no faults, and a row as a drive in order has it: each is read back from the other.
use Rattle.std.proofs.Common.{◌≡◌, ℕ, ◌^◌, ◌<◌, Bool, true, false, cond, not, ◌||◌, eqb, leb, List, [], ◌∷◌, sym, refl, ap, ◌∙◌, inl, inr, arith}
use Rattle.std.proofs.lemmas.Bool.{cases_eq, both_ways, and_parts, and_from, or_parts, or_right, eqb-true, eqb-false, eq-eqb, ne_eqb, leb-false, lt-leb, not-false}
use Rattle.std.specs.List.{AllByRecursion}
use Rattle.rules.specs.declared.numbering.Bounds.{Bounds}
use Rattle.rules.specs.declared.row.Flags.{Flags}
use Rattle.rules.specs.declared.row.Kind.{Kind}
use Rattle.rules.specs.declared.row.Kind.TheVariants.{Free, Global, UnitRow, RangeRow}
use Rattle.rules.specs.declared.row.Row.{Row}
use Rattle.rules.specs.declared.row.Standing.{Standing}
use Rattle.rules.specs.declared.row.Standing.TheVariants.{Shared, SingleUser}
use Rattle.rules.specs.Methods.{selected}
use Rattle.rules.specs.Rows.{blank, is_free, is_a_unit_row, is_range_row, unit_or, key_or, is_single_user}
use Rattle.rules.specs.Sound.{is_global}
use Rattle.rules.specs.Units.{valid}
use Rattle.sheet.specs.declared.records.RowRecord.{RowRecord}
use Rattle.sheet.specs.Loading.{has_mark, has_unit_bit, flags_of, kind_said, row_said, one_of, bad_serial, row_faults}
use Rattle.sheet.specs.Saving.{number_with, flag_bits, record_of}
use Rattle.sheet.proofs.Bits.{number-small, flags-back, flags-read, unit-bit}

-- a row as a drive in order has it under this number
pub record RowInOrder (bounds : Bounds) (next i : ℕ) (kind : Kind) (flags : Flags) : Type 0 where
  pub global : i ≡ 0 → kind ≡ Global
  pub others : 0 < i → is_global kind ≡ false
  pub blanks : is_free kind ≡ true → flags ≡ blank
  pub given : is_range_row kind ≡ true → bad_serial next (key_or kind 0) ≡ false
  pub numbers : (is_a_unit_row kind || is_range_row kind) ≡ true → valid bounds (unit_or kind bounds.mark) ≡ true

-- none of the faults is the case
pub none-of : (faults : List Bool) → one_of faults ≡ false → AllByRecursion (λ fault. fault ≡ false) faults
none-of [] n = tt
none-of (f ∷ fs) n = let p = or_parts f (one_of fs) n in (p.0, none-of fs p.1)

-- a record is its six numbers
same-record : (r s : RowRecord) → r.unit ≡ s.unit → r.serial ≡ s.serial → r.start ≡ s.start → r.length ≡ s.length → r.flags ≡ s.flags → r.zeros ≡ s.zeros → r ≡ s
same-record r s a b c d e f = λ i. record { unit = a i; serial = b i; start = c i; length = d i; flags = e i; zeros = f i }

-- ---- from a record
module _ (bounds : Bounds) (next i : ℕ) (r : RowRecord) (none : one_of (row_faults bounds next i r) ≡ false) where
  fine : AllByRecursion (λ fault. fault ≡ false) (row_faults bounds next i r)
  fine = none-of (row_faults bounds next i r) none

  named : has_mark bounds r ≡ false → valid bounds r.unit ≡ true
  named m = not-false _ (rw m at fine.0)

  word : number_with (flag_bits (flags_of r.flags) (has_unit_bit r)) ≡ r.flags
  word = flags-back r.flags (leb-false (2 ^ 6) r.flags fine.1.0)

  zeros : 0 ≡ r.zeros
  zeros = sym (eqb-true r.zeros 0 (not-false _ fine.1.1.0))

  later : has_mark bounds r ≡ false → i ≡ 0 → ⊥
  later m e = both_ways _ fine.1.1.1.0 (and_from (eqb i 0) _ (eq-eqb i 0 e) (ap not m))

  free-blank : has_mark bounds r ≡ true → eqb i 0 ≡ false → flags_of r.flags ≡ blank
  free-blank m z = ap flags_of (eqb-true r.flags _ (not-false _ (rw (m, z) at fine.1.1.1.1.1.0))) ∙ flags-read blank false

  empty : (has_mark bounds r || has_unit_bit r) ≡ true → (0 ≡ r.serial) × (0 ≡ r.start) × (0 ≡ r.length)
  empty e =
      let p = and_parts (eqb r.serial 0) _ (not-false _ (rw e at fine.1.1.1.1.1.1.0)) in
      let q = and_parts (eqb r.start 0) _ p.1 in
      (sym (eqb-true r.serial 0 p.0), sym (eqb-true r.start 0 q.0), sym (eqb-true r.length 0 q.1))

  -- a row of this kind is written as the record, and is in order
  abbrev Said : Kind → Type 0
  Said kind = (record_of bounds (record { kind = kind; standing = Shared; flags = flags_of r.flags }) ≡ r) × RowInOrder bounds next i kind (flags_of r.flags)

  said : Said (kind_said bounds i r)
  said = go (has_mark bounds r) (eqb i 0) (has_unit_bit r) refl refl refl
    where
      unmarked : has_mark bounds r ≡ true → record { unit = bounds.mark; serial = 0; start = 0; length = 0; flags = number_with (flag_bits (flags_of r.flags) false); zeros = 0 } ≡ r
      unmarked m =
          let n = empty (ap (λ b. b || has_unit_bit r) m) in
          same-record _ r (sym (eqb-true r.unit bounds.mark m)) n.0 n.1 n.2 (rw (rw m at fine.1.1.1.1.0) at word) zeros

      go : (m z b : Bool) → has_mark bounds r ≡ m → eqb i 0 ≡ z → has_unit_bit r ≡ b → Said (cond m (cond z Global Free) (cond b (UnitRow r.unit) (RangeRow r.unit r.start r.length r.serial)))
      go true true b m z _ = (
        unmarked m,
        record {
          global = λ _. refl;
          others = λ l. absurd (let e = eqb-true i 0 z in omega arith);
          blanks = λ e. absurd cc;
          given = λ e. absurd cc;
          numbers = λ e. absurd cc;
        },
      )
      go true false b m z _ = (
        unmarked m,
        record {
          global = λ e. absurd (eqb-false i 0 z e);
          others = λ _. refl;
          blanks = λ _. free-blank m z;
          given = λ e. absurd cc;
          numbers = λ e. absurd cc;
        },
      )
      go false z true m _ b = (
        let n = empty (or_right _ _ b) in same-record _ r refl n.0 n.1 n.2 (rw b at word) zeros,
        record {
          global = λ e. absurd (later m e);
          others = λ _. refl;
          blanks = λ e. absurd cc;
          given = λ e. absurd cc;
          numbers = λ _. named m;
        },
      )
      go false z false m _ b = (
        same-record _ r refl refl refl refl (rw b at word) zeros,
        record {
          global = λ e. absurd (later m e);
          others = λ _. refl;
          blanks = λ e. absurd cc;
          given = λ _. rw (m, b) at fine.1.1.1.1.1.1.1.0;
          numbers = λ _. named m;
        },
      )

  pub record-back : (mask : ℕ) → record_of bounds (row_said bounds mask i r) ≡ r
  record-back mask = said.0

  pub row-in-order : RowInOrder bounds next i (kind_said bounds i r) (flags_of r.flags)
  row-in-order = said.1

-- ---- from a row
module _ (bounds : Bounds) (apart : valid bounds bounds.mark ≡ false) (next i : ℕ) where
  -- a unit's number is not the mark
  not-mark : (u : ℕ) → valid bounds u ≡ true → eqb u bounds.mark ≡ false
  not-mark u v = ne_eqb u bounds.mark (λ e. both_ways (valid bounds bounds.mark) apart (sym (ap (valid bounds) e) ∙ v))

  -- row 0 alone is the Global one
  first : (kind : Kind) (flags : Flags) → RowInOrder bounds next i kind flags → eqb i 0 ≡ is_global kind
  first kind flags h = elim (cases_eq i 0) [
    | inl e ↦ eq-eqb i 0 e ∙ sym (ap is_global (h.global e))
    | inr n ↦ ne_eqb i 0 n ∙ sym (h.others (omega arith))
  ]

  -- the record says the row's kind, and has no faults
  abbrev Kept : Row → Type 0
  Kept r = (kind_said bounds i (record_of bounds r) ≡ r.kind) × (one_of (row_faults bounds next i (record_of bounds r)) ≡ false)

  kept : (r : Row) → RowInOrder bounds next i r.kind r.flags → Kept r
  kept r = go r.kind
    where
      word : Bool → ℕ
      word b = number_with (flag_bits r.flags b)

      small : (b : Bool) → leb (2 ^ 6) (word b) ≡ false
      small b = lt-leb (2 ^ 6) (word b) (number-small (flag_bits r.flags b))

      marked : eqb bounds.mark bounds.mark ≡ true
      marked = eq-eqb bounds.mark bounds.mark refl

      go : (kind : Kind) → RowInOrder bounds next i kind r.flags → Kept (record r { kind = kind })
      go Free h =
          let z = first Free r.flags h in
          let e = eq-eqb (word false) _ (ap (λ f. number_with (flag_bits f false)) (h.blanks refl)) in
          (simp (marked, z), simp (marked, z, small false, unit-bit r.flags false, e))
      go Global h =
          let z = first Global r.flags h in
          (simp (marked, z), simp (marked, z, small false, unit-bit r.flags false))
      go (UnitRow u) h =
          let z = first (UnitRow u) r.flags h in
          let v = h.numbers refl in
          (simp (not-mark u v, unit-bit r.flags true), simp (not-mark u v, z, v, small true, unit-bit r.flags true))
      go (RangeRow u start length serial) h =
          let z = first (RangeRow u start length serial) r.flags h in
          let v = h.numbers refl in
          (simp (not-mark u v, unit-bit r.flags false), simp (not-mark u v, z, v, h.given refl, small false, unit-bit r.flags false))

  module _ (r : Row) (order : RowInOrder bounds next i r.kind r.flags) where
    pub row-back : (mask : ℕ) → selected mask i ≡ is_single_user r.standing → row_said bounds mask i (record_of bounds r) ≡ r
    row-back mask e = λ k. record { kind = (kept r order).0 k; standing = (ap (λ b. cond b SingleUser Shared) e ∙ go r.standing) k; flags = flags-read r.flags (is_a_unit_row r.kind) k }
      where
        go : (s : Standing) → cond (is_single_user s) SingleUser Shared ≡ s
        go Shared = refl
        go SingleUser = refl

    pub no-row-faults : one_of (row_faults bounds next i (record_of bounds r)) ≡ false
    no-row-faults = (kept r order).1
