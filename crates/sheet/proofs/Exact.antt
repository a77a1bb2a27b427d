-- The format is exact: a saved sheet loads, as the drive that was saved, and a sheet that loads is the one that its drive saves.
use Rattle.std.proofs.Common.{◌≡◌, ℕ, true, false, not, List, None, length, map, sym, refl, ap, ◌∙◌, subst, arith}
use Rattle.std.proofs.lemmas.Bool.{not-false, not_from_true, or_parts, or_from}
use Rattle.std.proofs.lemmas.List.{length-map}
use Rattle.std.proofs.lemmas.List.FromFn.{length-enumerate_from}
use Rattle.std.specs.List.{enumerate_from, list_any}
use Rattle.vault.specs.Meaning.{Meaning, sound}
use Rattle.vault.proofs.Checks.{Passed, all-passed, none-applies}
use Rattle.rules.specs.declared.numbering.Bounds.{Bounds}
use Rattle.rules.specs.Drive.{Drive}
use Rattle.rules.specs.Rows.{row}
use Rattle.rules.specs.Sound.{Sound, serials}
use Rattle.rules.specs.Units.{valid}
use Rattle.fields.specs.Fields.{IsBytes}
use Rattle.fields.proofs.Bytes.{number_at-lt}
use Rattle.sheet.specs.declared.records.Header.{Header}
use Rattle.sheet.specs.declared.records.RowRecord.{RowRecord}
use Rattle.sheet.specs.Format.{Fits, header_of, laid_down, rows_offset, rows_on, total_beside, units_on}
use Rattle.sheet.specs.Loading.{drive_on, header_is_faulty, holds_just, load_checks, load_refusal, one_of, records_are_faulty, relations_are_faulty, row_faults, row_said, rows_said, unit_faults}
use Rattle.sheet.specs.Promises.{IsSheetOf}
use Rattle.sheet.specs.Saving.{header_for, mask_of, record_of, sheet}
use Rattle.sheet.proofs.Headers.{HeaderInOrder, header-in-order, no-header-faults, policy-from}
use Rattle.sheet.proofs.Layers.{header-back, units-back, rows-back, bytes-back}
use Rattle.sheet.proofs.Lengths.{length-rows_on, length-units_on}
use Rattle.sheet.proofs.Masks.{mask-back, mask-bit}
use Rattle.sheet.proofs.RowLists as lists
use Rattle.sheet.proofs.RowLists.{Masked}
use Rattle.sheet.proofs.Relations.{good-rows}
use Rattle.sheet.proofs.SoundDrives.{Faultless, drive-sound, drive-no-faults}
use Rattle.sheet.proofs.Widths.{order, header-fit, units-fit, rows-fit}

-- ---- a drive in order, on its sheet
module _ (d : Drive) (h : Sound d) (fits : Fits d.numbering) where
  abbrev bounds : Bounds
  bounds = d.numbering

  abbrev records : List RowRecord
  records = map (record_of bounds) d.rows

  abbrev s : List ℕ
  s = sheet d

  header-said : header_of s ≡ header_for d
  unfolding sheet
  header-said = header-back (header_for d) d.units records (header-fit d h fits)

  units-said : units_on s ≡ d.units
  unfolding sheet
  units-said = units-back (header_for d) d.units records (header-fit d h fits) refl (units-fit d h fits)

  rows-said : rows_on s ≡ records
  unfolding sheet
  rows-said = rows-back (header_for d) d.units records (header-fit d h fits) refl (length-map d.rows (record_of bounds) ∙ h.rows.seventeen) (rows-fit d h fits)

  module _ (apart : valid bounds bounds.mark ≡ false) where
    found : Faultless d
    found = drive-no-faults d h

    -- the rows are read back from their records, which have no faults
    rows-kept : (rows_said bounds (mask_of d.rows) records ≡ d.rows) × (list_any (λ entry. one_of (row_faults bounds d.next entry.0 entry.1)) (enumerate_from 0 records) ≡ false)
    rows-kept = lists.rows-back bounds d.next (mask_of d.rows) apart 0 d.rows (λ i k e l.
        let same : k ≡ i = omega arith in
        subst (λ j. Masked bounds d.next (mask_of d.rows) j (row k d.rows)) same (found.rows k, mask-bit d.rows k l))

    drive-back : drive_on bounds d.vault s ≡ d
    drive-back =
        let rows = (λ i. rows_said bounds (header-said i).mask (rows-said i)) ∙ rows-kept.0 in
        λ i. record { closed = sym h.usable i; numbering = bounds; units = units-said i; rows = rows i; next = (header-said i).next; policy = (header-said i).policy; vault = d.vault }

    loads : load_refusal bounds d.vault s ≡ None
    unfolding header_is_faulty records_are_faulty relations_are_faulty
    loads =
        let header = ap (λ x. header_is_faulty bounds (length s) x) header-said ∙ no-header-faults bounds (length s) (header_for d) (order d h fits) in
        let fields = (λ i. records_are_faulty bounds (header-said i).next (units-said i) (rows-said i)) ∙ or_from _ _ found.units rows-kept.1 in
        let relations = ap (λ (x : Drive). relations_are_faulty x.units x.rows) drive-back ∙ found.relations in
        let keys = ap (λ (x : Drive). not (holds_just (serials x.units x.rows) x.vault)) drive-back ∙ not_from_true _ found.just in
        none-applies (load_checks bounds d.vault s) (not_from_true _ h.capacity, (header, (fields, (relations, (keys, tt)))))

-- a saved sheet loads, as the drive that was saved
pub saved-loads : (bounds : Bounds) → Fits bounds → valid bounds bounds.mark ≡ false → (vault : Meaning) (s : List ℕ) (d : Drive) → IsSheetOf bounds vault s d
    → (load_refusal bounds vault s ≡ None) × (drive_on bounds vault s ≡ d)
saved-loads bounds fits apart vault s d h =
    rw (sym h.numbered, sym h.over, h.written) (loads d h.sound (rw h.numbered fits) (rw h.numbered apart), drive-back d h.sound (rw h.numbered fits) (rw h.numbered apart))

-- ---- a sheet that loads
module _ (bounds : Bounds) (vault : Meaning) (ok : sound vault ≡ true) (s : List ℕ) (bytes : IsBytes s) (e : load_refusal bounds vault s ≡ None) where
  abbrev read : Drive
  read = drive_on bounds vault s

  abbrev header : Header
  header = header_of s

  passed : Passed (load_checks bounds vault s)
  passed = all-passed (load_checks bounds vault s) e

  in-order : HeaderInOrder bounds (length s) header
  unfolding header_is_faulty
  in-order = header-in-order bounds (length s) header passed.1.0

  no-record-faults : (list_any (λ u. one_of (unit_faults bounds header.next u)) read.units ≡ false) × (list_any (λ entry. one_of (row_faults bounds header.next entry.0 entry.1)) (enumerate_from 0 (rows_on s)) ≡ false)
  unfolding records_are_faulty
  no-record-faults = or_parts _ _ passed.1.1.0

  masked : mask_of read.rows ≡ header.mask
  masked = mask-back bounds header.mask (rows_on s) (length-rows_on s) in-order.mask

  long : length read.rows ≡ length (rows_on s)
  long = length-map (enumerate_from 0 (rows_on s)) (λ (entry : ℕ × RowRecord). row_said bounds header.mask entry.0 entry.1) ∙ length-enumerate_from 0 (rows_on s)

  found-read : Faultless read
  unfolding relations_are_faulty
  found-read = record {
    usable = refl;
    capacity = not-false _ passed.0;
    next = let o = in-order in let l = number_at-lt 20 4 s bytes in (omega arith, omega arith);
    policy = policy-from read.rows header.policy in-order.policy (λ z. rw masked (in-order.singles z));
    few = let o = in-order in omega (arith, length-units_on s);
    seventeen = long ∙ length-rows_on s;
    units = no-record-faults.0;
    rows = good-rows bounds header.next read.rows (omega (arith, long, length-rows_on s)) (λ i l. lists.rows-in-order bounds header.next header.mask 0 (rows_on s) no-record-faults.1 i i (omega arith) (omega (arith, long)));
    relations = passed.1.1.1.0;
    just = not-false _ passed.1.1.1.1.0;
    meaning = ok;
  }

  header-kept : header_for read ≡ header
  header-kept =
      let o = in-order in
      let n = length-units_on s in
      λ i. record {
        form = sym o.form i;
        numbering = sym o.numbering i;
        unit_count = n i;
        row_count = sym o.row_count i;
        units_at = sym o.units_at i;
        rows_at = (ap rows_offset n ∙ sym o.rows_at) i;
        total = (ap total_beside n ∙ sym o.total) i;
        next = header.next;
        mask = masked i;
        policy = header.policy;
        zero = sym o.zero i;
      }

  kept : sheet read ≡ s
  unfolding sheet
  kept =
      let records = lists.records-back bounds header.next header.mask 0 (rows_on s) no-record-faults.1 in
      (λ i. laid_down (header-kept i) (units_on s) (records i)) ∙ bytes-back s bytes (in-order.long ∙ in-order.total)

-- a sheet that loads is the one that its drive saves
pub loads-saved : (bounds : Bounds) (vault : Meaning) → sound vault ≡ true → (s : List ℕ) → IsBytes s → load_refusal bounds vault s ≡ None → IsSheetOf bounds vault s (drive_on bounds vault s)
loads-saved bounds vault ok s bytes e = record {
  sound = drive-sound (drive_on bounds vault s) (found-read bounds vault ok s bytes e);
  numbered = refl;
  over = refl;
  written = sym (kept bounds vault ok s bytes e);
}
