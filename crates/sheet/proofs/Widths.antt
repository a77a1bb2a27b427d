-- The numbers of a drive in order fit their widths on its sheet.
use Rattle.std.proofs.Common.{◌≡◌, ℕ, ◌+◌, ◌^◌, ◌<◌, ◌≤◌, Bool, true, false, List, length, map, get_or, refl, subst, arith}
use Rattle.std.proofs.lemmas.Bool.Decides.{nat_tests}
use Rattle.std.proofs.lemmas.List.Elements.{All-map, All-from_get_or, All-from_recursion, recursion_from_All}
use Rattle.std.specs.List.{AllByRecursion}
use Rattle.rules.specs.declared.numbering.Bounds.{Bounds}
use Rattle.rules.specs.declared.row.Kind.{Kind}
use Rattle.rules.specs.declared.row.Kind.TheVariants.{Free, Global, UnitRow, RangeRow}
use Rattle.rules.specs.declared.row.Row.{Row}
use Rattle.rules.specs.declared.unit.LogicalUnit.{LogicalUnit}
use Rattle.rules.specs.Drive.{Drive}
use Rattle.rules.specs.Rows.{free_row, row, key_or}
use Rattle.rules.specs.Sound.{Sound, unit_fits, row_fits, row_key}
use Rattle.rules.specs.Units.{exists, unit}
use Rattle.rules.proofs.RowsKept.{fits-exists, fits-inside}
use Rattle.sheet.specs.declared.records.RowRecord.{RowRecord}
use Rattle.sheet.specs.Format.{Fits, header_fields, row_fields, unit_fields}
use Rattle.sheet.specs.Saving.{flag_bits, header_for, mask_of, number_with, record_of, sheet}
use Rattle.sheet.proofs.UnitChecks.{exists-fits, exists-valid}
use Rattle.sheet.proofs.Bits.{number-small}
use Rattle.sheet.proofs.Headers.{HeaderInOrder, policy-said}
use Rattle.sheet.proofs.Layers.{Fit}
use Rattle.sheet.proofs.Lengths.{length-sheet}
use Rattle.sheet.proofs.Masks.{mask-small}
use Rattle.sheet.proofs.SerialChecks.{units-given, key-below}
use Rattle.sheet.proofs.SoundDrives.{Faultless, drive-no-faults}

module _ (d : Drive) (h : Sound d) (fits : Fits d.numbering) where
  abbrev bounds : Bounds
  bounds = d.numbering

  abbrev records : List RowRecord
  records = map (record_of bounds) d.rows

  found : Faultless d
  found = drive-no-faults d h

  -- ---- its header
  pub order : HeaderInOrder bounds (length (sheet d)) (header_for d)
  order =
      let p = policy-said d.rows d.policy h.policy in
      record {
        form = refl;
        numbering = refl;
        few = h.units.few;
        row_count = refl;
        units_at = refl;
        rows_at = refl;
        total = refl;
        long = length-sheet d h.rows.seventeen;
        next = h.next.0;
        mask = subst (λ n. mask_of d.rows < 2 ^ n) h.rows.seventeen (mask-small d.rows);
        policy = p.0;
        singles = p.1;
        zero = refl;
      }

  pub header-fit : Fit (header_fields (header_for d))
  header-fit =
      let o = order in
      (omega arith, (omega arith, (omega arith, (omega arith, (omega arith, (omega arith, (omega arith, (omega arith, (omega arith, (omega arith, (omega arith, tt)))))))))))

  -- ---- its units
  unit-fit : (u : LogicalUnit) → unit_fits bounds u ≡ true → u.serial < d.next → Fit (unit_fields u)
  unit-fit u f l =
      let n : u.number ≤ bounds.last = grind (arith, nat_tests) in
      let b : u.blocks ≤ 2 ^ 48 = grind (arith, nat_tests) in
      (omega arith, (omega arith, (omega arith, tt)))

  pub units-fit : AllByRecursion (λ u. Fit (unit_fields u)) d.units
  units-fit = recursion_from_All (λ u. Fit (unit_fields u)) d.units (λ i e l. unit-fit (get_or d.units i e) (All-from_recursion (λ u. unit_fits bounds u ≡ true) d.units h.units.each i e l) (units-given d h i e l))

  -- ---- its rows
  row-fit : (r : Row) → row_fits d.units d.rows r.kind ≡ true → row_key r < d.next → Fit (row_fields (record_of bounds r))
  row-fit r = go r.kind
    where
      numbers : (unit serial start len : ℕ) (is_unit_row : Bool) → unit ≤ 4294967295 → serial < d.next → start + len ≤ 2 ^ 48
          → Fit (row_fields (record { unit = unit; serial = serial; start = start; length = len; flags = number_with (flag_bits r.flags is_unit_row); zeros = 0 }))
      numbers unit serial start len is_unit_row u s l =
          let w = number-small (flag_bits r.flags is_unit_row) in
          (omega arith, (omega arith, (omega arith, (omega arith, (omega arith, (omega arith, tt))))))

      number : (n : ℕ) → exists n d.units ≡ true → n ≤ 4294967295
      number n e = let v = exists-valid bounds d.next d.units h.units n e in grind (arith, nat_tests)

      go : (kind : Kind) → row_fits d.units d.rows kind ≡ true → key_or kind 0 < d.next → Fit (row_fields (record_of bounds (record r { kind = kind })))
      go Free f k = numbers bounds.mark 0 0 0 false (omega arith) k (omega arith)
      go Global f k = numbers bounds.mark 0 0 0 false (omega arith) k (omega arith)
      go (UnitRow u) f k = numbers u 0 0 0 true (number u f) k (omega arith)
      go (RangeRow u s l x) f k =
          let e = fits-exists d.units d.rows u s l x f in
          let whole = exists-fits bounds d.next d.units h.units u e in
          let inside = fits-inside d.units d.rows u s l x f in
          numbers u x s l false (number u e) k (grind (arith, nat_tests))

  pub rows-fit : AllByRecursion (λ r. Fit (row_fields r)) records
  rows-fit = recursion_from_All (λ r. Fit (row_fields r)) records (All-map (λ r. Fit (row_fields r)) (record_of bounds) d.rows (All-from_get_or (λ r. Fit (row_fields (record_of bounds r))) d.rows free_row (λ i l.
      row-fit (row i d.rows) (h.rows.each i) (key-below d.next (row i d.rows) h.next.0 (found.rows i).given))))
