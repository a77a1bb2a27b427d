-- What follows of a drive that a sheet can describe: its ranges and its keys.
use Rattle.std.proofs.Common.{◌≡◌, ℕ, suc, ◌+◌, true, cond, eqb, ltb, List, [], ◌∷◌, ◌++◌, map, length, filter, sym, refl, ap, ◌∙◌, arith}
use Rattle.std.proofs.lemmas.Bool.Decides.{nat_tests}
use Rattle.std.proofs.lemmas.Bool.{and_parts, and_from, eq-eqb, leb-true}
use Rattle.std.specs.List.{AllByRecursion}
use Rattle.packed.proofs.Order.{length-insert}
use Rattle.vault.specs.Serials.{adds, collect}
use Rattle.vault.proofs.Requests.{room}
use Rattle.rules.specs.declared.numbering.Bounds.{Bounds}
use Rattle.rules.specs.declared.row.Kind.{Kind}
use Rattle.rules.specs.declared.row.Kind.TheVariants.{Free, Global, UnitRow, RangeRow}
use Rattle.rules.specs.declared.row.Row.{Row}
use Rattle.rules.specs.declared.row.Sought.TheVariants.{UnitRowOf}
use Rattle.rules.specs.declared.unit.LogicalUnit.{LogicalUnit}
use Rattle.rules.specs.Drive.{Drive, kind_of}
use Rattle.rules.specs.Laws.{RangesInOrder, range_rows, OneKeyEach}
use Rattle.rules.specs.Rows.{row, is_range_row, key_or, covers, unit_row_of, range_over}
use Rattle.rules.specs.Sound.{unit_fits, row_fits, serial_of, row_key, Sound}
use Rattle.rules.specs.Units.{valid}
use Rattle.rules.proofs.Blocks.{unit-row-is}
use Rattle.rules.proofs.Places.{key-held, key-different, key-owned}
use Rattle.rules.proofs.RowsKept.{fits-exists, fits_under, fits-inside, fits-key}
use Rattle.rules.proofs.Searches.{at_there}

module _ (d : Drive) (h : Sound d) where
  range-fits-at : (r n start len serial : ℕ) → kind_of d r ≡ RangeRow n start len serial → row_fits d.units d.rows (RangeRow n start len serial) ≡ true
  range-fits-at r n start len serial e = ap (row_fits d.units d.rows) (sym e) ∙ h.rows.each r

  over : (r n start len serial block : ℕ) → kind_of d r ≡ RangeRow n start len serial → covers start len block ≡ true → range_over n block (kind_of d r) ≡ true
  over r n start len serial block e c = ap (range_over n block) e ∙ and_from (eqb n n) _ (eq-eqb n n refl) c

  pub ranges-of : RangesInOrder d
  ranges-of = record {
    apart = λ i j n s l k t m q b e f c g. h.rows.ranges n b i j (over i n s l k b e c) (over j n t m q b f g);
    inside = λ r n s l k e. (fits-exists d.units d.rows n s l k (range-fits-at r n s l k e), leb-true _ _ (fits-inside d.units d.rows n s l k (range-fits-at r n s l k e)));
    under = λ r n s l k e.
        let p = at_there (UnitRowOf n) d.rows (fits_under d.units d.rows n s l k (range-fits-at r n s l k e)) in
        (p.0, omega (arith, p.1, h.rows.seventeen), unit-row-is n (kind_of d p.0) p.2, λ q f. h.rows.unit_rows n q p.0 (ap (unit_row_of n) f ∙ eq-eqb n n refl) p.2);
  }

-- ---- how many keys there are
length-words : (xs ys : List ℕ) → length (collect (xs ++ ys)) ≡ length (collect xs) + length (collect ys)
unfolding collect
length-words [] ys = omega arith
length-words (x ∷ xs) ys =
    let ih = length-words xs ys in
    let a = length-insert (λ y. y) x (collect (xs ++ ys)) in
    let b = length-insert (λ y. y) x (collect xs) in
    grind (arith, nat_tests)

length-unit-keys : (bounds : Bounds) (us : List LogicalUnit) → AllByRecursion (λ u. unit_fits bounds u ≡ true) us → length (collect (map serial_of us)) ≡ length us
unfolding collect
length-unit-keys bounds [] a = refl
length-unit-keys bounds (u ∷ us) a =
    let ih = length-unit-keys bounds us a.1 in
    let p = and_parts (valid bounds u.number) _ a.0 in
    let k = (and_parts _ (ltb 0 u.serial) p.1).1 in
    let b = length-insert (λ y. y) u.serial (collect (map serial_of us)) in
    grind (arith, nat_tests)

length-row-keys : (units : List LogicalUnit) (rows rs : List Row) → ((i : ℕ) → row_fits units rows (row i rs).kind ≡ true) → length (collect (map row_key rs)) ≡ length (filter (λ r. is_range_row r.kind) rs)
unfolding collect
length-row-keys units rows [] f = refl
length-row-keys units rows (r ∷ rs) f = go r.kind (f 0) (length-row-keys units rows rs (λ i. f (suc i)))
  where
    go : (kind : Kind) → row_fits units rows kind ≡ true → length (collect (map row_key rs)) ≡ length (filter (λ r. is_range_row r.kind) rs)
        → length (cond (eqb (key_or kind 0) 0) (collect (map row_key rs)) (adds (key_or kind 0) (collect (map row_key rs)))) ≡ length (cond (is_range_row kind) (r ∷ filter (λ r. is_range_row r.kind) rs) (filter (λ r. is_range_row r.kind) rs))
    go Free g ih = ih
    go Global g ih = ih
    go (UnitRow u) g ih = ih
    go (RangeRow u s l k) g ih =
        let p = fits-key units rows u s l k g in
        let b = length-insert (λ y. y) k (collect (map row_key rs)) in
        grind (arith, nat_tests)

pub keys_of : (d : Drive) → Sound d → OneKeyEach d
keys_of d h =
    let count : length d.vault.held ≡ length d.units + range_rows d =
    ap length h.keys.held ∙ length-words (map serial_of d.units) (map row_key d.rows)
    ∙ omega (arith, length-unit-keys d.numbering d.units h.units.each, length-row-keys d.units d.rows d.rows h.rows.each) in
    let fits = room d.vault h.keys.meaning in
    record {
      held = key-held d h;
      different = key-different d h;
      nothing_else = key-owned d h;
      counted = count;
      in_all = omega arith;
    }
