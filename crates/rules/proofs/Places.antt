-- The keys of a drive: each unit and each range row has one, of its own, in a place among the serials and in the vault, and nothing else has one.
use Rattle.std.proofs.Common.{◌≡◌, ℕ, ◌+◌, ◌-◌, ◌<◌, List, ◌++◌, map, length, get_or, set, sym, ap, ◌∙◌, arith, true, ltb, Option, unwrap_or, refl, inl, inr, zero, suc, not, ◌&&◌, eqb, [], ◌∷◌, is_some}
use Rattle.std.proofs.lemmas.List.{length-map, length-append, map-set, set-append_left, set-append_right, get_or_append_left, get_or-append_right, get_or-map, get_or_past}
use Rattle.std.proofs.lemmas.Bool.{cases_lt, both_ways, and_parts, ltb-true, true≢false, ne_eqb}
use Rattle.std.proofs.lemmas.Bool.Decides.{nat_tests}
use Rattle.packed.proofs.Order.{has-lookup}
use Rattle.vault.specs.Serials.{holds, distinct}
use Rattle.vault.proofs.Words.{holds-collect}
use Rattle.rules.specs.declared.row.Row.{Row}
use Rattle.rules.specs.declared.unit.LogicalUnit.{LogicalUnit}
use Rattle.rules.specs.declared.row.Kind.{Kind}
use Rattle.rules.specs.declared.row.Kind.TheVariants.{Free, Global, UnitRow, RangeRow}
use Rattle.rules.specs.declared.unit.Holder.{Holder}
use Rattle.rules.specs.declared.unit.Holder.TheVariants.{TheUnit, TheRow}
use Rattle.rules.specs.Rows.{free_row, row, is_range_row, key_or}
use Rattle.rules.specs.Sound.{serial_of, row_key, serials, Sound, unit_fits, row_fits}
use Rattle.rules.specs.Units.{no_unit, valid, exists, unit}
use Rattle.rules.specs.Drive.{Drive, kind_of}
use Rattle.rules.specs.FreshKeys.{key_of, HasKey}
use Rattle.rules.specs.Laws.{holds_key}
use Rattle.rules.proofs.Lookups.{place_of, all_lookup, lookup-at}
use Rattle.rules.proofs.RowsKept.{fits-key}
use Rattle.rules.proofs.Keys.{holds_at, word_held}

-- ---- the serials of the units and of the rows, as one list of words
module _ (units : List LogicalUnit) (rows : List Row) where
  size : length (map serial_of units) ≡ length units
  size = length-map units serial_of

  pub words_long : length (serials units rows) ≡ length units + length rows
  words_long = length-append (map serial_of units) (map row_key rows) ∙ omega (arith, length-map units serial_of, length-map rows row_key)

  module _ (i : ℕ) (l : i < length units) where
    pub unit-word : get_or (serials units rows) i 0 ≡ (get_or units i no_unit).serial
    unit-word = get_or_append_left (map serial_of units) (map row_key rows) 0 i (omega (arith, size)) ∙ get_or-map serial_of units i no_unit 0 l

    pub unit-written : (v : LogicalUnit) → serials (set units i v) rows ≡ set (serials units rows) i v.serial
    unit-written v = ap (λ us. us ++ map row_key rows) (map-set serial_of units i v) ∙ sym (set-append_left (map serial_of units) (map row_key rows) i v.serial (omega (arith, size)))

  module _ (r : ℕ) (l : r < length rows) where
    back : (length units + r) - length units ≡ r
    back = omega arith

    pub row_word : get_or (serials units rows) (length units + r) 0 ≡ row_key (row r rows)
    row_word =
        get_or-append_right (map serial_of units) (map row_key rows) (length units) (length units + r) 0 size (omega arith)
        ∙ ap (λ k. get_or (map row_key rows) k 0) back
        ∙ get_or-map row_key rows r free_row 0 l

    pub row_written : (x : Row) → serials units (set rows r x) ≡ set (serials units rows) (length units + r) (row_key x)
    row_written x =
        ap (λ ks. map serial_of units ++ ks) (map-set row_key rows r x)
        ∙ sym (set-append_right (map serial_of units) (map row_key rows) (length units) (length units + r) (row_key x) size (omega arith) ∙ ap (λ k. map serial_of units ++ set (map row_key rows) k (row_key x)) back)

-- ---- the place of a key: that of its unit, or of its range row
-- a kind that is a range row, by its parts
pub range-parts : (kind : Kind) → is_range_row kind ≡ true → (n start len serial : ℕ) × (kind ≡ RangeRow n start len serial)
range-parts Free h = absurd (true≢false (sym h))
range-parts Global h = absurd (true≢false (sym h))
range-parts (UnitRow u) h = absurd (true≢false (sym h))
range-parts (RangeRow u s l k) h = (u, s, l, k, refl)

-- a range row stands in the table
pub range-within : (rows : List Row) (r : ℕ) → is_range_row (row r rows).kind ≡ true → r < length rows
range-within rows r is = elim (cases_lt r (length rows)) [
  | inl l ↦ l
  | inr g ↦ absurd (both_ways (is_range_row (row r rows).kind) (ap (λ (x : Row). is_range_row x.kind) (get_or_past rows r free_row g)) is)
]

pub unit-key : (d : Drive) (n : ℕ) → Sound d → exists n d.units ≡ true → 0 < (unit n d.units).serial
unit-key d n h ex =
    let f : unit_fits d.numbering (unit n d.units) ≡ true = all_lookup (λ (u : LogicalUnit). u.number) (λ u. unit_fits d.numbering u ≡ true) n d.units no_unit ex h.units.each in
    let a = and_parts (valid d.numbering (unit n d.units).number) _ f in
    ltb-true 0 _ (and_parts _ (ltb 0 (unit n d.units).serial) a.1).1

module _ (d : Drive) (h : Sound d) where
  abbrev pub place : (holder : Holder) → HasKey d holder → (i : ℕ) × (i < length (serials d.units d.rows)) × (get_or (serials d.units d.rows) i 0 ≡ key_of d holder)
  place (TheUnit n) v =
      let p = place_of (λ (u : LogicalUnit). u.number) n d.units no_unit v in
      (p.0, omega (arith, p.2, words_long d.units d.rows), unit-word d.units d.rows p.0 p.2 ∙ sym (ap (λ (o : Option LogicalUnit). (unwrap_or o no_unit).serial) p.4))
  place (TheRow r) v =
      let l = range-within d.rows r v in
      (length d.units + r, omega (arith, l, words_long d.units d.rows), row_word d.units d.rows r l)

  pub key-nonzero : (holder : Holder) → HasKey d holder → key_of d holder ≡ 0 → ⊥
  key-nonzero (TheUnit n) v e = omega (arith, unit-key d n h v)
  key-nonzero (TheRow r) v e =
      let q = range-parts (kind_of d r) v in
      let k = ltb-true 0 q.3 (fits-key d.units d.rows q.0 q.1 q.2 q.3 (ap (row_fits d.units d.rows) (sym q.4) ∙ h.rows.each r)) in
      let z : q.3 ≡ 0 = sym (ap (λ kind. key_or kind 0) q.4) ∙ e in
      omega arith

-- ---- one key each
-- a word that is not 0 stands at one place
same-place : (xs : List ℕ) (i j : ℕ) → distinct xs ≡ true → i < length xs → j < length xs → get_or xs i 0 ≡ get_or xs j 0 → (get_or xs i 0 ≡ 0 → ⊥) → i ≡ j
unfolding distinct
same-place [] i j d l m e z = absurd (let b : ⊥ = omega arith in b)
same-place (x ∷ xs) zero zero d l m e z = refl
same-place (x ∷ xs) zero (suc j) d l m e z =
    let h : holds x xs ≡ true = ap (λ k. holds k xs) e ∙ holds_at xs j (omega arith) in
    let n = ne_eqb x 0 z in
    absurd (let b : ⊥ = grind (arith, nat_tests) in b)
same-place (x ∷ xs) (suc i) zero d l m e z =
    let h : holds x xs ≡ true = ap (λ k. holds k xs) (sym e) ∙ holds_at xs i (omega arith) in
    let n = ne_eqb x 0 (λ q. z (e ∙ q)) in
    absurd (let b : ⊥ = grind (arith, nat_tests) in b)
same-place (x ∷ xs) (suc i) (suc j) d l m e z = ap suc (same-place xs i j (and_parts _ (distinct xs) d).1 (omega arith) (omega arith) e z)

module _ (d : Drive) (h : Sound d) where
  abbrev words : List ℕ
  words = serials d.units d.rows

  abbrev number : LogicalUnit → ℕ
  number u = u.number

  -- ---- the vault holds it
  pub key-held : (holder : Holder) → HasKey d holder → holds_key d (key_of d holder) ≡ true
  key-held holder v = let p = place d h holder v in word_held d.next d.vault words h.keys p.0 (key_of d holder) p.1 p.2 (key-nonzero d h holder v)

  -- ---- it is no other's
  pub key-different : (one other : Holder) → HasKey d one → HasKey d other → key_of d one ≡ key_of d other → one ≡ other
  key-different one other v w e =
      let p = place d h one v in
      let q = place d h other w in
      apart one other v w (same-place words p.0 q.0 h.keys.apart p.1 q.1 (p.2 ∙ e ∙ sym q.2) (λ z. key-nonzero d h one v (sym p.2 ∙ z)))
    where
      apart : (one other : Holder) (v : HasKey d one) (w : HasKey d other) → (place d h one v).0 ≡ (place d h other w).0 → one ≡ other
      apart (TheUnit n) (TheUnit m) v w e = ap TheUnit (sym (place_of number n d.units no_unit v).3 ∙ ap (λ i. (get_or d.units i no_unit).number) e ∙ (place_of number m d.units no_unit w).3)
      apart (TheUnit n) (TheRow r) v w e = absurd (let l = (place_of number n d.units no_unit v).2 in let b : ⊥ = omega arith in b)
      apart (TheRow r) (TheUnit n) v w e = absurd (let l = (place_of number n d.units no_unit w).2 in let b : ⊥ = omega arith in b)
      apart (TheRow q) (TheRow r) v w e = ap TheRow (let s : q ≡ r = omega arith in s)

  -- ---- nothing else is held
  pub key-owned : (s : ℕ) → holds_key d s ≡ true → (holder : Holder) × HasKey d holder × (key_of d holder ≡ s)
  key-owned s held =
      let both : (not (eqb s 0) && holds s words) ≡ true = sym (holds-collect s words) ∙ sym (ap (holds s) h.keys.held) ∙ held in
      let parts = and_parts (not (eqb s 0)) (holds s words) both in
      let p = place_of (λ x. x) s words 0 parts.1 in
      elim (cases_lt p.0 (length d.units)) [
        | inl first ↦
            let u = get_or d.units p.0 no_unit in
            let found = lookup-at number 0 d.units p.0 no_unit h.units.ordered first in
            let there : exists u.number d.units ≡ true = sym (has-lookup number u.number d.units) ∙ ap is_some found in
            (TheUnit u.number, there, ap (λ (o : Option LogicalUnit). (unwrap_or o no_unit).serial) found ∙ sym (unit-word d.units d.rows p.0 first) ∙ p.3)
        | inr later ↦
            let r = p.0 - length d.units in
            let at : length d.units + r ≡ p.0 = omega arith in
            let lr : r < length d.rows = omega (arith, p.2, words_long d.units d.rows) in
            let key : key_or (kind_of d r) 0 ≡ s = sym (row_word d.units d.rows r lr) ∙ ap (λ i. get_or words i 0) at ∙ p.3 in
            (TheRow r, keyed (kind_of d r) (λ z. let e : s ≡ 0 = sym key ∙ z in let b : ⊥ = grind (arith, nat_tests) in b), key)
      ]
    where
      keyed : (kind : Kind) → (key_or kind 0 ≡ 0 → ⊥) → is_range_row kind ≡ true
      keyed Free z = absurd (z refl)
      keyed Global z = absurd (z refl)
      keyed (UnitRow u) z = absurd (z refl)
      keyed (RangeRow u a l k) z = refl
