-- Fresh keys are given in order, each to another holder.
use Rattle.std.proofs.Common.{◌≡◌, ℕ, zero, suc, ◌+◌, ◌<◌, ◌≤◌, true, false, eqb, leb, ◌≢◌, ◌⊎◌, List, [], ◌∷◌, map, length, get_or, sym, refl, ap, ◌∙◌, subst, inl, inr, arith}
use Rattle.std.proofs.ByRecursion.{All-weaker, All-map}
use Rattle.std.proofs.lemmas.Bool.Decides.{nat_tests}
use Rattle.std.proofs.lemmas.Bool.{cases_eq, both_ways, true≢false, and_parts, leb-true, eq-eqb, ne_eqb, cond-true, cond-false}
use Rattle.std.specs.List.{AllByRecursion}
use Rattle.packed.specs.Rising.{rises, has}
use Rattle.rules.specs.declared.row.Kind.{Kind}
use Rattle.rules.specs.declared.row.Kind.TheVariants.{Free, Global, UnitRow, RangeRow}
use Rattle.rules.specs.declared.row.Row.{Row}
use Rattle.rules.specs.declared.row.Sought.{Sought}
use Rattle.rules.specs.declared.row.Sought.TheVariants.{RangeRowOf}
use Rattle.rules.specs.declared.unit.Holder.{Holder}
use Rattle.rules.specs.declared.unit.Holder.TheVariants.{TheUnit, TheRow}
use Rattle.rules.specs.declared.unit.LogicalUnit.{LogicalUnit}
use Rattle.rules.specs.Drive.{Drive, kind_of}
use Rattle.rules.specs.FreshKeys.{key_of, HasKey, fresh_key, fresh_keys, units_under_global, holders_of, unit_and_ranges, renewed_by}
use Rattle.rules.specs.Meanings.{KeyedInOrder, FreshKeysInOrder, FreshKeysRise}
use Rattle.rules.specs.Rows.{row, key_or, with_serial, suits, all_rows, range_row_of, has_unit_row}
use Rattle.rules.specs.Sound.{Sound}
use Rattle.rules.specs.Units.{exists}
use Rattle.rules.proofs.Blocks.{Among, under-by, under-global}
use Rattle.rules.proofs.Lookups.{has-from}
use Rattle.rules.proofs.Places.{range-parts, range-within}
use Rattle.rules.proofs.Renewals.{range-row-is, fresh-next, keyed-serial, rekeyed_row, valid-kept, valid-of-row, valid-of-unit}
use Rattle.rules.proofs.Numbered.{all-by}
use Rattle.rules.proofs.Searches.{written, unwritten}

-- ---- one fresh key
own_key : (d : Drive) (holder : Holder) → HasKey d holder → key_of (fresh_key d holder) holder ≡ d.next
own_key d (TheUnit n) v = keyed-serial n d.next d.units n v ∙ cond-true (eqb n n) _ _ (eq-eqb n n refl)
own_key d (TheRow r) v =
    let q = range-parts (row r d.rows).kind v in
    ap (λ (x : Row). key_or x.kind 0) (written d.rows r (rekeyed_row d r) (range-within d.rows r v))
    ∙ ap (λ k. key_or (with_serial d.next k) 0) q.4

other_key : (d : Drive) (by other : Holder) → HasKey d other → by ≢ other → key_of (fresh_key d by) other ≡ key_of d other
other_key d (TheUnit k) (TheUnit n) v ne = keyed-serial k d.next d.units n v ∙ cond-false (eqb n k) _ _ (ne_eqb n k (λ e. ne (ap TheUnit (sym e))))
other_key d (TheUnit k) (TheRow r) v ne = refl
other_key d (TheRow q) (TheUnit n) v ne = refl
other_key d (TheRow q) (TheRow r) v ne = ap (λ (x : Row). key_or x.kind 0) (unwritten d.rows q (rekeyed_row d q) r (λ e. ne (ap TheRow (sym e))))

-- ---- lists in which nothing stands twice
abbrev NoRepeat : {A : Type 0} → List A → Type 0
NoRepeat [] = Unit {0}
NoRepeat (x ∷ xs) = AllByRecursion (λ y. y ≢ x) xs × NoRepeat xs

all_of : {A : Type 0} (P : A → Type 0) → ((x : A) → P x) → (xs : List A) → AllByRecursion P xs
all_of P f [] = tt
all_of P f (x ∷ xs) = (f x, all_of P f xs)

no-repeat-map : {A B : Type 0} (f : A → B) → ((x y : A) → f x ≡ f y → x ≡ y) → (xs : List A) → NoRepeat xs → NoRepeat (map f xs)
no-repeat-map f inj [] n = tt
no-repeat-map f inj (x ∷ xs) n = (All-map (λ y. y ≢ f x) f xs (All-weaker (λ y. y ≢ x) (λ y. f y ≢ f x) (λ y ne e. ne (inj y x e)) xs n.0), no-repeat-map f inj xs n.1)

-- ---- many fresh keys
renewed-other : (d : Drive) (holders : List Holder) (other : Holder) → HasKey d other → AllByRecursion (λ holder. holder ≢ other) holders → key_of (fresh_keys d holders) other ≡ key_of d other
unfolding fresh_keys
renewed-other d [] other v a = refl
renewed-other d (holder ∷ holders) other v a = renewed-other (fresh_key d holder) holders other (valid-kept d holder other v) a.1 ∙ other_key d holder other v a.0

renewed-each : (d : Drive) (holders : List Holder) → AllByRecursion (HasKey d) holders → NoRepeat holders → (i : ℕ) → i < length holders → key_of (fresh_keys d holders) (get_or holders i (TheUnit 0)) ≡ d.next + i
unfolding fresh_keys
renewed-each d [] v n i l = absurd (let b : ⊥ = omega arith in b)
renewed-each d (holder ∷ holders) v n zero l =
    renewed-other (fresh_key d holder) holders holder (valid-kept d holder holder v.0) n.0 ∙ own_key d holder v.0 ∙ (let e : d.next ≡ d.next + 0 = omega arith in e)
renewed-each d (holder ∷ holders) v n (suc i) l =
    renewed-each (fresh_key d holder) holders (All-weaker (HasKey d) (HasKey (fresh_key d holder)) (λ x. valid-kept d holder x) holders v.1) n.1 i (omega arith)
    ∙ (let e = fresh-next d holder in let f : (fresh_key d holder).next + i ≡ d.next + suc i = omega arith in f)

in_order : (d : Drive) (holders : List Holder) → AllByRecursion (HasKey d) holders → NoRepeat holders → KeyedInOrder d holders
in_order d holders v n = record { each = renewed-each d holders v n; others = λ other w a. renewed-other d holders other w a }

-- ---- what gets fresh keys stands in its list once
above : (rows : List Row) (m low : ℕ) (us : List LogicalUnit) → m < low → rises (λ u. u.number) low us ≡ true → AllByRecursion (λ y. y ≢ TheUnit m) (units_under_global rows us)
unfolding rises
above rows m low [] l r = tt
above rows m low (u ∷ us) l r =
    let p = and_parts (leb low u.number) _ r in
    let le = leb-true low u.number p.0 in
    let ne : TheUnit u.number ≢ TheUnit m = (λ e. let q : u.number ≡ m = cc in omega arith) in
    let later = above rows m (suc u.number) us (omega arith) p.1 in
    under-by rows u us (AllByRecursion (λ y. y ≢ TheUnit m)) (λ _. (ne, later)) (λ _. later)

units-once : (rows : List Row) (low : ℕ) (us : List LogicalUnit) → rises (λ u. u.number) low us ≡ true → NoRepeat (units_under_global rows us)
unfolding rises
units-once rows low [] r = tt
units-once rows low (u ∷ us) r =
    let p = and_parts (leb low u.number) _ r in
    let later = units-once rows (suc u.number) us p.1 in
    under-by rows u us NoRepeat (λ _. (above rows u.number (suc u.number) us (omega arith) p.1, later)) (λ _. later)

rows-once : (w : Sought) (rows : List Row) → NoRepeat (all_rows w rows)
unfolding all_rows
rows-once w [] = tt
rows-once w (x ∷ xs) =
    let later = no-repeat-map suc (λ a b e. omega arith) (all_rows w xs) (rows-once w xs) in
    all-by w x xs NoRepeat (λ _. (All-map (λ y. y ≢ 0) suc (all_rows w xs) (all_of (λ y. suc y ≢ 0) (λ y e. omega arith) (all_rows w xs)), later)) (λ _. later)

row-once : (d : Drive) → Sound d → (r : ℕ) (kind : Kind) → NoRepeat (holders_of d r kind)
row-once d h r Free = tt
row-once d h r Global = units-once d.rows 0 d.units h.units.ordered
row-once d h r (UnitRow u) = (tt, tt)
row-once d h r (RangeRow u s l k) = (tt, tt)

unit-once : (d : Drive) (n : ℕ) → NoRepeat (unit_and_ranges d n)
unit-once d n = (
  All-map (λ y. y ≢ TheUnit n) TheRow (all_rows (RangeRowOf n) d.rows) (all_of (λ r. TheRow r ≢ TheUnit n) (λ r e. cc) (all_rows (RangeRowOf n) d.rows)),
  no-repeat-map TheRow (λ a b e. cc) (all_rows (RangeRowOf n) d.rows) (rows-once (RangeRowOf n) d.rows),
)

pub fresh-keys-in-order : FreshKeysInOrder
fresh-keys-in-order d h = (
  (λ r. in_order d (holders_of d r (kind_of d r)) (valid-of-row d h r (kind_of d r) refl) (row-once d h r (kind_of d r))),
  (λ n ex. in_order d (unit_and_ranges d n) (valid-of-unit d n ex) (unit-once d n)),
)

-- ---- one stands before the other
abbrev Before : {A : Type 0} → A → A → List A → Type 0
Before x y [] = ⊥
Before x y (z ∷ zs) = ((z ≡ x) × Among y zs) ⊎ Before x y zs

among-map : {A B : Type 0} (f : A → B) (x : A) (xs : List A) → Among x xs → Among (f x) (map f xs)
among-map f x [] m = m
among-map f x (y ∷ ys) m = elim m [ inl e ↦ inl (ap f e) | inr n ↦ inr (among-map f x ys n) ]

before-map : {A B : Type 0} (f : A → B) (x y : A) (xs : List A) → Before x y xs → Before (f x) (f y) (map f xs)
before-map f x y [] b = b
before-map f x y (z ∷ zs) b = elim b [ inl p ↦ inl (ap f p.0, among-map f y zs p.1) | inr c ↦ inr (before-map f x y zs c) ]

place-among : (x : Holder) (xs : List Holder) → Among x xs → (i : ℕ) × (i < length xs) × (get_or xs i (TheUnit 0) ≡ x)
place-among x [] m = absurd m
place-among x (y ∷ ys) m = elim m [
  | inl e ↦ (0, omega arith, e)
  | inr n ↦ let p = place-among x ys n in (suc p.0, omega (arith, p.1), p.2)
]

-- one of those that get fresh keys has one
pub renewed-key : (d : Drive) (holders : List Holder) → KeyedInOrder d holders → (x : Holder) → Among x holders → d.next ≤ key_of (fresh_keys d holders) x
renewed-key d holders k x m = let p = place-among x holders m in omega (arith, ap (key_of (fresh_keys d holders)) (sym p.2) ∙ k.each p.0 p.1)

places : (x y : Holder) (xs : List Holder) → Before x y xs → (i j : ℕ) × (i < j) × (j < length xs) × (get_or xs i (TheUnit 0) ≡ x) × (get_or xs j (TheUnit 0) ≡ y)
places x y [] b = absurd b
places x y (z ∷ zs) b = elim b [
  | inl p ↦ let q = place-among y zs p.1 in (0, suc q.0, omega arith, omega (arith, q.1), p.0, q.2)
  | inr c ↦ let p = places x y zs c in (suc p.0, suc p.1, omega (arith, p.2), omega (arith, p.3), p.4, p.5)
]

-- the one that stands before the other gets the lower serial
lower : (d : Drive) (holders : List Holder) → KeyedInOrder d holders → (x y : Holder) → Before x y holders → key_of (fresh_keys d holders) x < key_of (fresh_keys d holders) y
lower d holders k x y b =
    let p = places x y holders b in
    let kx : key_of (fresh_keys d holders) x ≡ d.next + p.0 = ap (key_of (fresh_keys d holders)) (sym p.4) ∙ k.each p.0 (omega (arith, p.2, p.3)) in
    let ky : key_of (fresh_keys d holders) y ≡ d.next + p.1 = ap (key_of (fresh_keys d holders)) (sym p.5) ∙ k.each p.1 p.3 in
    omega (arith, p.2)

units-before : (rows : List Row) (a b low : ℕ) (us : List LogicalUnit) → rises (λ u. u.number) low us ≡ true → exists a us ≡ true → has_unit_row a rows ≡ false → exists b us ≡ true → has_unit_row b rows ≡ false → a < b
    → Before (TheUnit a) (TheUnit b) (units_under_global rows us)
unfolding has rises
units-before rows a b low [] r xa na xb nb l = absurd (true≢false (sym xa))
units-before rows a b low (u ∷ us) r xa na xb nb l =
    let up = (and_parts (leb low u.number) _ r).1 in
    elim (cases_eq u.number a) [
      | inl e ↦
          let later : exists b us ≡ true = grind (arith, nat_tests) in
          under-by rows u us (Before (TheUnit a) (TheUnit b)) (λ _. inl (ap TheUnit e, under-global rows us b later nb))
          (λ t. absurd (both_ways (has_unit_row a rows) na (ap (λ k. has_unit_row k rows) (sym e) ∙ t)))
      | inr other ↦
          let xa' : exists a us ≡ true = grind (arith, nat_tests) in
          let high = has-from (λ (v : LogicalUnit). v.number) a (suc u.number) us up xa' in
          let xb' : exists b us ≡ true = grind (arith, nat_tests) in
          let later = units-before rows a b (suc u.number) us up xa' na xb' nb l in
          under-by rows u us (Before (TheUnit a) (TheUnit b)) (λ _. inr later) (λ _. later)
    ]

all-among : (w : Sought) (rows : List Row) (r : ℕ) → r < length rows → suits w (row r rows) ≡ true → Among r (all_rows w rows)
all-among w [] r l s = absurd (let y : ⊥ = omega arith in y)
all-among w (x ∷ xs) zero l s = all-by w x xs (Among 0) (λ _. inl refl) (λ f. absurd (both_ways (suits w x) f s))
all-among w (x ∷ xs) (suc r) l s =
    let later = among-map suc r (all_rows w xs) (all-among w xs r (omega arith) s) in
    all-by w x xs (Among (suc r)) (λ _. inr later) (λ _. later)

rows-before : (w : Sought) (rows : List Row) (q r : ℕ) → q < r → r < length rows → suits w (row q rows) ≡ true → suits w (row r rows) ≡ true → Before q r (all_rows w rows)
rows-before w [] q r l m s t = absurd (let y : ⊥ = omega arith in y)
rows-before w (x ∷ xs) q zero l m s t = absurd (let y : ⊥ = omega arith in y)
rows-before w (x ∷ xs) zero (suc r) l m s t =
    all-by w x xs (Before 0 (suc r)) (λ _. inl (refl, among-map suc r (all_rows w xs) (all-among w xs r (omega arith) t))) (λ f. absurd (both_ways (suits w x) f s))
rows-before w (x ∷ xs) (suc q) (suc r) l m s t =
    let later = before-map suc q r (all_rows w xs) (rows-before w xs q r (omega arith) (omega arith) s t) in
    all-by w x xs (Before (suc q) (suc r)) (λ _. inr later) (λ _. later)

pub fresh-keys-rise : FreshKeysRise
fresh-keys-rise d h = record {
  units = λ a b xa na xb nb l. lower d (renewed_by d 0) ((fresh-keys-in-order d h).0 0) (TheUnit a) (TheUnit b)
      (subst (λ k. Before (TheUnit a) (TheUnit b) (holders_of d 0 k)) (sym h.rows.global) (units-before d.rows a b 0 d.units h.units.ordered xa na xb nb l));
  unit_first = λ n r ex s. lower d (unit_and_ranges d n) (formatting n ex) (TheUnit n) (TheRow r) (inl (refl, among-map TheRow r (all_rows (RangeRowOf n) d.rows) (all-among (RangeRowOf n) d.rows r (there n r s) s)));
  rows = λ n q r ex s t l. lower d (unit_and_ranges d n) (formatting n ex) (TheRow q) (TheRow r) (inr (before-map TheRow q r (all_rows (RangeRowOf n) d.rows) (rows-before (RangeRowOf n) d.rows q r l (there n r t) s t)));
}
  where
    formatting : (n : ℕ) → exists n d.units ≡ true → KeyedInOrder d (unit_and_ranges d n)
    formatting n ex = (fresh-keys-in-order d h).1 n ex

    there : (n r : ℕ) → range_row_of n (kind_of d r) ≡ true → r < length d.rows
    there n r s = range-within d.rows r (range-row-is n (kind_of d r) s)
