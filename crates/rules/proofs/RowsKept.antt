-- When the rows are still in order.
use Rattle.std.proofs.Common.{◌≡◌, ℕ, zero, suc, ◌+◌, ◌<◌, Bool, true, false, ◌&&◌, ◌||◌, eqb, ltb, leb, ◌≢◌, List, [], ◌∷◌, length, get_or, set, is_some, sym, refl, ap, ◌∙◌, inl, inr, arith}
use Rattle.std.proofs.lemmas.Bool.Decides.{nat_tests}
use Rattle.std.proofs.lemmas.List.{length-set, get_or_past}
use Rattle.std.proofs.lemmas.List.Folds.{list_any_at}
use Rattle.std.specs.List.{All, list_any}
use Rattle.std.proofs.lemmas.Bool.{cases_Bool, cases_lt, both_ways, and_parts, and_from, eqb-true, true≢false, false_from_ne_true}
use Rattle.rules.specs.declared.row.Kind.{Kind}
use Rattle.rules.specs.declared.row.Kind.TheVariants.{Free, Global, UnitRow, RangeRow}
use Rattle.rules.specs.declared.row.Row.{Row}
use Rattle.rules.specs.declared.row.Sought.{Sought}
use Rattle.rules.specs.declared.row.Sought.TheVariants.{UnitRowOf, RangeOver}
use Rattle.rules.specs.declared.unit.LogicalUnit.{LogicalUnit}
use Rattle.rules.specs.Rows.{blank, free_row, row, is_free, covers, unit_row_of, range_over, range_sharing, suits, is_there}
use Rattle.rules.specs.Sound.{is_global, row_fits, AtMostOne, SoundRows}
use Rattle.rules.specs.Units.{exists, unit}
use Rattle.rules.proofs.Searches.{first-same, missed, not_there, there, there-kept, one_kept, each_row, unwritten}

-- ---- a test of every row
pub any_same : (test : Row → Bool) (xs ys : List Row) → length xs ≡ length ys → ((i : ℕ) → test (row i xs) ≡ test (row i ys)) → list_any test xs ≡ list_any test ys
any_same test [] [] n e = refl
any_same test [] (y ∷ ys) n e = absurd (let b : ⊥ = omega arith in b)
any_same test (x ∷ xs) [] n e = absurd (let b : ⊥ = omega arith in b)
any_same test (x ∷ xs) (y ∷ ys) n e = ap (λ b. b || list_any test xs) (e 0) ∙ ap (λ b. test y || b) (any_same test xs ys (omega arith) (λ i. e (suc i)))

pub none_passes : {X : Type 0} (test : X → Bool) (xs : List X) → list_any test xs ≡ false → All (λ x. test x ≡ false) xs
none_passes test xs f i d l = false_from_ne_true (test (get_or xs i d)) (λ t. both_ways (list_any test xs) f (list_any_at test xs i d l t))

-- ---- kinds and searches
-- a range that shares no block with another does not cover what that one covers
pub over-apart : (n start length block : ℕ) (kind : Kind) → covers start length block ≡ true → range_sharing n start length kind ≡ false → range_over n block kind ≡ false
over-apart n start length block Free c o = refl
over-apart n start length block Global c o = refl
over-apart n start length block (UnitRow u) c o = refl
over-apart n start length block (RangeRow u s l k) c o = grind (arith, nat_tests)

pub kind-free : (kind : Kind) → is_free kind ≡ true → kind ≡ Free
kind-free Free h = refl
kind-free Global h = absurd (true≢false (sym h))
kind-free (UnitRow u) h = absurd (true≢false (sym h))
kind-free (RangeRow u s l k) h = absurd (true≢false (sym h))

-- the parts of a range row that fits
module _ (units : List LogicalUnit) (rows : List Row) (n start length serial : ℕ) (h : row_fits units rows (RangeRow n start length serial) ≡ true) where
  halves : ((exists n units && is_there (UnitRowOf n) rows) ≡ true) × ((leb (start + length) (unit n units).blocks && ltb 0 serial) ≡ true)
  halves = and_parts (exists n units && is_there (UnitRowOf n) rows) _ h

  pub fits-exists : exists n units ≡ true
  fits-exists = (and_parts (exists n units) _ halves.0).0

  pub fits_under : is_there (UnitRowOf n) rows ≡ true
  fits_under = (and_parts (exists n units) _ halves.0).1

  pub fits-inside : leb (start + length) (unit n units).blocks ≡ true
  fits-inside = (and_parts (leb (start + length) (unit n units).blocks) _ halves.1).0

  pub fits-key : ltb 0 serial ≡ true
  fits-key = (and_parts (leb (start + length) (unit n units).blocks) _ halves.1).1

pub range-fits : (units : List LogicalUnit) (rows : List Row) (n start length serial : ℕ) → exists n units ≡ true → is_there (UnitRowOf n) rows ≡ true
    → leb (start + length) (unit n units).blocks ≡ true → ltb 0 serial ≡ true → row_fits units rows (RangeRow n start length serial) ≡ true
range-fits units rows n start length serial a b c d = and_from (exists n units && is_there (UnitRowOf n) rows) _ (and_from (exists n units) _ a b) (and_from (leb (start + length) (unit n units).blocks) _ c d)

fits-rows : (units : List LogicalUnit) (rows ss : List Row) (kind : Kind)
    → ((n start length serial : ℕ) → kind ≡ RangeRow n start length serial → is_there (UnitRowOf n) rows ≡ true → is_there (UnitRowOf n) ss ≡ true)
    → row_fits units rows kind ≡ true → row_fits units ss kind ≡ true
fits-rows units rows ss Free f h = refl
fits-rows units rows ss Global f h = refl
fits-rows units rows ss (UnitRow u) f h = h
fits-rows units rows ss (RangeRow u s l k) f h =
    range-fits units ss u s l k (fits-exists units rows u s l k h) (f u s l k refl (fits_under units rows u s l k h)) (fits-inside units rows u s l k h) (fits-key units rows u s l k h)

fits-units : (us vs : List LogicalUnit) (rows : List Row) (kind : Kind)
    → ((n : ℕ) → exists n us ≡ true → is_there (UnitRowOf n) rows ≡ true → (exists n vs ≡ true) × ((unit n vs).blocks ≡ (unit n us).blocks))
    → ((n : ℕ) → kind ≡ UnitRow n → is_there (UnitRowOf n) rows ≡ true)
    → row_fits us rows kind ≡ true → row_fits vs rows kind ≡ true
fits-units us vs rows Free f g h = refl
fits-units us vs rows Global f g h = refl
fits-units us vs rows (UnitRow u) f g h = (f u h (g u refl)).0
fits-units us vs rows (RangeRow u s l k) f g h =
    let b = fits_under us rows u s l k h in
    let e = f u (fits-exists us rows u s l k h) b in
    range-fits vs rows u s l k e.0 b (ap (leb (s + l)) e.1 ∙ fits-inside us rows u s l k h) (fits-key us rows u s l k h)

module _ (units : List LogicalUnit) (rows : List Row) (h : SoundRows units rows) where
  pub within : (r : ℕ) → r < 17 → r < length rows
  within r l = omega (arith, h.seventeen)

  -- a row that is no free one is none of those past the table
  pub in_table : (r : ℕ) → is_free (row r rows).kind ≡ false → r < 17
  in_table r f = elim (cases_lt r 17) [
    | inl l ↦ l
    | inr g ↦ absurd (both_ways _ f (ap (λ (x : Row). is_free x.kind) (get_or_past rows r free_row (omega (arith, h.seventeen)))))
  ]

  pub not-row-0 : (r : ℕ) → is_global (row r rows).kind ≡ false → 0 < r
  not-row-0 zero f = absurd (both_ways _ f (ap is_global h.global))
  not-row-0 (suc r) f = omega arith

  -- what is found nowhere stands nowhere
  pub none-at : (w : Sought) → suits w free_row ≡ false → is_there w rows ≡ false → (i : ℕ) → suits w (row i rows) ≡ false
  none-at w z f i = elim (cases_lt i 17) [
    | inl l ↦ missed w rows (not_there w rows f) i (within i l)
    | inr g ↦ ap (suits w) (get_or_past rows i free_row (omega (arith, h.seventeen))) ∙ z
  ]

  pub unit-row-there : (r n : ℕ) → (row r rows).kind ≡ UnitRow n → is_there (UnitRowOf n) rows ≡ true
  unit-row-there r n e = there (UnitRowOf n) rows r (within r (in_table r (ap is_free e))) (ap (unit_row_of n) e ∙ grind (arith, nat_tests))

  -- of those that are looked for there is no other
  pub no_other : (w : Sought) → AtMostOne w rows → (r : ℕ) → suits w (row r rows) ≡ true → (i : ℕ) → i ≢ r → suits w (row i rows) ≡ false
  no_other w one r t i n = elim (cases_Bool (suits w (row i rows))) [ inl e ↦ absurd (n (one i r e t)) | inr f ↦ f ]

  -- ---- one row is written
  pub rows-set : (r : ℕ) (x : Row) → 0 < r → r < 17 → is_global x.kind ≡ false → (is_free x.kind ≡ true → x.flags ≡ blank)
      → row_fits units (set rows r x) x.kind ≡ true
      → ((i n start length serial : ℕ) → i ≢ r → (row i rows).kind ≡ RangeRow n start length serial → is_there (UnitRowOf n) rows ≡ true → is_there (UnitRowOf n) (set rows r x) ≡ true)
      → ((n : ℕ) → suits (UnitRowOf n) x ≡ true → (i : ℕ) → i ≢ r → suits (UnitRowOf n) (row i rows) ≡ false)
      → ((n block : ℕ) → suits (RangeOver n block) x ≡ true → (i : ℕ) → i ≢ r → suits (RangeOver n block) (row i rows) ≡ false)
      → SoundRows units (set rows r x)
  rows-set r x p l g b f k a c = record {
    seventeen = length-set rows r x ∙ h.seventeen;
    global = ap (λ (y : Row). y.kind) (unwritten rows r x 0 (λ e. omega arith)) ∙ h.global;
    others = each_row rows r x (λ i y. 0 < i → is_global y.kind ≡ false) (within r l) (λ _. g) (λ i n. h.others i);
    blanks = each_row rows r x (λ i y. is_free y.kind ≡ true → y.flags ≡ blank) (within r l) b (λ i n. h.blanks i);
    each = each_row rows r x (λ i y. row_fits units (set rows r x) y.kind ≡ true) (within r l) f (λ i n. fits-rows units rows (set rows r x) (row i rows).kind (λ m s t q e. k i m s t q n e) (h.each i));
    unit_rows = λ n. one_kept rows r x (UnitRowOf n) (within r l) (h.unit_rows n) (a n);
    ranges = λ n block. one_kept rows r x (RangeOver n block) (within r l) (h.ranges n block) (c n block);
  }

  -- a unit row where no unit row was lost
  keeps-unit-rows : (r : ℕ) (x : Row) → ((n : ℕ) → unit_row_of n (row r rows).kind ≡ false) → (i n start length serial : ℕ) → i ≢ r → (row i rows).kind ≡ RangeRow n start length serial → is_there (UnitRowOf n) rows ≡ true → is_there (UnitRowOf n) (set rows r x) ≡ true
  keeps-unit-rows r x o i n s t q ne e y = there-kept rows r x (UnitRowOf n) (o n) y

  -- a free row becomes a unit row
  pub rows-unit-row : (r n : ℕ) (x : Row) → r < 17 → (row r rows).kind ≡ Free → x.kind ≡ UnitRow n → exists n units ≡ true → is_there (UnitRowOf n) rows ≡ false → SoundRows units (set rows r x)
  rows-unit-row r n x l fr e ex un = rows-set r x (not-row-0 r (ap is_global fr)) l (ap is_global e) (λ t. absurd (both_ways (is_free x.kind) (ap is_free e) t))
      (ap (row_fits units (set rows r x)) e ∙ ex)
      (keeps-unit-rows r x (λ m. ap (unit_row_of m) fr))
      (λ m t i _. none-at (UnitRowOf m) refl (ap (λ k. is_there (UnitRowOf k) rows) (sym (eqb-true n m (sym (ap (unit_row_of m) e) ∙ t))) ∙ un) i)
      (λ m block t i _. absurd (both_ways (range_over m block x.kind) (ap (range_over m block) e) t))

  -- a row that is no unit row and not row 0 becomes a range row apart from the others
  pub rows-range : (r n start len serial : ℕ) (x : Row) → r < 17 → is_global (row r rows).kind ≡ false → ((m : ℕ) → unit_row_of m (row r rows).kind ≡ false) → x.kind ≡ RangeRow n start len serial
      → exists n units ≡ true → is_there (UnitRowOf n) rows ≡ true → leb (start + len) (unit n units).blocks ≡ true → ltb 0 serial ≡ true
      → ((block i : ℕ) → covers start len block ≡ true → i ≢ r → range_over n block (row i rows).kind ≡ false)
      → SoundRows units (set rows r x)
  rows-range r n start len serial x l ng nu e ex un ins key ap-art = rows-set r x (not-row-0 r ng) l (ap is_global e) (λ t. absurd (both_ways (is_free x.kind) (ap is_free e) t))
      (ap (row_fits units (set rows r x)) e ∙ range-fits units (set rows r x) n start len serial ex (there-kept rows r x (UnitRowOf n) (nu n) un) ins key)
      (keeps-unit-rows r x nu)
      (λ m t i _. absurd (both_ways (unit_row_of m x.kind) (ap (unit_row_of m) e) t))
      (λ m block t i ne.
      let p = and_parts (eqb n m) (covers start len block) (sym (ap (range_over m block) e) ∙ t) in
      ap (λ k. range_over k block (row i rows).kind) (sym (eqb-true n m p.0)) ∙ ap-art block i p.1 ne)

  -- a row becomes free, and no range row needs it
  pub rows-free : (r : ℕ) (x : Row) → r < 17 → is_global (row r rows).kind ≡ false → x.kind ≡ Free → x.flags ≡ blank
      → ((i n start length serial : ℕ) → i ≢ r → (row i rows).kind ≡ RangeRow n start length serial → unit_row_of n (row r rows).kind ≡ false)
      → SoundRows units (set rows r x)
  rows-free r x l ng e b k = rows-set r x (not-row-0 r ng) l (ap is_global e) (λ _. b)
      (ap (row_fits units (set rows r x)) e)
      (λ i n s t q ne f y. there-kept rows r x (UnitRowOf n) (k i n s t q ne f) y)
      (λ m t i _. absurd (both_ways (unit_row_of m x.kind) (ap (unit_row_of m) e) t))
      (λ m block t i _. absurd (both_ways (range_over m block x.kind) (ap (range_over m block) e) t))

  -- ---- all rows keep their kinds
  pub rows_alike : (ss : List Row) → length ss ≡ length rows → ((i : ℕ) → (row i ss).kind ≡ (row i rows).kind) → ((r : ℕ) → r < 17 → is_free (row r rows).kind ≡ true → (row r ss).flags ≡ blank) → SoundRows units ss
  rows_alike ss n e b = record {
    seventeen = n ∙ h.seventeen;
    global = e 0 ∙ h.global;
    others = λ r p. ap is_global (e r) ∙ h.others r p;
    blanks = λ r f. elim (cases_lt r 17) [
      | inl l ↦ b r l (ap is_free (sym (e r)) ∙ f)
      | inr g ↦ ap (λ (x : Row). x.flags) (get_or_past ss r free_row (omega (arith, n, h.seventeen)))
    ];
    each = λ r. ap (row_fits units ss) (e r) ∙ fits-rows units rows ss (row r rows).kind (λ m s t q _ y. ap is_some (first-same (λ y. suits (UnitRowOf m) y) free_row ss rows n (λ i. ap (unit_row_of m) (e i))) ∙ y) (h.each r);
    unit_rows = λ m i j p q. h.unit_rows m i j (ap (unit_row_of m) (sym (e i)) ∙ p) (ap (unit_row_of m) (sym (e j)) ∙ q);
    ranges = λ m block i j p q. h.ranges m block i j (ap (range_over m block) (sym (e i)) ∙ p) (ap (range_over m block) (sym (e j)) ∙ q);
  }

  -- ---- units that have a unit row stay, with their blocks
  pub rows-units : (vs : List LogicalUnit) → ((n : ℕ) → exists n units ≡ true → is_there (UnitRowOf n) rows ≡ true → (exists n vs ≡ true) × ((unit n vs).blocks ≡ (unit n units).blocks)) → SoundRows vs rows
  rows-units vs f = record {
    seventeen = h.seventeen;
    global = h.global;
    others = h.others;
    blanks = h.blanks;
    each = λ r. fits-units units vs rows (row r rows).kind f (unit-row-there r) (h.each r);
    unit_rows = h.unit_rows;
    ranges = h.ranges;
  }
