-- Fresh keys: a drive stays in order, the vault refuses nothing, and no range, flag or size changes.
use Rattle.std.proofs.Common.{◌≡◌, ℕ, suc, ◌+◌, ◌<◌, ◌≤◌, true, cond, not, ◌&&◌, ◌||◌, eqb, List, [], ◌∷◌, length, get_or, set, None, filter, Option, unwrap_or, sym, refl, ap, ◌∙◌, arith}
use Rattle.std.proofs.ByRecursion.{All-weaker, All-map, all_kept_by}
use Rattle.std.proofs.lemmas.List.{length-set}
use Rattle.std.proofs.lemmas.Bool.Decides.{nat_tests}
use Rattle.std.proofs.lemmas.Bool.{and_from, lt-ltb, true≢false}
use Rattle.std.specs.Option.{option_map}
use Rattle.std.specs.List.{AllByRecursion}
use Rattle.packed.specs.Rising.{has, lookup}
use Rattle.packed.proofs.Order.{length-change, rises-change, change-found}
use Rattle.vault.specs.Kinds.{can_be_capacity}
use Rattle.vault.specs.Meaning.{swap_refusal, swap_after}
use Rattle.vault.proofs.Checks.{by_option}
use Rattle.rules.specs.declared.row.Kind.{Kind}
use Rattle.rules.specs.declared.row.Kind.TheVariants.{Free, Global, UnitRow, RangeRow}
use Rattle.rules.specs.declared.row.Row.{Row}
use Rattle.rules.specs.declared.row.Sought.{Sought}
use Rattle.rules.specs.declared.row.Sought.TheVariants.{UnitRowOf, RangeRowOf, RangeOver}
use Rattle.rules.specs.declared.unit.Holder.{Holder}
use Rattle.rules.specs.declared.unit.Holder.TheVariants.{TheUnit, TheRow}
use Rattle.rules.specs.declared.unit.LogicalUnit.{LogicalUnit}
use Rattle.rules.specs.Drive.{Drive}
use Rattle.rules.specs.FreshKeys.{key_of, HasKey, fresh_key, fresh_keys, units_under_global, holders_of, unit_and_ranges}
use Rattle.rules.specs.Requests.{NoneRefused, swaps}
use Rattle.rules.specs.Rows.{row, is_free, is_range_row, key_or, with_serial, is_single_user, with_kind, unit_row_of, range_row_of, range_over, suits, is_there, all_rows, controlling_row}
use Rattle.rules.specs.Sound.{unit_fits, SoundUnits, is_global, row_fits, serials, Sound}
use Rattle.rules.specs.Units.{no_unit, exists, unit, with_key}
use Rattle.rules.proofs.Keys.{keys-as, swap-capacity, swap-kept}
use Rattle.rules.proofs.Lookups.{place_of, lookup-change, has-change, all-change}
use Rattle.rules.proofs.Places.{range-parts, place, key-nonzero, unit-written, row_written}
use Rattle.rules.proofs.RowsKept.{any_same, within, in_table, no_other, fits-exists, fits_under, fits-inside, rows-range, rows-units}
use Rattle.rules.proofs.Numbered.{all-by}
use Rattle.rules.proofs.Searches.{set-alike, control-as}

-- ---- a unit under another key
module _ (n serial : ℕ) (units : List LogicalUnit) where
  abbrev number_of : LogicalUnit → ℕ
  number_of u = u.number

  abbrev keyed : LogicalUnit → LogicalUnit
  keyed u = record { number = u.number; blocks = u.blocks; serial = serial }

  pub keyed-exists : (k : ℕ) → exists k (with_key n serial units) ≡ exists k units
  keyed-exists k = has-change number_of n keyed (λ _. refl) k units

  keyed-lookup : (k : ℕ) → lookup number_of k (with_key n serial units) ≡ cond (eqb k n) (option_map keyed (lookup number_of k units)) (lookup number_of k units)
  keyed-lookup k = lookup-change number_of n keyed (λ _. refl) k units

  pub keyed-blocks : (k : ℕ) → (unit k (with_key n serial units)).blocks ≡ (unit k units).blocks
  keyed-blocks k = ap (λ (o : Option LogicalUnit). (unwrap_or o no_unit).blocks) (keyed-lookup k) ∙ by_option (lookup number_of k units) (λ o. (unwrap_or (cond (eqb k n) (option_map keyed o) o) no_unit).blocks ≡ (unwrap_or o no_unit).blocks)
      (λ _. grind (arith, nat_tests))
      (λ u _. grind (arith, nat_tests))

  -- the key is the new one, or as it was
  pub keyed-serial : (k : ℕ) → exists k units ≡ true → (unit k (with_key n serial units)).serial ≡ cond (eqb k n) serial (unit k units).serial
  keyed-serial k ex = let f = keyed-lookup k in let p = (place_of number_of k units no_unit ex).4 in grind (arith, nat_tests)

  pub keyed-units : (bounds : _) → 0 < serial → SoundUnits bounds units → SoundUnits bounds (with_key n serial units)
  keyed-units bounds p h = record {
    few = omega (arith, length-change number_of n keyed units, h.few);
    ordered = rises-change number_of n keyed (λ _ _. refl) 0 units ∙ h.ordered;
    each = all-change number_of n keyed (λ _. refl) (λ u. unit_fits bounds u ≡ true) (λ u f. let t = lt-ltb 0 serial p in grind (arith, nat_tests)) units h.each;
  }

-- ---- one fresh key
-- what is the same under every serial
abbrev pub SerialApart : {X : Type 0} → (Kind → X) → Type 0
SerialApart f = (n start len serial s : ℕ) → f (RangeRow n start len s) ≡ f (RangeRow n start len serial)

pub serial-apart : {X : Type 0} (f : Kind → X) → SerialApart f → (s : ℕ) (kind : Kind) → f (with_serial s kind) ≡ f kind
serial-apart f same s Free = refl
serial-apart f same s Global = refl
serial-apart f same s (UnitRow u) = refl
serial-apart f same s (RangeRow u a l k) = same u a l k s

-- a row's parts after it is rekeyed
module _ (d : Drive) (r : ℕ) where
  abbrev pub rekeyed_row : Row
  rekeyed_row = with_kind (with_serial d.next (row r d.rows).kind) (row r d.rows)

module _ (d : Drive) (h : Sound d) (more : d.next < 4294967295) where
  unit-sound : (n : ℕ) → exists n d.units ≡ true → Sound (fresh_key d (TheUnit n)) × (swap_refusal d.vault (key_of d (TheUnit n)) d.next ≡ None)
  unit-sound n ex =
      let p = place_of (λ (u : LogicalUnit). u.number) n d.units no_unit ex in
      let i = p.0 in
      let at = place d h (TheUnit n) ex in
      let z = key-nonzero d h (TheUnit n) ex in
      let v : LogicalUnit = record { number = (get_or d.units i no_unit).number; blocks = (get_or d.units i no_unit).blocks; serial = d.next } in
      let e : serials (with_key n d.next d.units) d.rows ≡ set (serials d.units d.rows) i d.next = ap (λ us. serials us d.rows) (change-found (λ (u : LogicalUnit). u.number) n (λ u. record { number = u.number; blocks = u.blocks; serial = d.next }) d.units i p.1 no_unit) ∙ unit-written d.units d.rows i p.2 v in
      let swap = swap-kept d.next d.vault (serials d.units d.rows) h.keys h.next.0 i (unit n d.units).serial at.1 at.2 z in (
        record {
          usable = h.usable;
          capacity = ap can_be_capacity (swap-capacity d.vault (unit n d.units).serial d.next) ∙ h.capacity;
          next = (omega arith, omega arith);
          policy = h.policy;
          units = keyed-units n d.next d.units d.numbering h.next.0 h.units;
          rows = rows-units d.units d.rows h.rows (with_key n d.next d.units) (λ k x _. (keyed-exists n d.next d.units k ∙ x, keyed-blocks n d.next d.units k));
          keys = keys-as (d.next + 1) (swap_after d.vault (unit n d.units).serial d.next) _ _ e swap.1;
        },
        swap.0,
      )

  row-sound : (r : ℕ) → is_range_row (row r d.rows).kind ≡ true → Sound (fresh_key d (TheRow r)) × (swap_refusal d.vault (key_of d (TheRow r)) d.next ≡ None)
  row-sound r is =
      let q = range-parts (row r d.rows).kind is in
      let n = q.0 in
      let start = q.1 in
      let len = q.2 in
      let serial = q.3 in
      let e = q.4 in
      let l : r < 17 = in_table d.units d.rows h.rows r (ap is_free e) in
      let lr : r < length d.rows = within d.units d.rows h.rows r l in
      let f : row_fits d.units d.rows (RangeRow n start len serial) ≡ true = ap (row_fits d.units d.rows) (sym e) ∙ h.rows.each r in
      let x : Row = rekeyed_row d r in
      let xe : x.kind ≡ RangeRow n start len d.next = ap (with_serial d.next) e in
      let at = place d h (TheRow r) is in
      let z = key-nonzero d h (TheRow r) is in
      let ew : serials d.units (set d.rows r x) ≡ set (serials d.units d.rows) (length d.units + r) d.next = row_written d.units d.rows r lr x ∙ ap (λ k. set (serials d.units d.rows) (length d.units + r) (key_or k 0)) xe in
      let swap = swap-kept d.next d.vault (serials d.units d.rows) h.keys h.next.0 (length d.units + r) (key_or (row r d.rows).kind 0) at.1 at.2 z in (
        record {
          usable = h.usable;
          capacity = ap can_be_capacity (swap-capacity d.vault (key_or (row r d.rows).kind 0) d.next) ∙ h.capacity;
          next = (omega arith, omega arith);
          policy = ap (λ b. eqb d.policy 1 || (eqb d.policy 0 && b)) (any_same (λ y. is_single_user y.standing) (set d.rows r x) d.rows (length-set d.rows r x) (set-alike d.rows r x (λ y. is_single_user y.standing) refl)) ∙ h.policy;
          units = h.units;
          rows = rows-range d.units d.rows h.rows r n start len d.next x l (ap is_global e) (λ m. ap (unit_row_of m) e) xe
              (fits-exists d.units d.rows n start len serial f) (fits_under d.units d.rows n start len serial f) (fits-inside d.units d.rows n start len serial f) (lt-ltb 0 d.next h.next.0)
              (λ block i c ne. no_other d.units d.rows h.rows (RangeOver n block) (h.rows.ranges n block) r (ap (range_over n block) e ∙ and_from (eqb n n) _ (grind (arith, nat_tests)) c) i ne);
          keys = keys-as (d.next + 1) (swap_after d.vault (key_or (row r d.rows).kind 0) d.next) _ _ ew swap.1;
        },
        swap.0,
      )

  pub fresh-sound : (holder : Holder) → HasKey d holder → Sound (fresh_key d holder) × (swap_refusal d.vault (key_of d holder) d.next ≡ None)
  fresh-sound (TheUnit n) v = unit-sound n v
  fresh-sound (TheRow r) v = row-sound r v

-- ---- many fresh keys
pub valid-kept : (d : Drive) (by holder : Holder) → HasKey d holder → HasKey (fresh_key d by) holder
valid-kept d (TheUnit n) (TheUnit k) v = keyed-exists n d.next d.units k ∙ v
valid-kept d (TheUnit n) (TheRow r) v = v
valid-kept d (TheRow q) (TheUnit k) v = v
valid-kept d (TheRow q) (TheRow r) v = set-alike d.rows q (rekeyed_row d q) (λ y. is_range_row y.kind) (serial-apart is_range_row (λ _ _ _ _ _. refl) d.next (row q d.rows).kind) r ∙ v

pub fresh-next : (d : Drive) (holder : Holder) → (fresh_key d holder).next ≡ d.next + 1
fresh-next d (TheUnit n) = refl
fresh-next d (TheRow r) = refl

pub renewed-sound : (d : Drive) (holders : List Holder) → Sound d → AllByRecursion (HasKey d) holders → d.next + length holders ≤ 4294967295
    → Sound (fresh_keys d holders) × NoneRefused d.vault (swaps d holders) (fresh_keys d holders).vault
unfolding fresh_keys swaps
renewed-sound d [] h v le = (h, (tt, refl))
renewed-sound d (holder ∷ holders) h v le =
    let s = fresh-sound d h (omega arith) holder v.0 in
    let e = fresh-next d holder in
    let ih = renewed-sound (fresh_key d holder) holders s.0 (All-weaker (HasKey d) (HasKey (fresh_key d holder)) (λ x. valid-kept d holder x) holders v.1) (omega arith) in
    (ih.0, ((s.1, ih.1.0), ih.1.1))

-- ---- what gets fresh keys is there
all-exist : (us : List LogicalUnit) → AllByRecursion (λ u. exists u.number us ≡ true) us
unfolding has
all-exist [] = tt
all-exist (u ∷ us) = (grind (arith, nat_tests), All-weaker (λ v. exists v.number us ≡ true) (λ v. exists v.number (u ∷ us) ≡ true) (λ v e. grind (arith, nat_tests)) us (all-exist us))

pub valid-under-global : (d : Drive) → AllByRecursion (HasKey d) (units_under_global d.rows d.units)
valid-under-global d =
    All-map (HasKey d) (λ u. TheUnit u.number) (filter (λ u. not (is_there (UnitRowOf u.number) d.rows)) d.units)
    (all_kept_by (λ u. not (is_there (UnitRowOf u.number) d.rows)) (λ u. exists u.number d.units ≡ true) d.units (all-exist d.units))

pub valid-of-row : (d : Drive) → Sound d → (r : ℕ) (kind : Kind) → (row r d.rows).kind ≡ kind → AllByRecursion (HasKey d) (holders_of d r kind)
valid-of-row d h r Free e = tt
valid-of-row d h r Global e = valid-under-global d
valid-of-row d h r (UnitRow u) e = (ap (row_fits d.units d.rows) (sym e) ∙ h.rows.each r, tt)
valid-of-row d h r (RangeRow u s l k) e = (ap is_range_row e, tt)

-- each of the rows that are looked for is one
all-rows : (w : Sought) (rows : List Row) → AllByRecursion (λ r. suits w (row r rows) ≡ true) (all_rows w rows)
unfolding all_rows
all-rows w [] = tt
all-rows w (x ∷ xs) =
    let later = All-map (λ r. suits w (row r (x ∷ xs)) ≡ true) suc (all_rows w xs) (all-rows w xs) in
    all-by w x xs (AllByRecursion (λ r. suits w (row r (x ∷ xs)) ≡ true)) (λ e. (e, later)) (λ _. later)

pub range-row-is : (n : ℕ) (kind : Kind) → range_row_of n kind ≡ true → is_range_row kind ≡ true
range-row-is n Free e = absurd (true≢false (sym e))
range-row-is n Global e = absurd (true≢false (sym e))
range-row-is n (UnitRow u) e = absurd (true≢false (sym e))
range-row-is n (RangeRow u s l k) e = refl

pub valid-of-unit : (d : Drive) (n : ℕ) → exists n d.units ≡ true → AllByRecursion (HasKey d) (unit_and_ranges d n)
valid-of-unit d n ex = (
  ex,
  All-map (HasKey d) TheRow (all_rows (RangeRowOf n) d.rows)
      (All-weaker (λ r. suits (RangeRowOf n) (row r d.rows) ≡ true) (λ r. is_range_row (row r d.rows).kind ≡ true) (λ r e. range-row-is n (row r d.rows).kind e) (all_rows (RangeRowOf n) d.rows) (all-rows (RangeRowOf n) d.rows)),
)

-- ---- drives that differ in keys alone
-- a row's kind but for its key
abbrev pub bare : Row → Kind
bare r = with_serial 0 r.kind

pub record Alike (d e : Drive) : Type 0 where
  pub long : length e.rows ≡ length d.rows
  pub kinds : (i : ℕ) → bare (row i e.rows) ≡ bare (row i d.rows)
  pub flags : (i : ℕ) → (row i e.rows).flags ≡ (row i d.rows).flags
  pub there : (n : ℕ) → exists n e.units ≡ exists n d.units
  pub blocks : (n : ℕ) → (unit n e.units).blocks ≡ (unit n d.units).blocks

alike-itself : (d : Drive) → Alike d d
alike-itself d = record { long = refl; kinds = λ i. refl; flags = λ i. refl; there = λ n. refl; blocks = λ n. refl }

alike-on : (d e f : Drive) → Alike d e → Alike e f → Alike d f
alike-on d e f p q = record {
  long = q.long ∙ p.long;
  kinds = λ i. q.kinds i ∙ p.kinds i;
  flags = λ i. q.flags i ∙ p.flags i;
  there = λ n. q.there n ∙ p.there n;
  blocks = λ n. q.blocks n ∙ p.blocks n;
}

pub alike-fresh : (d : Drive) (holder : Holder) → Alike d (fresh_key d holder)
alike-fresh d (TheUnit n) = record {
  long = refl;
  kinds = λ i. refl;
  flags = λ i. refl;
  there = keyed-exists n d.next d.units;
  blocks = keyed-blocks n d.next d.units;
}
alike-fresh d (TheRow r) = record {
  long = length-set d.rows r (rekeyed_row d r);
  kinds = set-alike d.rows r (rekeyed_row d r) bare (serial-apart (with_serial 0) (λ _ _ _ _ _. refl) d.next (row r d.rows).kind);
  flags = set-alike d.rows r (rekeyed_row d r) (λ (y : Row). y.flags) refl;
  there = λ n. refl;
  blocks = λ n. refl;
}

pub alike-renewed : (d : Drive) (holders : List Holder) → Alike d (fresh_keys d holders)
unfolding fresh_keys
alike-renewed d [] = alike-itself d
alike-renewed d (holder ∷ holders) = alike-on d (fresh_key d holder) (fresh_keys (fresh_key d holder) holders) (alike-fresh d holder) (alike-renewed (fresh_key d holder) holders)

module _ (d e : Drive) (a : Alike d e) where
  pub alike-kind : {X : Type 0} (f : Kind → X) → SerialApart f → (i : ℕ) → f (row i e.rows).kind ≡ f (row i d.rows).kind
  alike-kind f same i = sym (serial-apart f same 0 (row i e.rows).kind) ∙ ap f (a.kinds i) ∙ serial-apart f same 0 (row i d.rows).kind

  pub alike-control : (n block : ℕ) → controlling_row e.rows n block ≡ controlling_row d.rows n block
  alike-control n block = control-as d.rows n block e.rows a.long (alike-kind (range_over n block) (λ _ _ _ _ _. refl)) (alike-kind (unit_row_of n) (λ _ _ _ _ _. refl))
