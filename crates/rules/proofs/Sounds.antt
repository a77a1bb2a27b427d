-- Every call leaves a drive that a sheet can describe, and the vault refuses none of its requests.
use Rattle.std.proofs.Common.{◌≡◌, ℕ, Bool, List, ◌∷◌, Some, None, Option, suc, ◌+◌, ◌^◌, ◌<◌, true, false, cond, not, ◌&&◌, ◌||◌, eqb, ltb, leb, ◌≢◌, [], ◌++◌, map, length, get_or, set, unwrap_or, sym, refl, ap, ◌∙◌, inl, inr, arith}
use Rattle.std.specs.Option.{option_or}
use Rattle.std.proofs.lemmas.List.{get_or-map, length-set, length-map, set-get_or, get_or_past}
use Rattle.std.proofs.lemmas.Bool.Decides.{nat_tests}
use Rattle.std.proofs.lemmas.Bool.{cases_Bool, cases_lt, both_ways, and_parts, and_from, ltb-true, ltb-false, leb-false, lt-ltb, le-leb, eqb-true, eqb-false, not-false, cond_both}
use Rattle.std.proofs.lemmas.List.Folds.{list_any_at}
use Rattle.std.specs.List.{list_any}
use Rattle.packed.specs.Rising.{lookup}
use Rattle.packed.proofs.Order.{has-insert, length-insert, length-remove, rises-insert, rises-remove}
use Rattle.vault.specs.Kinds.{can_be_capacity}
use Rattle.vault.specs.Serials.{adds, collect}
use Rattle.vault.proofs.Checks.{Passed, all-passed}
use Rattle.rules.specs.declared.cause.Cause.{Cause}
use Rattle.rules.specs.declared.cause.Cause.TheVariants.{Closed}
use Rattle.rules.specs.declared.row.Flags.{Flags}
use Rattle.rules.specs.declared.row.Kind.{Kind}
use Rattle.rules.specs.declared.row.Kind.TheVariants.{Free, Global, UnitRow, RangeRow}
use Rattle.rules.specs.declared.row.Row.{Row}
use Rattle.rules.specs.declared.row.Sought.TheVariants.{FreeRow, UnitRowOf, RangeRowOf, RangeSharing}
use Rattle.rules.specs.declared.row.Standing.{Standing}
use Rattle.rules.specs.declared.row.Standing.TheVariants.{Shared, SingleUser}
use Rattle.rules.specs.declared.unit.Holder.TheVariants.{TheUnit}
use Rattle.rules.specs.declared.unit.LogicalUnit.{LogicalUnit}
use Rattle.rules.specs.Drive.{Drive, refused_by, with_rows, with_policy, row_of, kind_of, unused_keys}
use Rattle.rules.specs.Sessions.{opening_refusal, in_session}
use Rattle.rules.specs.Commands.{create_checks, create_refusal, new_unit, created, delete_checks, delete_refusal, deleted, formatted, was_reset}
use Rattle.rules.specs.FreshKeys.{holders_of, unit_and_ranges}
use Rattle.rules.specs.Methods.{row_to_take, other_rows, unit_row_assigned, range_row_assigned, freed, given_up, range_set, locks_set, key_generated, reactivated_row, reactivated}
use Rattle.rules.specs.Requests.{Put, Drop, NoneRefused, swaps, requests_of_deassign}
use Rattle.rules.specs.Rows.{blank, relocked, free_row, row, is_free, is_a_unit_row, unit_or, key_or, with_range, is_single_user, with_flags, with_kind, anew, covers, unit_row_of, range_row_of, range_over, is_there}
use Rattle.rules.specs.Sound.{unit_fits, is_global, row_fits, SoundRows, serial_of, row_key, serials, policy_fits, Sound}
use Rattle.rules.specs.Units.{valid, no_unit, exists, unit, with_unit, without_unit}
use Rattle.rules.proofs.Keys.{keys-as, put-capacity, drop-capacity, put-kept, drop-kept, collect-unit, collect-without, filled, cleared}
use Rattle.rules.proofs.Lookups.{lookup-insert, lookup-remove, has-remove-other, all_insert, all_remove}
use Rattle.rules.proofs.Places.{unit-key, words_long, row_word, row_written}
use Rattle.rules.proofs.Renewals.{fresh-sound, renewed-sound, valid-of-row, valid-of-unit}
use Rattle.rules.proofs.RowsKept.{any_same, within, in_table, none-at, kind-free, over-apart, fits-exists, fits_under, fits-key, rows-unit-row, rows-range, rows-free, rows_alike, rows-units}
use Rattle.rules.proofs.Searches.{missed, at_there, not_there, set-alike, unwritten, each_row}
use Rattle.rules.proofs.Numbered.{each_row_by, length-each, row-each, each-alike, map-alike, some-bit}

-- ---- what an accepted call has passed
-- where neither refuses, the second does not
pub neither : (o p : Option Cause) → option_or o p ≡ None → p ≡ None
neither None p e = e
neither (Some c) p e = absurd cc

-- the session opened, and the call is not refused
pub opened : (caller : ℕ) (refusal : Option Cause) → in_session caller refusal ≡ None → refusal ≡ None
opened caller refusal e = neither (opening_refusal caller) refusal e

module _ (d : Drive) (checks : List (Bool × Cause)) where
  pub passed : refused_by d checks ≡ None → Passed checks
  passed e = (all-passed ((d.closed, Closed) ∷ checks) e).1

  pub passed-in : (caller : ℕ) → in_session caller (refused_by d checks) ≡ None → Passed checks
  passed-in caller e = passed (opened caller (refused_by d checks) e)

-- ---- what a call leaves
-- rows that keep their kinds keep their keys
words-alike : (units : List LogicalUnit) (rows ss : List Row) → length ss ≡ length rows → ((i : ℕ) → (row i ss).kind ≡ (row i rows).kind) → serials units ss ≡ serials units rows
words-alike units rows ss n e = ap (λ ks. map serial_of units ++ ks) (go ss rows n e)
  where
    go : (xs ys : List Row) → length xs ≡ length ys → ((i : ℕ) → (row i xs).kind ≡ (row i ys).kind) → map row_key xs ≡ map row_key ys
    go [] [] n e = refl
    go [] (y ∷ ys) n e = absurd (let b : ⊥ = omega arith in b)
    go (x ∷ xs) [] n e = absurd (let b : ⊥ = omega arith in b)
    go (x ∷ xs) (y ∷ ys) n e = ap (λ k. key_or k 0 ∷ map row_key xs) (e 0) ∙ ap (λ l. row_key y ∷ l) (go xs ys (omega arith) (λ i. e (suc i)))

module _ (d : Drive) (h : Sound d) where
  abbrev words : List ℕ
  words = serials d.units d.rows

  -- ---- other rows under the same keys
  rows-sound : (ss : List Row) (policy : ℕ) → SoundRows d.units ss → serials d.units ss ≡ words → policy_fits policy ss ≡ true → Sound (with_policy policy (with_rows ss d))
  rows-sound ss policy s e p = record {
    usable = h.usable;
    capacity = h.capacity;
    next = h.next;
    policy = p;
    units = h.units;
    rows = s;
    keys = keys-as d.next d.vault _ _ e h.keys;
  }

  -- rows that keep their kinds
  alike-sound : (ss : List Row) (policy : ℕ) → length ss ≡ length d.rows → ((i : ℕ) → (row i ss).kind ≡ (row i d.rows).kind)
      → ((r : ℕ) → r < 17 → is_free (row r d.rows).kind ≡ true → (row r ss).flags ≡ blank) → policy_fits policy ss ≡ true → Sound (with_policy policy (with_rows ss d))
  alike-sound ss policy n e b = rows-sound ss policy (rows_alike d.units d.rows h.rows ss n e b) (words-alike d.units d.rows ss n e)

  -- the policy fits where the standings stay
  policy-alike : (ss : List Row) → length ss ≡ length d.rows → ((i : ℕ) → (row i ss).standing ≡ (row i d.rows).standing) → policy_fits d.policy ss ≡ true
  policy-alike ss n e = ap (λ b. eqb d.policy 1 || (eqb d.policy 0 && b)) (any_same (λ y. is_single_user y.standing) ss d.rows n (λ i. ap is_single_user (e i))) ∙ h.policy

  policy-set : (r : ℕ) (x : Row) → x.standing ≡ (row r d.rows).standing → policy_fits d.policy (set d.rows r x) ≡ true
  policy-set r x e = policy-alike (set d.rows r x) (length-set d.rows r x) (set-alike d.rows r x (λ (y : Row). y.standing) e)

  pub locks-sound : (r : ℕ) (flags : Flags) → is_free (kind_of d r) ≡ false → Sound (locks_set d r flags)
  locks-sound r flags f =
      let x : Row = with_flags flags (row_of d r) in
      let l = within d.units d.rows h.rows r (in_table d.units d.rows h.rows r f) in
      alike-sound (set d.rows r x) d.policy (length-set d.rows r x) (set-alike d.rows r x (λ (y : Row). y.kind) refl)
      (each_row d.rows r x (λ i y. i < 17 → is_free (row i d.rows).kind ≡ true → y.flags ≡ blank) l (λ _ t. absurd (both_ways (is_free (kind_of d r)) f t)) (λ i _ _. h.rows.blanks i))
      (policy-set r x refl)

  -- ---- units
  pub create-sound : (n blocks : ℕ) → create_refusal d n blocks ≡ None → Sound (created d n blocks) × NoneRefused d.vault (Put d.next ∷ []) (created d n blocks).vault
  create-sound n blocks e =
      let p = passed d (create_checks d n blocks) e in
      let ok : valid d.numbering n ≡ true = not-false _ p.0 in
      let new : exists n d.units ≡ false = p.1.0 in
      let size : (leb 1 blocks && leb blocks (2 ^ 48)) ≡ true = not-false _ p.1.1.0 in
      let few : leb 16 (length d.units) ≡ false = p.1.1.1.0 in
      let room : eqb (unused_keys d) 0 ≡ false = p.1.1.1.1.0 in
      let last : ltb 4294967295 (d.next + 1) ≡ false = p.1.1.1.1.1.0 in
      let u : LogicalUnit = new_unit d n blocks in
      let z : d.next ≡ 0 → ⊥ = (λ y. omega (arith, h.next.0)) in
      let more = collect-unit u d.units (map row_key d.rows) z in
      let spare : length d.vault.held < d.vault.capacity = omega (arith, eqb-false (unused_keys d) 0 room) in
      let put = put-kept d.next d.vault words h.keys h.next.0 (serials (with_unit u d.units) d.rows) more spare in (
        record {
          usable = h.usable;
          capacity = ap can_be_capacity (put-capacity d.vault d.next) ∙ h.capacity;
          next = (omega arith, omega (arith, ltb-false 4294967295 (d.next + 1) last));
          policy = h.policy;
          units = record {
            few = omega (arith, length-insert (λ (v : LogicalUnit). v.number) u d.units, leb-false 16 (length d.units) few);
            ordered = rises-insert (λ (v : LogicalUnit). v.number) 0 u d.units (omega arith) new h.units.ordered;
            each = all_insert (λ (v : LogicalUnit). v.number) (λ v. unit_fits d.numbering v ≡ true) u d.units (and_from (valid d.numbering n) _ ok (and_from _ _ size (lt-ltb 0 d.next h.next.0))) h.units.each;
          };
          rows = rows-units d.units d.rows h.rows (with_unit u d.units) (λ k ex _. kept k ex new);
          keys = put.1;
        },
        ((put.0, tt), refl),
      )
    where
      kept : (k : ℕ) → exists k d.units ≡ true → exists n d.units ≡ false → (exists k (with_unit (new_unit d n blocks) d.units) ≡ true) × ((unit k (with_unit (new_unit d n blocks) d.units)).blocks ≡ (unit k d.units).blocks)
      kept k ex new =
          let ne : eqb n k ≡ false = (elim (cases_Bool (eqb n k)) [ inl t ↦ absurd (both_ways (exists n d.units) new (ap (λ j. exists j d.units) (eqb-true n k t) ∙ ex)) | inr f ↦ f ]) in (
            has-insert (λ (v : LogicalUnit). v.number) k (new_unit d n blocks) d.units ∙ ap (λ b. eqb n k || b) ex ∙ ap (λ b. b || true) ne,
            ap (λ (o : Option LogicalUnit). (unwrap_or o no_unit).blocks) (lookup-insert (λ (v : LogicalUnit). v.number) k (new_unit d n blocks) d.units new ∙ ap (λ b. cond b (Some (new_unit d n blocks)) (lookup (λ (v : LogicalUnit). v.number) k d.units)) ne),
          )

  pub delete-sound : (n : ℕ) → delete_refusal d n ≡ None → Sound (deleted d n) × NoneRefused d.vault (Drop (unit n d.units).serial ∷ []) (deleted d n).vault
  delete-sound n e =
      let p = passed d (delete_checks d n) e in
      let ex : exists n d.units ≡ true = not-false _ p.0 in
      let free : is_there (UnitRowOf n) d.rows ≡ false = p.1.0 in
      let s = (unit n d.units).serial in
      let z : s ≡ 0 → ⊥ = (λ y. omega (arith, unit-key d n h ex)) in
      let fewer = collect-without n d.units (map row_key d.rows) ex z in
      let drop = drop-kept d.next d.vault words h.keys (serials (without_unit n d.units) d.rows) s fewer in (
        record {
          usable = h.usable;
          capacity = ap can_be_capacity (drop-capacity d.vault s) ∙ h.capacity;
          next = h.next;
          policy = h.policy;
          units = record {
            few = omega (arith, length-remove (λ (v : LogicalUnit). v.number) n d.units ex, h.units.few);
            ordered = rises-remove (λ (v : LogicalUnit). v.number) 0 n d.units h.units.ordered;
            each = all_remove (λ (v : LogicalUnit). v.number) (λ v. unit_fits d.numbering v ≡ true) n d.units h.units.each;
          };
          rows = rows-units d.units d.rows h.rows (without_unit n d.units) (λ k x y.
              let ne : k ≢ n = (λ q. both_ways (is_there (UnitRowOf n) d.rows) free (ap (λ j. is_there (UnitRowOf j) d.rows) (sym q) ∙ y)) in
              (has-remove-other (λ (v : LogicalUnit). v.number) k n d.units ne ∙ x, ap (λ (o : Option LogicalUnit). (unwrap_or o no_unit).blocks) (lookup-remove (λ (v : LogicalUnit). v.number) k n d.units ne)));
          keys = drop.1;
        },
        ((drop.0, tt), refl),
      )

  -- ---- one row is written
  -- a row that keeps its key, or still has none
  same-words : (r : ℕ) (x : Row) → r < 17 → row_key x ≡ row_key (row_of d r) → serials d.units (set d.rows r x) ≡ words
  same-words r x l e =
      let lr = within d.units d.rows h.rows r l in
      row_written d.units d.rows r lr x
      ∙ ap (set words (length d.units + r)) (e ∙ sym (row_word d.units d.rows r lr))
      ∙ set-get_or words (length d.units + r) 0

  word-within : (r : ℕ) → r < 17 → length d.units + r < length words
  word-within r l = omega (arith, words_long d.units d.rows, h.rows.seventeen)

  row-sound : (r : ℕ) (x : Row) → r < 17 → x.standing ≡ (row_of d r).standing → row_key x ≡ row_key (row_of d r) → SoundRows d.units (set d.rows r x) → Sound (with_rows (set d.rows r x) d)
  row-sound r x l st k s = rows-sound (set d.rows r x) d.policy s (same-words r x l k) (policy-set r x st)

  -- ---- Assign
  -- the row that is taken is free
  pub take-free : (standing : Standing) → is_there (FreeRow standing) d.rows ≡ true → (row_to_take d standing < 17) × (kind_of d (row_to_take d standing) ≡ Free)
  take-free standing t =
      let p = at_there (FreeRow standing) d.rows t in
      let e : row_to_take d standing ≡ p.0 = ap (λ o. unwrap_or o 0) p.3 in
      (omega (arith, p.1, h.rows.seventeen, e), ap (kind_of d) e ∙ kind-free (kind_of d p.0) (and_parts (is_free (kind_of d p.0)) _ p.2).0)

  pub unit-row-sound : (n : ℕ) (standing : Standing) → exists n d.units ≡ true → is_there (UnitRowOf n) d.rows ≡ false → is_there (FreeRow standing) d.rows ≡ true → Sound (unit_row_assigned d n standing)
  unit-row-sound n standing ex no-unit t =
      let f = take-free standing t in
      let r = row_to_take d standing in
      let x : Row = anew (UnitRow n) (row_of d r) in
      row-sound r x f.0 refl (sym (ap (λ k. key_or k 0) f.1)) (rows-unit-row d.units d.rows h.rows r n x f.0 f.1 refl ex no-unit)

  -- what shares no block with a range covers none of its blocks
  apart_from : (n start len : ℕ) (rows : List Row) → length rows ≡ 17 → is_there (RangeSharing n start len) rows ≡ false → (block i : ℕ) → covers start len block ≡ true → range_over n block (row i rows).kind ≡ false
  apart_from n start len rows long f block i c = elim (cases_lt i 17) [
    | inl l ↦ over-apart n start len block (row i rows).kind c (missed (RangeSharing n start len) rows (not_there (RangeSharing n start len) rows f) i (omega arith))
    | inr g ↦ ap (λ (x : Row). range_over n block x.kind) (get_or_past rows i free_row (omega arith))
  ]

  pub range-row-sound : (n start len : ℕ) (standing : Standing) → exists n d.units ≡ true → is_there (UnitRowOf n) d.rows ≡ true → ltb (unit n d.units).blocks (start + len) ≡ false
      → is_there (RangeSharing n start len) d.rows ≡ false → is_there (FreeRow standing) d.rows ≡ true → eqb (unused_keys d) 0 ≡ false → ltb 4294967295 (d.next + 1) ≡ false
      → Sound (range_row_assigned d n start len standing) × NoneRefused d.vault (Put d.next ∷ []) (range_row_assigned d n start len standing).vault
  range-row-sound n start len standing ex under past sharing t room last =
      let f = take-free standing t in
      let r = row_to_take d standing in
      let x : Row = anew (RangeRow n start len d.next) (row_of d r) in
      let z : d.next ≡ 0 → ⊥ = (λ y. omega (arith, h.next.0)) in
      let lr = within d.units d.rows h.rows r f.0 in
      let g : get_or words (length d.units + r) 0 ≡ 0 = row_word d.units d.rows r lr ∙ ap (λ k. key_or k 0) f.1 in
      let ws = serials d.units (set d.rows r x) in
      let more = ap collect (row_written d.units d.rows r lr x) ∙ filled words (length d.units + r) (word-within r f.0) d.next g z in
      let spare : length d.vault.held < d.vault.capacity = omega (arith, eqb-false (unused_keys d) 0 room) in
      let put = put-kept d.next d.vault words h.keys h.next.0 ws more spare in (
        record {
          usable = h.usable;
          capacity = ap can_be_capacity (put-capacity d.vault d.next) ∙ h.capacity;
          next = (omega arith, omega (arith, ltb-false 4294967295 (d.next + 1) last));
          policy = policy-set r x refl;
          units = h.units;
          rows = rows-range d.units d.rows h.rows r n start len d.next x f.0 (ap is_global f.1) (λ m. ap (unit_row_of m) f.1) refl ex under
              (le-leb _ _ (ltb-false _ _ past)) (lt-ltb 0 d.next h.next.0) (λ block i c _. apart_from n start len d.rows h.rows.seventeen sharing block i c);
          keys = put.1;
        },
        ((put.0, tt), refl),
      )

  -- ---- SetRange
  pub range-set-sound : (r start len n s l k : ℕ) → kind_of d r ≡ RangeRow n s l k → ltb (unit n d.units).blocks (start + len) ≡ false → is_there (RangeSharing n start len) (other_rows d.rows r) ≡ false → Sound (range_set d r start len)
  range-set-sound r start len n s l k e past sharing =
      let x : Row = with_kind (with_range start len (kind_of d r)) (row_of d r) in
      let xe : x.kind ≡ RangeRow n start len k = ap (with_range start len) e in
      let lt = in_table d.units d.rows h.rows r (ap is_free e) in
      let f : row_fits d.units d.rows (RangeRow n s l k) ≡ true = ap (row_fits d.units d.rows) (sym e) ∙ h.rows.each r in
      let fr : Row = anew Free (row_of d r) in
      row-sound r x lt refl (ap (λ q. key_or q 0) xe ∙ sym (ap (λ q. key_or q 0) e))
      (rows-range d.units d.rows h.rows r n start len k x lt (ap is_global e) (λ m. ap (unit_row_of m) e) xe
      (fits-exists d.units d.rows n s l k f) (fits_under d.units d.rows n s l k f) (le-leb _ _ (ltb-false _ _ past)) (fits-key d.units d.rows n s l k f)
      (λ block i c ne. ap (λ (y : Row). range_over n block y.kind) (sym (unwritten d.rows r fr i ne)) ∙ apart_from n start len (set d.rows r fr) (length-set d.rows r fr ∙ h.rows.seventeen) sharing block i c))

  -- ---- Deassign
  freed-range : (r n s l k : ℕ) → kind_of d r ≡ RangeRow n s l k → Sound (given_up d r false (RangeRow n s l k)) × NoneRefused d.vault (Drop k ∷ []) (given_up d r false (RangeRow n s l k)).vault
  freed-range r n s l k e =
      let x : Row = anew Free (row_of d r) in
      let lt = in_table d.units d.rows h.rows r (ap is_free e) in
      let lr = within d.units d.rows h.rows r lt in
      let f : row_fits d.units d.rows (RangeRow n s l k) ≡ true = ap (row_fits d.units d.rows) (sym e) ∙ h.rows.each r in
      let z : k ≡ 0 → ⊥ = (λ y. omega (arith, ltb-true 0 k (fits-key d.units d.rows n s l k f))) in
      let g : get_or words (length d.units + r) 0 ≡ k = row_word d.units d.rows r lr ∙ ap (λ q. key_or q 0) e in
      let ws = serials d.units (set d.rows r x) in
      let fewer = cleared words (length d.units + r) (word-within r lt) k g z ∙ ap (λ w. adds k (collect w)) (sym (row_written d.units d.rows r lr x)) in
      let drop = drop-kept d.next d.vault words h.keys ws k fewer in (
        record {
          usable = h.usable;
          capacity = ap can_be_capacity (drop-capacity d.vault k) ∙ h.capacity;
          next = h.next;
          policy = policy-set r x refl;
          units = h.units;
          rows = rows-free d.units d.rows h.rows r x lt (ap is_global e) refl refl (λ i m a b c _ _. ap (unit_row_of m) e);
          keys = drop.1;
        },
        ((drop.0, tt), refl),
      )

  freed-unit : (r n : ℕ) → kind_of d r ≡ UnitRow n → is_there (RangeRowOf n) d.rows ≡ false → Sound (freed d r)
  freed-unit r n e none =
      let x : Row = anew Free (row_of d r) in
      let lt = in_table d.units d.rows h.rows r (ap is_free e) in
      row-sound r x lt refl (sym (ap (λ q. key_or q 0) e))
      (rows-free d.units d.rows h.rows r x lt (ap is_global e) refl refl (λ i m a b c _ f.
      let q : eqb m n ≡ false = sym (ap (range_row_of n) f) ∙ none-at d.units d.rows h.rows (RangeRowOf n) refl none i in
      ap (unit_row_of m) e ∙ (let y : eqb n m ≡ false = grind (arith, nat_tests) in y)))

  pub given-up-sound : (r : ℕ) (keep : Bool) (kind : Kind) → kind_of d r ≡ kind → (is_a_unit_row kind && is_there (RangeRowOf (unit_or kind d.numbering.mark)) d.rows) ≡ false → ((is_a_unit_row kind && not keep) && ltb 4294967295 (d.next + 1)) ≡ false
      → Sound (given_up d r keep kind) × NoneRefused d.vault (requests_of_deassign d keep kind) (given_up d r keep kind).vault
  given-up-sound r keep Free e none last = (h, (tt, refl))
  given-up-sound r keep Global e none last = (h, (tt, refl))
  given-up-sound r true (UnitRow n) e none last = (freed-unit r n e none, (tt, refl))
  given-up-sound r false (UnitRow n) e none last = let f = fresh-sound (freed d r) (freed-unit r n e none) (omega (arith, ltb-false 4294967295 (d.next + 1) last)) (TheUnit n) (ap (row_fits d.units d.rows) (sym e) ∙ h.rows.each r) in (f.0, ((f.1, tt), refl))
  given-up-sound r keep (RangeRow n s l k) e none last = freed-range r n s l k e

  -- ---- fresh keys
  pub generated-sound : (r : ℕ) → ltb 4294967295 (d.next + length (holders_of d r (kind_of d r))) ≡ false → Sound (key_generated d r) × NoneRefused d.vault (swaps d (holders_of d r (kind_of d r))) (key_generated d r).vault
  generated-sound r last = renewed-sound d (holders_of d r (kind_of d r)) h (valid-of-row d h r (kind_of d r) refl) (ltb-false _ _ last)

  pub format-sound : (n : ℕ) → exists n d.units ≡ true → ltb 4294967295 (d.next + length (unit_and_ranges d n)) ≡ false → Sound (formatted d n) × NoneRefused d.vault (swaps d (unit_and_ranges d n)) (formatted d n).vault
  format-sound n ex last = renewed-sound d (unit_and_ranges d n) h (valid-of-unit d n ex) (ltb-false _ _ last)

  -- ---- flags of all rows
  pub reset-sound : Sound (was_reset d)
  reset-sound =
      let make : Row → Row = λ r. with_flags (relocked r.flags) r in
      alike-sound (map make d.rows) d.policy (length-map d.rows make) (map-alike (λ (r : Row). r.kind) make (λ r. refl) d.rows)
      (λ r l f. ap (λ (x : Row). x.flags) (get_or-map make d.rows r free_row free_row (within d.units d.rows h.rows r l)) ∙ ap relocked (h.rows.blanks r f))
      (policy-alike (map make d.rows) (length-map d.rows make) (map-alike (λ (r : Row). r.standing) make (λ r. refl) d.rows))

  pub reactivate-sound : (selection policy : ℕ) → leb (2 ^ 17) selection ≡ false → ltb 1 policy ≡ false → Sound (reactivated d selection policy)
  reactivate-sound selection policy small low =
      let make = reactivated_row selection in
      let rows = each_row_by make d.rows in
      alike-sound rows (cond (eqb selection 0) 1 policy) (length-each make d.rows) (each-alike make d.rows (λ (r : Row). r.kind) (λ n r. refl))
      (λ r l f. ap (λ (x : Row). x.flags) (row-each make d.rows r (within d.units d.rows h.rows r l)))
      (cond_both (eqb selection 0) 1 policy (λ p. policy_fits p rows ≡ true) (λ _. refl) (λ e. let s = single (eqb-false selection 0 e) in let p = ltb-false 1 policy low in grind (arith, nat_tests)))
    where
      single : selection ≢ 0 → list_any (λ r. is_single_user r.standing) (each_row_by (reactivated_row selection) d.rows) ≡ true
      single z =
          let p = some-bit 17 selection (leb-false _ _ small) z in
          let l : p.0 < length d.rows = omega (arith, p.1, h.rows.seventeen) in
          list_any_at (λ r. is_single_user r.standing) (each_row_by (reactivated_row selection) d.rows) p.0 free_row (omega (arith, length-each (reactivated_row selection) d.rows))
          (ap (λ (x : Row). is_single_user x.standing) (row-each (reactivated_row selection) d.rows p.0 l) ∙ ap (λ b. is_single_user (cond b SingleUser Shared)) p.2)
