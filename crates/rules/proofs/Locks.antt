-- What one call can open.
use Rattle.std.proofs.Common.{◌≡◌, ℕ, zero, suc, ◌≤◌, Bool, true, false, cond, not, ◌&&◌, ◌||◌, eqb, ltb, ◌≢◌, ◌⊎◌, List, [], ◌∷◌, map, length, set, Some, None, Ok, Option, unwrap_or, sym, refl, ap, ◌∙◌, subst, inl, inr, arith}
use Rattle.std.proofs.lemmas.List.{length-map, length-set, get_or_past}
use Rattle.std.proofs.lemmas.Bool.Decides.{nat_tests}
use Rattle.std.specs.List.{list_any}
use Rattle.std.proofs.lemmas.Bool.{cases_Bool, cases_eq, cases_lt, both_ways, and_parts, eqb-true, eq-eqb, ne_eqb, not-false, or_parts, cond-true}
use Rattle.packed.specs.Rising.{lookup}
use Rattle.packed.proofs.Order.{has-insert}
use Rattle.vault.specs.Checks as checks
use Rattle.vault.specs.Checks.{unless}
use Rattle.vault.proofs.Checks.{by_option}
use Rattle.rules.specs.declared.access.Access.{Access}
use Rattle.rules.specs.declared.access.Access.TheVariants.{Read, Write}
use Rattle.rules.specs.declared.call.Accepted.TheVariants.{Success}
use Rattle.rules.specs.declared.call.Call.{Call}
use Rattle.rules.specs.declared.call.Call.TheVariants.{Assign, Deassign, SetRange, SetLocks, GenKey, Erase, Reactivate, Create, Delete, Format, Reset}
use Rattle.rules.specs.declared.row.Flags.{Flags}
use Rattle.rules.specs.declared.row.Kind.{Kind}
use Rattle.rules.specs.declared.row.Kind.TheVariants.{Free, Global, UnitRow, RangeRow}
use Rattle.rules.specs.declared.row.Row.{Row}
use Rattle.rules.specs.declared.row.Sought.TheVariants.{FreeRow, UnitRowOf, RangeRowOf, RangeOver}
use Rattle.rules.specs.declared.row.Standing.{Standing}
use Rattle.rules.specs.declared.unit.Holder.{Holder}
use Rattle.rules.specs.declared.unit.Holder.TheVariants.{TheUnit, TheRow}
use Rattle.rules.specs.declared.unit.LogicalUnit.{LogicalUnit}
use Rattle.rules.specs.Calls.{refusal, left, said, after, Answer, answer}
use Rattle.rules.specs.Commands.{create_checks, create_refusal, new_unit, created, deleted, formatted, was_reset}
use Rattle.rules.specs.Drive.{Drive, with_rows, row_of, kind_of, unit_of, row_locked}
use Rattle.rules.specs.FreshKeys.{key_of, fresh_key, holders_of, renewed_by, unit_and_ranges}
use Rattle.rules.specs.Laws.{has_block, block_key, FreshlyKeyed, SetByOwner}
use Rattle.rules.specs.Methods.{assign_refusal, row_to_take, unit_row_assigned, range_row_assigned, assigned, deassign_checks, freed, given_up, set_range_checks, range_set, set_locks_checks, set_locks_refusal, locks_set, key_generated, erased, reactivate_checks, reactivated}
use Rattle.rules.specs.Questions.{block_locked}
use Rattle.rules.specs.Rows.{blank, is_range_row, locked_for, locked, lock_enabled, relocked, free_row, row, is_free, is_a_unit_row, unit_or, key_or, with_range, with_flags, with_kind, anew, unit_row_of, range_row_of, range_over, suits, lowest_row, is_there, row_under, controlling_row}
use Rattle.rules.specs.Sessions.{in_session, owner}
use Rattle.rules.specs.Sound.{is_global, Sound}
use Rattle.rules.specs.Units.{no_unit, exists, unit, with_unit, without_unit}
use Rattle.rules.proofs.Sounds.{opened, passed, passed-in, take-free}
use Rattle.rules.proofs.Renewals.{alike-fresh, Alike, alike-renewed, alike-kind, alike-control}
use Rattle.rules.proofs.Blocks.{key-is, control-is, control-other, control-global, key-new, key-given, over-parts, Among, under-global}
use Rattle.rules.proofs.InOrder.{renewed-key, fresh-keys-in-order}
use Rattle.rules.proofs.Lookups.{lookup-insert, lookup-remove, has-remove-other, has-remove-same}
use Rattle.rules.proofs.Places.{range-parts}
use Rattle.rules.proofs.RowsKept.{none_passes, within, in_table, not-row-0, none-at, no_other, unit-row-there}
use Rattle.rules.proofs.Searches.{found-is, nowhere, written, unwritten, set-alike, control-as}
use Rattle.rules.proofs.Numbered.{map-alike}
use Rattle.rules.proofs.Steps.{branch-passed, left-kept}

-- ---- flags
unlocked : (access : Access) (f : Flags) → locked f ≡ false → locked_for access f ≡ false
unlocked Read f e = (or_parts _ _ e).0
unlocked Write f e = (or_parts _ _ e).1

not-enabled : (f : Flags) → lock_enabled f ≡ false → locked f ≡ false
not-enabled f e = grind (arith, nat_tests)

relock-keeps : (access : Access) (f : Flags) → locked_for access f ≡ true → locked_for access (relocked f) ≡ true
relock-keeps Read f e = grind (arith, nat_tests)
relock-keeps Write f e = grind (arith, nat_tests)

module _ (access : Access) (n block : ℕ) where
  -- there is no such block, or it is locked
  abbrev pub shut_to : Drive → Bool
  shut_to d = not (has_block d n block) || block_locked d.rows access n block

  abbrev pub Way : Drive → Drive → Call → Answer → Type 0
  Way d e c answered = FreshlyKeyed d e n block ⊎ SetByOwner d n block c answered

  -- the row that controls the block keeps its number and its flags
  locked-as : (rows ss : List Row) → controlling_row ss n block ≡ controlling_row rows n block → (row (controlling_row rows n block) ss).flags ≡ (row (controlling_row rows n block) rows).flags
      → block_locked ss access n block ≡ block_locked rows access n block
  locked-as rows ss c f = ap (λ i. locked_for access (row i ss).flags) c ∙ ap (locked_for access) f

  -- nothing of the block changed
  nothing : (d e : Drive) → has_block e n block ≡ has_block d n block → block_locked e.rows access n block ≡ block_locked d.rows access n block → shut_to d ≡ true → shut_to e ≡ false → ⊥
  nothing d e p q t f = both_ways (shut_to e) f (ap (λ b. not b || block_locked e.rows access n block) p ∙ ap (λ b. not (has_block d n block) || b) q ∙ t)

  there-after : (e : Drive) → shut_to e ≡ false → has_block e n block ≡ true
  there-after e f = not-false _ (or_parts (not (has_block e n block)) _ f).0

  -- a block that is there and shut is locked, so its row is
  not-open : (d : Drive) → shut_to d ≡ true → has_block d n block ≡ true → (r : ℕ) → controlling_row d.rows n block ≡ r → locked (row r d.rows).flags ≡ false → ⊥
  not-open d t b r c u =
      let o : block_locked d.rows access n block ≡ false = ap (λ i. locked_for access (row i d.rows).flags) c ∙ unlocked access (row r d.rows).flags u in
      both_ways (shut_to d) (ap (λ x. not x || block_locked d.rows access n block) b ∙ o) t

  -- ---- keys alone
  alike-shut : (d e : Drive) → Alike d e → shut_to e ≡ shut_to d
  alike-shut d e a =
      ap (λ b. not (b && ltb block (unit n e.units).blocks) || block_locked e.rows access n block) (a.there n)
      ∙ ap (λ k. not (exists n d.units && ltb block k) || block_locked e.rows access n block) (a.blocks n)
      ∙ ap (λ b. not (has_block d n block) || b) (locked-as d.rows e.rows (alike-control d e a n block) (a.flags (controlling_row d.rows n block)))

  alike-opens : (d e : Drive) → Alike d e → shut_to d ≡ true → shut_to e ≡ false → ⊥
  alike-opens d e a t f = both_ways (shut_to e) f (alike-shut d e a ∙ t)

  -- ---- one row is written, and looks for the block as before
  module _ (d : Drive) (r : ℕ) (x : Row) (over : range_over n block x.kind ≡ range_over n block (kind_of d r)) (under : unit_row_of n x.kind ≡ unit_row_of n (kind_of d r)) where
    same-control : controlling_row (set d.rows r x) n block ≡ controlling_row d.rows n block
    same-control = control-as d.rows n block (set d.rows r x) (length-set d.rows r x) (set-alike d.rows r x (λ y. range_over n block y.kind) over) (set-alike d.rows r x (λ y. unit_row_of n y.kind) under)

    -- another row is the block's
    other-row : controlling_row d.rows n block ≢ r → shut_to d ≡ true → shut_to (with_rows (set d.rows r x) d) ≡ false → ⊥
    other-row ne = nothing d (with_rows (set d.rows r x) d) refl (locked-as d.rows (set d.rows r x) same-control (ap (λ (y : Row). y.flags) (unwritten d.rows r x (controlling_row d.rows n block) ne)))

  set-locks-opens : (d : Drive) (caller r : ℕ) (flags : Flags) → in_session caller (set_locks_refusal d caller r) ≡ None → shut_to d ≡ true → shut_to (locks_set d r flags) ≡ false → SetByOwner d n block (SetLocks caller r flags) (Ok Success)
  set-locks-opens d caller r flags e t f = elim (cases_eq (controlling_row d.rows n block) r) [
    | inr other ↦ absurd (other-row d r (with_flags flags (row_of d r)) refl refl other t f)
    | inl same ↦
        let p = passed-in d (set_locks_checks d caller r) caller e in
        let o : caller ≡ owner r (row_of d r) = eqb-true caller (owner r (row_of d r)) (not-false _ p.1.1.0) in
        record {
          there = there-after (locks_set d r flags) f;
          caller = caller;
          flags = flags;
          call_is = ap (λ k. SetLocks caller k flags) (sym same);
          owns = o ∙ ap (λ k. owner k (row_of d k)) (sym same);
          accepted = refl;
        }
  ]

  reset-opens : (d : Drive) → shut_to d ≡ true → shut_to (was_reset d) ≡ false → ⊥
  reset-opens d t f =
      let ss = map again d.rows in
      let c = control-as d.rows n block ss (length-map d.rows again) (map-alike (λ y. range_over n block y.kind) again (λ r. refl) d.rows) (map-alike (λ y. unit_row_of n y.kind) again (λ r. refl) d.rows) in
      let q = or_parts (not (has_block (was_reset d) n block)) (block_locked ss access n block) f in
      both_ways (block_locked ss access n block) q.1 (ap (λ i. locked_for access (row i ss).flags) c ∙ kept d.rows (controlling_row d.rows n block) (ap (λ b. b || block_locked d.rows access n block) (sym q.0) ∙ t))
    where
      again : Row → Row
      again r = with_flags (relocked r.flags) r

      kept : (rows : List Row) (i : ℕ) → locked_for access (row i rows).flags ≡ true → locked_for access (row i (map again rows)).flags ≡ true
      kept [] i e = e
      kept (r ∷ rs) zero e = relock-keeps access r.flags e
      kept (r ∷ rs) (suc i) e = kept rs i e

  -- no lock is enabled, so no block was locked
  reactivate-opens : (d : Drive) (selection policy : ℕ) → list_any (λ r. lock_enabled r.flags) d.rows ≡ false → shut_to d ≡ true → shut_to (reactivated d selection policy) ≡ false → ⊥
  reactivate-opens d selection policy free t f = not-open d t (there-after (reactivated d selection policy) f) (controlling_row d.rows n block) refl (open_row (controlling_row d.rows n block))
    where
      open_row : (i : ℕ) → locked (row i d.rows).flags ≡ false
      open_row i = elim (cases_lt i (length d.rows)) [
        | inl l ↦ not-enabled (row i d.rows).flags (none_passes (λ r. lock_enabled r.flags) d.rows free i free_row l)
        | inr g ↦ ap (λ (y : Row). locked y.flags) (get_or_past d.rows i free_row g)
      ]

  -- ---- units
  -- the unit keeps its number and its blocks
  same_block : (us vs : List LogicalUnit) → exists n vs ≡ exists n us → lookup (λ (u : LogicalUnit). u.number) n vs ≡ lookup (λ (u : LogicalUnit). u.number) n us → (exists n vs && ltb block (unit n vs).blocks) ≡ (exists n us && ltb block (unit n us).blocks)
  same_block us vs p q = ap (λ b. b && ltb block (unit n vs).blocks) p ∙ ap (λ (o : Option LogicalUnit). exists n us && ltb block (unwrap_or o no_unit).blocks) q

  create-opens : (d : Drive) (k blocks : ℕ) → Sound d → Sound (created d k blocks) → create_refusal d k blocks ≡ None → shut_to d ≡ true → shut_to (created d k blocks) ≡ false → FreshlyKeyed d (created d k blocks) n block
  create-opens d k blocks h s e t f =
      let p = passed d (create_checks d k blocks) e in
      let fresh : exists k d.units ≡ false = p.1.0 in
      let u : LogicalUnit = new_unit d k blocks in
      let us = with_unit u d.units in
      let found = lookup-insert (λ (v : LogicalUnit). v.number) n u d.units fresh in
      elim (cases_eq k n) [
        | inr other ↦
            let ne = ne_eqb k n other in
            absurd (nothing d (created d k blocks) (same_block d.units us (has-insert (λ (v : LogicalUnit). v.number) n u d.units ∙ ap (λ b. b || exists n d.units) ne) (found ∙ ap (λ b. cond b (Some u) (lookup (λ (v : LogicalUnit). v.number) n d.units)) ne)) refl t f)
        | inl same ↦
            let b = there-after (created d k blocks) f in
            let ex : exists n us ≡ true = (and_parts (exists n us) _ b).0 in
            let is : unit n us ≡ u = ap (λ (o : Option LogicalUnit). unwrap_or o no_unit) (found ∙ cond-true (eqb k n) _ _ (eq-eqb k n same)) in
            let key : block_key (created d k blocks) n block ≡ d.next = key-is (created d k blocks) n block ex ∙ ap (λ (v : LogicalUnit). key_or (kind_of d (controlling_row d.rows n block)) v.serial) is ∙ key-new d.units d.rows h.rows n block d.next (ap (λ j. exists j d.units) (sym same) ∙ fresh) in
            record { there = b; fresh = omega (arith, key); given = key-given (created d k blocks) s n block ex }
      ]

  delete-opens : (d : Drive) (k : ℕ) → Sound d → shut_to d ≡ true → shut_to (deleted d k) ≡ false → ⊥
  delete-opens d k h t f = elim (cases_eq n k) [
    | inr other ↦ nothing d (deleted d k) (same_block d.units (without_unit k d.units) (has-remove-other (λ (v : LogicalUnit). v.number) n k d.units other) (lookup-remove (λ (v : LogicalUnit). v.number) n k d.units other)) refl t f
    | inl same ↦
        let b = there-after (deleted d k) f in
        both_ways (exists n (without_unit k d.units)) (ap (λ j. exists n (without_unit j d.units)) (sym same) ∙ has-remove-same (λ (v : LogicalUnit). v.number) n 0 d.units h.units.ordered) (and_parts _ _ b).0
  ]

  -- ---- one row is written
  module _ (d : Drive) (h : Sound d) (r : ℕ) (x : Row) where
    -- it has to do with the block neither before nor after
    elsewhere : is_global (kind_of d r) ≡ false → range_over n block (kind_of d r) ≡ false → range_over n block x.kind ≡ false → unit_row_of n (kind_of d r) ≡ false → unit_row_of n x.kind ≡ false
        → shut_to d ≡ true → shut_to (with_rows (set d.rows r x) d) ≡ false → ⊥
    elsewhere g o o' u u' = other-row d r x (o' ∙ sym o) (u' ∙ sym u) (control-other d.units d.rows h.rows n block r (not-row-0 d.units d.rows h.rows r g) o u)

    -- the row that covered the block controlled it
    covered : range_over n block (kind_of d r) ≡ true → controlling_row d.rows n block ≡ r
    covered o = ap (λ i. unwrap_or i (row_under d.rows n)) (found-is (RangeOver n block) d.rows (h.rows.ranges n block) r (within d.units d.rows h.rows r (in_table d.units d.rows h.rows r (ap is_free (over-parts n block (kind_of d r) o).3))) o)

  unit-row-opens : (d : Drive) (k : ℕ) (standing : Standing) → Sound d → is_there (UnitRowOf k) d.rows ≡ false → is_there (FreeRow standing) d.rows ≡ true → row_locked d 0 ≡ false
      → shut_to d ≡ true → shut_to (unit_row_assigned d k standing) ≡ false → ⊥
  unit-row-opens d k standing h none free top t f =
      let r = row_to_take d standing in
      let x : Row = anew (UnitRow k) (row_of d r) in
      let fr = (take-free d h standing free).1 in
      elim (cases_eq k n) [
        | inr other ↦ elsewhere d h r x (ap is_global fr) (ap (range_over n block) fr) refl (ap (unit_row_of n) fr) (ne_eqb k n other) t f
        | inl same ↦ not-open d t (there-after (unit_row_assigned d k standing) f) 0 (control-global d.units d.rows h.rows n block (ap (λ j. is_there (UnitRowOf j) d.rows) (sym same) ∙ none)) top
      ]

  range-row-opens : (d : Drive) (k start len : ℕ) (standing : Standing) → Sound d → Sound (range_row_assigned d k start len standing) → is_there (FreeRow standing) d.rows ≡ true
      → shut_to d ≡ true → shut_to (range_row_assigned d k start len standing) ≡ false → FreshlyKeyed d (range_row_assigned d k start len standing) n block
  range-row-opens d k start len standing h s free t f =
      let r = row_to_take d standing in
      let e = range_row_assigned d k start len standing in
      let x : Row = anew (RangeRow k start len d.next) (row_of d r) in
      let fr = take-free d h standing free in
      let l = within d.units d.rows h.rows r fr.0 in
      elim (cases_Bool (range_over n block x.kind)) [
        | inr off ↦ absurd (elsewhere d h r x (ap is_global fr.1) (ap (range_over n block) fr.1) off (ap (unit_row_of n) fr.1) refl t f)
        | inl on ↦
            let b = there-after e f in
            let ex = (and_parts (exists n d.units) _ b).0 in
            let w = written d.rows r x l in
            let c : controlling_row e.rows n block ≡ r = covered e s r x (ap (λ (y : Row). range_over n block y.kind) w ∙ on) in
            let key : block_key e n block ≡ d.next = key-is e n block ex ∙ ap (λ i. key_or (kind_of e i) (unit n d.units).serial) c ∙ ap (λ (y : Row). key_or y.kind (unit n d.units).serial) w in
            record { there = b; fresh = omega (arith, key); given = key-given e s n block ex }
      ]

  -- a row that is given up was open, and so is what takes its blocks over
  given-up-opens : (d : Drive) (r : ℕ) (keep : Bool) (kind : Kind) → Sound d → kind_of d r ≡ kind → (is_a_unit_row kind && is_there (RangeRowOf (unit_or kind d.numbering.mark)) d.rows) ≡ false → row_locked d r ≡ false
      → shut_to d ≡ true → shut_to (given_up d r keep kind) ≡ false → ⊥
  given-up-opens d r keep Free h e none u t f = both_ways (shut_to d) f t
  given-up-opens d r keep Global h e none u t f = both_ways (shut_to d) f t
  given-up-opens d r keep (RangeRow k s l q) h e none u t f =
      let x : Row = anew Free (row_of d r) in
      elim (cases_Bool (range_over n block (kind_of d r))) [
        | inl on ↦ not-open d t (there-after (given_up d r keep (RangeRow k s l q)) f) r (covered d h r x on) u
        | inr off ↦ elsewhere d h r x (ap is_global e) off refl (ap (unit_row_of n) e) refl t f
      ]
  given-up-opens d r keep (UnitRow k) h e none u t f = freed-opens (elim (cases_Bool keep) [
    | inl y ↦ subst (λ b. shut_to (cond b (freed d r) (fresh_key (freed d r) (TheUnit k))) ≡ false) y f
    | inr y ↦ sym (alike-shut (freed d r) (fresh_key (freed d r) (TheUnit k)) (alike-fresh (freed d r) (TheUnit k))) ∙ subst (λ b. shut_to (cond b (freed d r) (fresh_key (freed d r) (TheUnit k))) ≡ false) y f
  ])
    where
      freed-opens : shut_to (freed d r) ≡ false → ⊥
      freed-opens g =
          let x : Row = anew Free (row_of d r) in
          let over : range_over n block (kind_of d r) ≡ false = ap (range_over n block) e in
          elim (cases_eq k n) [
            | inr other ↦ elsewhere d h r x (ap is_global e) over refl (ap (unit_row_of n) e ∙ ne_eqb k n other) refl t g
            | inl same ↦ not-open d t (there-after (freed d r) g) r (control-is d.units d.rows h.rows n block (λ i. i ≡ r)
                (λ i a b c q _. absurd (both_ways (range_row_of k (kind_of d i)) (none-at d.units d.rows h.rows (RangeRowOf k) refl none i) (ap (range_row_of k) q ∙ eq-eqb n k (sym same))))
                (λ i _ q. h.rows.unit_rows n i r (ap (unit_row_of n) q ∙ eq-eqb n n refl) (ap (unit_row_of n) e ∙ eq-eqb k n same))
                (λ _ q. absurd (both_ways (is_there (UnitRowOf n) d.rows) q (unit-row-there d.units d.rows h.rows r n (e ∙ ap UnitRow same))))) u
          ]

  -- blocks go between the row and its unit row, which are both open
  set-range-opens : (d : Drive) (r start len k s l q : ℕ) → Sound d → Sound (range_set d r start len) → kind_of d r ≡ RangeRow k s l q → row_locked d r ≡ false → row_locked d (row_under d.rows k) ≡ false
      → shut_to d ≡ true → shut_to (range_set d r start len) ≡ false → ⊥
  set-range-opens d r start len k s l q h g e own under t f =
      let x : Row = with_kind (with_range start len (kind_of d r)) (row_of d r) in
      let xe : x.kind ≡ RangeRow k start len q = ap (with_range start len) e in
      let lt = within d.units d.rows h.rows r (in_table d.units d.rows h.rows r (ap is_free e)) in
      let b = there-after (range_set d r start len) f in
      elim (cases_Bool (range_over n block (kind_of d r))) [
        | inl on ↦ not-open d t b r (covered d h r x on) own
        | inr off ↦ elim (cases_Bool (range_over n block x.kind)) [
          | inr still ↦ elsewhere d h r x (ap is_global e) off still (ap (unit_row_of n) e) (ap (unit_row_of n) xe) t f
          | inl new ↦
              let mine : suits (RangeOver n block) (row r (set d.rows r x)) ≡ true = ap (λ (y : Row). range_over n block y.kind) (written d.rows r x lt) ∙ new in
              let none : lowest_row (RangeOver n block) d.rows ≡ None = nowhere (RangeOver n block) d.rows (λ i _. elim (cases_eq i r) [
                | inl ir ↦ ap (λ j. range_over n block (kind_of d j)) ir ∙ off
                | inr ne ↦ ap (λ (y : Row). range_over n block y.kind) (sym (unwritten d.rows r x i ne)) ∙ no_other d.units (set d.rows r x) g.rows (RangeOver n block) (g.rows.ranges n block) r mine i ne
              ]) in
              let kn : k ≡ n = eqb-true k n (and_parts (eqb k n) _ (sym (ap (range_over n block) xe) ∙ new)).0 in
              not-open d t b (row_under d.rows k) (ap (λ o. unwrap_or o (row_under d.rows n)) none ∙ ap (row_under d.rows) (sym kn)) under
        ]
      ]

  -- ---- Erase
  module _ (d : Drive) (r : ℕ) (h : Sound d) (s : Sound (erased d r)) where
    abbrev renewed : Drive
    renewed = key_generated d r

    alike : Alike d renewed
    alike = alike-renewed d (holders_of d r (kind_of d r))

    -- what stands in row r with a key of its own, or the unit of the block, is one of those that get fresh keys
    by-holder : (x : Holder) (kind : Kind) → kind_of d r ≡ kind → Among x (holders_of d r kind) → key_of renewed x ≡ cond (is_range_row kind) (key_of renewed (TheRow r)) (key_of renewed (TheUnit n))
        → d.next ≤ key_or (kind_of renewed r) (key_of renewed (TheUnit n))
    by-holder x kind e m same =
        let own = own-or (kind_of renewed r) (key_of renewed (TheUnit n)) ∙ ap (λ b. cond b (key_of renewed (TheRow r)) (key_of renewed (TheUnit n))) (alike-kind d renewed alike is_range_row (λ _ _ _ _ _. refl) r ∙ ap is_range_row e) in
        omega (arith, renewed-key d (renewed_by d r) ((fresh-keys-in-order d h).0 r) x (subst (λ k. Among x (holders_of d r k)) (sym e) m), own ∙ sym same)
      where
        own-or : (kind : Kind) (other : ℕ) → key_or kind other ≡ cond (is_range_row kind) (key_or kind 0) other
        own-or Free other = refl
        own-or Global other = refl
        own-or (UnitRow u) other = refl
        own-or (RangeRow u s l k) other = refl

    -- the row that is blanked has a fresh key, or its unit, or each unit under it
    fresh-key : exists n d.units ≡ true → controlling_row d.rows n block ≡ r → d.next ≤ key_or (kind_of renewed r) (unit n renewed.units).serial
    fresh-key ex = control-is d.units d.rows h.rows n block (λ i. i ≡ r → d.next ≤ key_or (kind_of renewed r) (unit n renewed.units).serial)
        (λ i s l q e _ is. by-holder (TheRow r) (RangeRow n s l q) (ap (kind_of d) (sym is) ∙ e) (inl refl) refl)
        (λ i _ e is. by-holder (TheUnit n) (UnitRow n) (ap (kind_of d) (sym is) ∙ e) (inl refl) refl)
        (λ _ none is. by-holder (TheUnit n) Global (ap (kind_of d) (sym is) ∙ h.rows.global) (under-global d.rows d.units n ex none) refl)

    erase-opens : shut_to d ≡ true → shut_to (erased d r) ≡ false → FreshlyKeyed d (erased d r) n block
    erase-opens t f = elim (cases_eq (controlling_row d.rows n block) r) [
      | inr other ↦ absurd (other-row renewed r (with_flags blank (row_of renewed r)) refl refl (λ q. other (sym (alike-control d renewed alike n block) ∙ q)) (alike-shut d renewed alike ∙ t) f)
      | inl same ↦
          let e = erased d r in
          let b = there-after e f in
          let ex : exists n e.units ≡ true = (and_parts (exists n e.units) _ b).0 in
          let c : controlling_row e.rows n block ≡ r = same-control renewed r (with_flags blank (row_of renewed r)) refl refl ∙ alike-control d renewed alike n block ∙ same in
          let kind : kind_of e r ≡ kind_of renewed r = set-alike renewed.rows r (with_flags blank (row_of renewed r)) (λ (y : Row). y.kind) refl r in
          let key : block_key e n block ≡ key_or (kind_of renewed r) (unit n renewed.units).serial = key-is e n block ex ∙ ap (λ i. key_or (kind_of e i) (unit n e.units).serial) c ∙ ap (λ k. key_or k (unit n e.units).serial) kind in
          let fresh = fresh-key (sym (alike.there n) ∙ ex) same in
          record { there = b; fresh = subst (λ k. d.next ≤ k) (sym key) fresh; given = key-given e s n block ex }
    ]

  -- ---- any call
  assign-opens : (d : Drive) (caller k start len : ℕ) (standing : Standing) → Sound d → Sound (assigned d k start len standing) → assign_refusal d caller k start len standing ≡ None
      → shut_to d ≡ true → shut_to (assigned d k start len standing) ≡ false → FreshlyKeyed d (assigned d k start len standing) n block
  assign-opens d caller k start len standing h s e t f =
      let branch = branch-passed d caller k start len standing e in
      let chosen : Bool → Drive = λ b. cond b (range_row_assigned d k start len standing) (unit_row_assigned d k standing) in
      elim (cases_Bool (is_there (UnitRowOf k) d.rows)) [
        | inl u ↦
            let q = branch true u in
            subst (λ b. FreshlyKeyed d (chosen b) n block) (sym u) (range-row-opens d k start len standing h (subst (λ b. Sound (chosen b)) u s) (not-false _ q.1.1.1.1.0) t (subst (λ b. shut_to (chosen b) ≡ false) u f))
        | inr u ↦
            let q = branch false u in
            absurd (unit-row-opens d k standing h u (not-false _ q.1.1.1.0) q.1.1.0 t (subst (λ b. shut_to (chosen b) ≡ false) u f))
      ]

  left-opens : (d : Drive) (c : Call) → Sound d → Sound (left d c) → refusal d c ≡ None → shut_to d ≡ true → shut_to (left d c) ≡ false → FreshlyKeyed d (left d c) n block ⊎ SetByOwner d n block c (Ok (said d c))
  left-opens d (Assign caller k start len standing) h s e t f = inl (assign-opens d caller k start len standing h s (opened caller _ e) t f)
  left-opens d (Deassign caller r keep) h s e t f =
      let p = passed-in d (deassign_checks d caller r keep) caller e in
      absurd (given-up-opens d r keep (kind_of d r) h refl p.1.1.1.1.1.1.0 (or_parts _ _ p.1.1.1.1.1.1.1.0).0 t f)
  left-opens d (SetRange caller r start len) h s e t f =
      let p = passed-in d (set_range_checks d caller r start len) caller e in
      let q = range-parts (kind_of d r) (not-false _ p.1.1.0) in
      let o = or_parts (row_locked d r) (row_locked d (row_under d.rows (unit_of d r))) p.1.1.1.1.1.1.0 in
      absurd (set-range-opens d r start len q.0 q.1 q.2 q.3 h s q.4 o.0 (ap (λ k. row_locked d (row_under d.rows (unit_or k d.numbering.mark))) (sym q.4) ∙ o.1) t f)
  left-opens d (SetLocks caller r flags) h s e t f = inr (set-locks-opens d caller r flags e t f)
  left-opens d (GenKey caller r) h s e t f = absurd (alike-opens d (key_generated d r) (alike-renewed d (holders_of d r (kind_of d r))) t f)
  left-opens d (Erase caller r) h s e t f = inl (erase-opens d r h s t f)
  left-opens d (Reactivate caller selection policy) h s e t f =
      let p = passed-in d (reactivate_checks d caller selection policy) caller e in
      absurd (reactivate-opens d selection policy p.1.1.0 t f)
  left-opens d (Create k blocks) h s e t f = inl (create-opens d k blocks h s e t f)
  left-opens d (Delete k) h s e t f = absurd (delete-opens d k h t f)
  left-opens d (Format k) h s e t f = absurd (alike-opens d (formatted d k) (alike-renewed d (unit_and_ranges d k)) t f)
  left-opens d (Reset caller) h s e t f = absurd (reset-opens d t f)

  pub after-opens : (d : Drive) (c : Call) → Sound d → shut_to d ≡ true → shut_to (after d c) ≡ false → Way d (after d c) c (answer d c)
  after-opens d c h t f = by_option (refusal d c) (λ o. shut_to (unless o d (left d c)) ≡ false → Way d (unless o d (left d c)) c (checks.answer o (said d c)))
      (λ e f. left-opens d c h (left-kept d h c e).0 e t f)
      (λ _ _ f. absurd (both_ways (shut_to d) f t))
      f
