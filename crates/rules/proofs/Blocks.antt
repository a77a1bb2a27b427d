-- A block of a unit: its row and its key.
use Rattle.std.proofs.Common.{◌≡◌, ℕ, ◌<◌, true, false, not, eqb, ◌≢◌, ◌⊎◌, List, [], ◌∷◌, map, is_some, None, filter, sym, refl, ap, ◌∙◌, subst, inl, inr, arith}
use Rattle.std.proofs.lemmas.Bool.Decides.{nat_tests}
use Rattle.std.proofs.lemmas.Bool.{cases_eq, both_ways, and_parts, eqb-true, true≢false, cond_both, not-true, not-false}
use Rattle.packed.specs.Rising.{has}
use Rattle.rules.specs.declared.row.Kind.{Kind}
use Rattle.rules.specs.declared.row.Kind.TheVariants.{Free, Global, UnitRow, RangeRow}
use Rattle.rules.specs.declared.row.Row.{Row}
use Rattle.rules.specs.declared.row.Sought.TheVariants.{UnitRowOf, RangeOver}
use Rattle.rules.specs.declared.unit.Holder.{Holder}
use Rattle.rules.specs.declared.unit.Holder.TheVariants.{TheUnit, TheRow}
use Rattle.rules.specs.declared.unit.LogicalUnit.{LogicalUnit}
use Rattle.rules.specs.Drive.{Drive, kind_of}
use Rattle.rules.specs.FreshKeys.{key_of, HasKey, units_under_global}
use Rattle.rules.specs.Laws.{block_key}
use Rattle.rules.specs.Rows.{row, is_range_row, key_or, covers, unit_row_of, range_over, lowest_row, is_there, controlling_row, has_unit_row}
use Rattle.rules.specs.Sound.{row_fits, SoundRows, Sound}
use Rattle.rules.specs.Units.{no_unit, exists, unit}
use Rattle.rules.proofs.Places.{key-held}
use Rattle.rules.proofs.Lookups.{lookup_key}
use Rattle.rules.proofs.RowsKept.{unit-row-there, fits-exists, fits_under}
use Rattle.rules.proofs.Searches.{hit, control-by}

-- the unit that is found has the number that is looked for
pub key-is : (d : Drive) (n block : ℕ) → exists n d.units ≡ true → block_key d n block ≡ key_or (kind_of d (controlling_row d.rows n block)) (unit n d.units).serial
key-is d n block ex = ap (λ k. key_or (kind_of d (controlling_row d.rows k block)) (unit n d.units).serial) (lookup_key (λ (u : LogicalUnit). u.number) n d.units no_unit ex)

-- what a row that covers a block, or a unit row, is
pub over-parts : (n block : ℕ) (kind : Kind) → range_over n block kind ≡ true → (start len serial : ℕ) × (kind ≡ RangeRow n start len serial)
over-parts n block Free h = absurd (true≢false (sym h))
over-parts n block Global h = absurd (true≢false (sym h))
over-parts n block (UnitRow u) h = absurd (true≢false (sym h))
over-parts n block (RangeRow u s l k) h = (s, l, k, ap (λ v. RangeRow v s l k) (eqb-true u n (and_parts (eqb u n) (covers s l block) h).0))

pub unit-row-is : (n : ℕ) (kind : Kind) → unit_row_of n kind ≡ true → kind ≡ UnitRow n
unit-row-is n Free h = absurd (true≢false (sym h))
unit-row-is n Global h = absurd (true≢false (sym h))
unit-row-is n (UnitRow u) h = ap UnitRow (eqb-true u n h)
unit-row-is n (RangeRow u s l k) h = absurd (true≢false (sym h))

module _ (units : List LogicalUnit) (rows : List Row) (h : SoundRows units rows) (n block : ℕ) where
  -- the row of a block is a range row of its unit, its unit row, or row 0 where there is none
  pub control-is : (Q : ℕ → Type 0)
      → ((i start len serial : ℕ) → (row i rows).kind ≡ RangeRow n start len serial → range_over n block (row i rows).kind ≡ true → Q i)
      → ((i : ℕ) → lowest_row (RangeOver n block) rows ≡ None → (row i rows).kind ≡ UnitRow n → Q i)
      → (lowest_row (RangeOver n block) rows ≡ None → is_there (UnitRowOf n) rows ≡ false → Q 0)
      → Q (controlling_row rows n block)
  control-is Q f g z = control-by rows n block Q
      (λ i e. let t = hit (RangeOver n block) rows i e in let p = over-parts n block (row i rows).kind t in f i p.0 p.1 p.2 p.3 t)
      (λ i none e. g i none (unit-row-is n (row i rows).kind (hit (UnitRowOf n) rows i e)))
      (λ none e. z none (ap is_some e))

  -- a row that neither covers the block nor is the unit row does not control it
  pub control-other : (r : ℕ) → 0 < r → range_over n block (row r rows).kind ≡ false → unit_row_of n (row r rows).kind ≡ false → controlling_row rows n block ≢ r
  control-other r p o u = control-by rows n block (λ k. k ≢ r)
      (λ i e q. both_ways (range_over n block (row r rows).kind) o (ap (λ k. range_over n block (row k rows).kind) (sym q) ∙ hit (RangeOver n block) rows i e))
      (λ i _ e q. both_ways (unit_row_of n (row r rows).kind) u (ap (λ k. unit_row_of n (row k rows).kind) (sym q) ∙ hit (UnitRowOf n) rows i e))
      (λ _ _ q. omega arith)

  -- the blocks of a unit without a unit row are under row 0
  pub control-global : is_there (UnitRowOf n) rows ≡ false → controlling_row rows n block ≡ 0
  control-global none = control-is (λ k. k ≡ 0)
      (λ i s l k e _. absurd (both_ways (is_there (UnitRowOf n) rows) none (fits_under units rows n s l k (ap (row_fits units rows) (sym e) ∙ h.each i))))
      (λ i _ e. absurd (both_ways (is_there (UnitRowOf n) rows) none (unit-row-there units rows h i n e)))
      (λ _ _. refl)

  -- a unit that is not there has no range row, so its blocks would have its key
  pub key-new : (s : ℕ) → exists n units ≡ false → key_or (row (controlling_row rows n block) rows).kind s ≡ s
  key-new s new = control-is (λ i. key_or (row i rows).kind s ≡ s)
      (λ i a l k e _. absurd (both_ways (exists n units) new (fits-exists units rows n a l k (ap (row_fits units rows) (sym e) ∙ h.each i))))
      (λ i _ e. ap (λ k. key_or k s) e)
      (λ _ _. ap (λ k. key_or k s) h.global)

-- ---- every key was given
module _ (d : Drive) (h : Sound d) where
  holder-given : (holder : Holder) → HasKey d holder → key_of d holder < d.next
  holder-given holder v = h.keys.given (key_of d holder) (key-held d h holder v)

  row-given : (r n start len serial : ℕ) → kind_of d r ≡ RangeRow n start len serial → serial < d.next
  row-given r n start len serial e = subst (λ k. key_or k 0 < d.next) e (holder-given (TheRow r) (ap is_range_row e))

  pub key-given : (n block : ℕ) → exists n d.units ≡ true → block_key d n block < d.next
  key-given n block ex = subst (λ k. k < d.next) (sym (key-is d n block ex)) (control-is d.units d.rows h.rows n block (λ i. key_or (kind_of d i) (unit n d.units).serial < d.next)
      (λ i s l k e _. subst (λ q. key_or q (unit n d.units).serial < d.next) (sym e) (row-given i n s l k e))
      (λ i _ e. subst (λ q. key_or q (unit n d.units).serial < d.next) (sym e) (holder-given (TheUnit n) ex))
      (λ _ _. subst (λ q. key_or q (unit n d.units).serial < d.next) (sym h.rows.global) (holder-given (TheUnit n) ex)))

-- ---- the units under row 0
abbrev pub Among : {A : Type 0} → A → List A → Type 0
Among x [] = ⊥
Among x (y ∷ ys) = (y ≡ x) ⊎ Among x ys

-- what holds of the units under row 0 with and without the first unit
pub under-by : (rows : List Row) (u : LogicalUnit) (us : List LogicalUnit) (P : List Holder → Type 0) → (has_unit_row u.number rows ≡ false → P (TheUnit u.number ∷ units_under_global rows us)) → (has_unit_row u.number rows ≡ true → P (units_under_global rows us))
    → P (units_under_global rows (u ∷ us))
under-by rows u us P with without =
    let others = filter (λ (v : LogicalUnit). not (has_unit_row v.number rows)) us in
    cond_both (not (has_unit_row u.number rows)) (u ∷ others) others (λ vs. P (map (λ (v : LogicalUnit). TheUnit v.number) vs)) (λ e. with (not-true _ e)) (λ e. without (not-false _ e))

pub under-global : (rows : List Row) (us : List LogicalUnit) (n : ℕ) → exists n us ≡ true → has_unit_row n rows ≡ false → Among (TheUnit n) (units_under_global rows us)
unfolding has
under-global rows [] n ex f = absurd (true≢false (sym ex))
under-global rows (u ∷ us) n ex f = elim (cases_eq u.number n) [
  | inl e ↦ under-by rows u us (Among (TheUnit n)) (λ _. inl (ap TheUnit e)) (λ t. absurd (both_ways (has_unit_row n rows) f (ap (λ k. has_unit_row k rows) (sym e) ∙ t)))
  | inr d ↦
      let later = under-global rows us n (let r : exists n us ≡ true = grind (arith, nat_tests) in r) f in
      under-by rows u us (Among (TheUnit n)) (λ _. inr later) (λ _. later)
]
