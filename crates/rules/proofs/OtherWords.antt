-- What some of the definitions come to, in other words.
use Rattle.std.proofs.Common.{◌≡◌, ℕ, zero, suc, ◌+◌, ◌/◌, ◌%◌, ◌^◌, ◌<◌, ◌≤◌, max, Bool, true, false, cond, not, ◌||◌, eqb, ltb, leb, List, [], ◌∷◌, map, length, Some, None, filter, Option, sym, refl, ap, ◌∙◌, subst, inl, inr, add-one, arith, shr_lt}
use lib.Count.{ones, ones_in, ones_step}
use Rattle.std.proofs.lemmas.Bool.Decides.{nat_tests}
use Rattle.std.proofs.lemmas.Bool.{cases_Bool, cases_eq, leb-false, eqb-true, eqb-false, or_parts}
use Rattle.std.specs.List.{find, range_with_len}
use Rattle.std.specs.Option.{option_or}
use Rattle.vault.specs.Checks.{first_of, unless}
use Rattle.vault.proofs.Checks.{accepted-with}
use Rattle.rules.specs.declared.call.Accepted.TheVariants.{SingleUserRows}
use Rattle.rules.specs.declared.call.Call.{Call}
use Rattle.rules.specs.declared.call.Call.TheVariants.{Reactivate}
use Rattle.rules.specs.declared.cause.Cause.{Cause}
use Rattle.rules.specs.declared.cause.Cause.TheVariants.{NoSuchUnit, BlockOutOfRange, BlockLocked, Closed}
use Rattle.rules.specs.declared.row.Row.{Row}
use Rattle.rules.specs.declared.row.Standing.TheVariants.{Shared, SingleUser}
use Rattle.rules.specs.Calls.{refusal, after, answer}
use Rattle.rules.specs.Laws.{point}
use Rattle.rules.specs.Meanings.{SharingIsACommonBlock, DeniedAtFirstLockedBlock, GrantedWhereNoneLocked, single_user_rows, ReactivateCountsRows}
use Rattle.rules.specs.Methods.{reactivate_checks, selected, reactivated_row, reactivated}
use Rattle.rules.specs.Questions.{block_locked, first_locked, denied_at}
use Rattle.rules.specs.Rows.{blank, is_single_user, numbered, controlling_row}
use Rattle.rules.specs.Units.{exists, unit}
use Rattle.rules.proofs.Sounds.{neither, passed-in}
use Rattle.rules.proofs.Numbered.{each_row_by, each-more, selected-lowest, selected-half}
use Rattle.rules.proofs.Whole.{stays-sound, next-point, answered}

pub sharing-is-a-common-block : SharingIsACommonBlock
sharing-is-a-common-block s l a m = ((λ e. (max s a, grind (arith, nat_tests), grind (arith, nat_tests))), (λ b p q. grind (arith, nat_tests)))

-- ---- the first that passes
module _ (test : ℕ → Bool) where
  first_found : (from count b : ℕ) → find test (range_with_len from count) ≡ Some b → (from ≤ b) × (b < from + count) × (test b ≡ true) × ((c : ℕ) → from ≤ c → c < b → test c ≡ false)
  first_found from zero b e = absurd cc
  first_found from (suc count) b e = elim (cases_Bool (test from)) [
    | inl t ↦ let q : from ≡ b = grind (arith, nat_tests) in (omega arith, omega arith, ap test (sym q) ∙ t, λ c l g. absurd (let y : ⊥ = omega arith in y))
    | inr t ↦
        let p = first_found (from + 1) count b (grind (arith, nat_tests)) in
        (omega (arith, p.0), omega (arith, p.1), p.2, λ c l g. elim (cases_eq c from) [ inl same ↦ ap test same ∙ t | inr other ↦ p.3 c (omega arith) g ])
  ]

  none_found : (from count : ℕ) → find test (range_with_len from count) ≡ None → (c : ℕ) → from ≤ c → c < from + count → test c ≡ false
  none_found from zero e c l g = absurd (let y : ⊥ = omega arith in y)
  none_found from (suc count) e c l g = elim (cases_eq c from) [
    | inl same ↦ ap test same ∙ grind (arith, nat_tests)
    | inr other ↦ none_found (from + 1) count (grind (arith, nat_tests)) c (omega arith) (omega arith)
  ]

-- the checks before it deny no block
before-it : (a b c : Bool) (o : Option Cause) (block r : ℕ) → option_or (first_of ((a, Closed) ∷ (b, NoSuchUnit) ∷ (c, BlockOutOfRange) ∷ [])) o ≡ Some (BlockLocked block r) → o ≡ Some (BlockLocked block r)
before-it true b c o block r e = absurd cc
before-it false true c o block r e = absurd cc
before-it false false true o block r e = absurd cc
before-it false false false o block r e = e

denied-parts : (rows : List Row) (n : ℕ) (o : Option ℕ) (block r : ℕ) → denied_at rows n o ≡ Some (BlockLocked block r) → (o ≡ Some block) × (r ≡ controlling_row rows n block)
denied-parts rows n None block r e = absurd cc
denied-parts rows n (Some b) block r e = let p : b ≡ block = cc in let q : controlling_row rows n b ≡ r = cc in (ap Some p, sym q ∙ ap (controlling_row rows n) p)

granted-parts : (rows : List Row) (n : ℕ) (o : Option ℕ) → denied_at rows n o ≡ None → o ≡ None
granted-parts rows n None e = refl
granted-parts rows n (Some b) e = absurd cc

pub denied-at-first-locked-block : DeniedAtFirstLockedBlock
denied-at-first-locked-block d access n start count block r e =
    let found = first_locked d.rows access n start count in
    let p = denied-parts d.rows n found block r (before-it d.closed (not (exists n d.units)) (eqb count 0 || ltb (unit n d.units).blocks (start + count)) (denied_at d.rows n found) block r e) in
    let q = first_found (block_locked d.rows access n) start count block p.0 in
    record { asked = (q.0, q.1); shut = q.2; row_is = p.1; first = q.3 }

pub granted-where-none-locked : GrantedWhereNoneLocked
granted-where-none-locked d access n start count e =
    let found = first_locked d.rows access n start count in
    none_found (block_locked d.rows access n) start count (granted-parts d.rows n found (neither _ (denied_at d.rows n found) e))

-- ---- rows by the bits of a selection
each-as : (f g : ℕ → Row → Row) → ((n : ℕ) (r : Row) → f n r ≡ g n r) → (rows : List Row) → each_row_by f rows ≡ each_row_by g rows
each-as f g e rows = go (numbered rows)
  where
    go : (es : List (ℕ × Row)) → map (λ entry. f entry.0 entry.1) es ≡ map (λ entry. g entry.0 entry.1) es
    go [] = refl
    go (x ∷ xs) = ap (λ r. r ∷ map (λ entry. f entry.0 entry.1) xs) (e x.0 x.1) ∙ ap (λ rs. g x.0 x.1 ∷ rs) (go xs)

abbrev singles : List Row → List Row
singles rows = filter (λ r. is_single_user r.standing) rows

count-rows : (rows : List Row) (selection : ℕ) → selection < 2 ^ length rows → length (singles (each_row_by (reactivated_row selection) rows)) ≡ ones selection
unfolding ones ones_in
count-rows [] selection l = let z : selection ≡ 0 = omega arith in ap ones (sym z)
count-rows (r ∷ rs) selection l =
    let less : selection / 2 ^ 1 < 2 ^ length rs = shr_lt (length rs) 1 (rw add-one l) in
    let same = each-as (λ n. reactivated_row selection (suc n)) (reactivated_row (selection / 2)) (λ n x. ap (λ b. record { kind = x.kind; standing = cond b SingleUser Shared; flags = blank }) (selected-half selection n)) rs in
    ap (λ xs. length (singles xs)) (each-more (reactivated_row selection) r rs)
    ∙ go (selected selection 0) refl
    (ap (λ xs. length (singles xs)) same ∙ count-rows rs (selection / 2) less) (ones_step selection)
  where
    go : (b : Bool) → selected selection 0 ≡ b
        → length (singles (each_row_by (λ n. reactivated_row selection (suc n)) rs)) ≡ ones (selection / 2)
        → ones selection ≡ selection % 2 + ones (selection / 2)
        → length (singles (record { kind = r.kind; standing = cond b SingleUser Shared; flags = blank } ∷ each_row_by (λ n. reactivated_row selection (suc n)) rs)) ≡ ones selection
    go true e ih step = let o = eqb-true (selection % 2) 1 (sym (selected-lowest selection) ∙ e) in omega arith
    go false e ih step = let o = eqb-false (selection % 2) 1 (sym (selected-lowest selection) ∙ e) in omega arith

pub reactivate-counts-rows : ReactivateCountsRows
reactivate-counts-rows d b calls k caller selection policy count lt is told =
    let p = point d calls k in
    let h = stays-sound d b calls k (omega arith) in
    let c : Call = Reactivate caller selection policy in
    let e = accepted-with (refusal p c) (SingleUserRows count) (SingleUserRows (ones selection)) (sym (ap (answer p) (sym is) ∙ sym (answered d calls k lt) ∙ told)) in
    let checked = passed-in p (reactivate_checks p caller selection policy) caller e.0 in
    let small = leb-false (2 ^ 17) selection (or_parts (leb (2 ^ 17) selection) (ltb 1 policy) checked.1.0).0 in
    let same : ones selection ≡ count = (let q = e.1 in cc) in
    ap single_user_rows (next-point d calls k lt ∙ ap (after p) is ∙ ap (λ o. unless o p (reactivated p selection policy)) e.0)
    ∙ count-rows p.rows selection (subst (λ n. selection < 2 ^ n) (sym h.rows.seventeen) small)
    ∙ same
