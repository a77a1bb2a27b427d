-- One call, of any kind: what it keeps.
use Rattle.std.proofs.Common.{◌≡◌, ℕ, ◌+◌, ◌^◌, Bool, true, false, cond, ltb, leb, List, [], ◌∷◌, None, sym, refl, ap, ◌∙◌, subst, inl, inr}
use Rattle.std.proofs.lemmas.Bool.{cases_Bool, cond_both, not-false, or_parts}
use Rattle.vault.specs.Checks.{unless}
use Rattle.vault.specs.Meaning.{Meaning, put_after, swap_after, drop_after}
use Rattle.vault.proofs.Checks.{Passed, by_option}
use Rattle.rules.specs.declared.row.Kind.{Kind}
use Rattle.rules.specs.declared.row.Kind.TheVariants.{Free, Global, UnitRow, RangeRow}
use Rattle.rules.specs.declared.unit.Holder.{Holder}
use Rattle.rules.specs.declared.unit.Holder.TheVariants.{TheUnit, TheRow}
use Rattle.rules.specs.declared.call.Call.{Call}
use Rattle.rules.specs.declared.call.Call.TheVariants.{Assign, Deassign, SetRange, SetLocks, GenKey, Erase, Reactivate, Create, Delete, Format, Reset}
use Rattle.rules.specs.declared.row.Sought.TheVariants.{UnitRowOf}
use Rattle.rules.specs.declared.row.Standing.{Standing}
use Rattle.rules.specs.Calls.{refusal, left, after}
use Rattle.rules.specs.Commands.{format_checks}
use Rattle.rules.specs.Drive.{Drive, kind_of, unit_of}
use Rattle.rules.specs.FreshKeys.{key_of, fresh_key, fresh_keys, holders_of, renewed_by, unit_and_ranges}
use Rattle.rules.specs.Methods.{ends_past, shares_block, unit_row_checks, range_row_checks, assign_checks, assign_refusal, other_rows, unit_row_assigned, range_row_assigned, assigned, deassign_checks, set_range_checks, set_range_refusal, freed, given_up, range_set, set_locks_checks, gen_key_checks, key_generated, erase_checks, reactivate_checks}
use Rattle.rules.specs.Requests.{Request, Put, NoneRefused, requests}
use Rattle.rules.specs.Rows.{blank, is_free, unit_or, is_there}
use Rattle.rules.specs.Sound.{Sound}
use Rattle.rules.specs.Units.{exists, unit}
use Rattle.rules.proofs.Sounds.{opened, passed, passed-in, create-sound, delete-sound, locks-sound, unit-row-sound, range-row-sound, range-set-sound, given-up-sound, generated-sound, format-sound, reset-sound, reactivate-sound}
use Rattle.rules.proofs.Renewals.{alike-renewed, alike-kind}
use Rattle.rules.proofs.Places.{range-parts}

-- what is left is in order, and the vault refused nothing on the way
abbrev Kept : Drive → List Request → Drive → Type 0
Kept d asked e = Sound e × NoneRefused d.vault asked e.vault

-- of Assign, the checks of a range row, or those of a unit row
pub branch-passed : (d : Drive) (caller n start len : ℕ) (standing : Standing) → assign_refusal d caller n start len standing ≡ None
    → (b : Bool) → is_there (UnitRowOf n) d.rows ≡ b → Passed (cond b (range_row_checks d n start len standing) (unit_row_checks d start len standing))
branch-passed d caller n start len standing e b u =
    subst (λ b. Passed (cond b (range_row_checks d n start len standing) (unit_row_checks d start len standing))) u (passed d (assign_checks d caller n start len standing) e).1.1

module _ (d : Drive) (h : Sound d) where
  assign-kept : (caller n start len : ℕ) (standing : Standing) → assign_refusal d caller n start len standing ≡ None
      → Kept d (cond (is_there (UnitRowOf n) d.rows) (Put d.next ∷ []) []) (assigned d n start len standing)
  assign-kept caller n start len standing e =
      let ex : exists n d.units ≡ true = not-false _ (passed d (assign_checks d caller n start len standing) e).1.0 in
      let branch = branch-passed d caller n start len standing e in
      let choose : Bool → Type 0 = λ b. Kept d (cond b (Put d.next ∷ []) []) (cond b (range_row_assigned d n start len standing) (unit_row_assigned d n standing)) in
      elim (cases_Bool (is_there (UnitRowOf n) d.rows)) [
        | inl u ↦
            let q = branch true u in
            subst choose (sym u) (range-row-sound d h n start len standing ex u q.0 q.1.0 (not-false _ q.1.1.1.1.0) q.1.1.1.1.1.0 q.1.1.1.1.1.1.0)
        | inr u ↦
            let q = branch false u in
            subst choose (sym u) (unit-row-sound d h n standing ex u (not-false _ q.1.1.1.0), (tt, refl))
      ]

  set-range-kept : (caller r start len : ℕ) → set_range_refusal d caller r start len ≡ None → Sound (range_set d r start len)
  set-range-kept caller r start len e =
      let p = passed d (set_range_checks d caller r start len) e in
      let q = range-parts (kind_of d r) (not-false _ p.1.1.0) in
      let is : unit_of d r ≡ q.0 = ap (λ k. unit_or k d.numbering.mark) q.4 in
      let past : ends_past d.units q.0 start len ≡ false = ap (λ n. ends_past d.units n start len) (sym is) ∙ p.1.1.1.1.0 in
      let sharing : shares_block (other_rows d.rows r) q.0 start len ≡ false = ap (λ n. shares_block (other_rows d.rows r) n start len) (sym is) ∙ p.1.1.1.1.1.0 in
      range-set-sound d h r start len q.0 q.1 q.2 q.3 q.4 past sharing

  pub left-kept : (c : Call) → refusal d c ≡ None → Kept d (requests d c) (left d c)
  left-kept (Assign caller n start len standing) e = assign-kept caller n start len standing (opened caller _ e)
  left-kept (Deassign caller r keep) e =
      let p = passed-in d (deassign_checks d caller r keep) caller e in
      given-up-sound d h r keep (kind_of d r) refl p.1.1.1.1.1.1.0 p.1.1.1.1.1.1.1.1.0
  left-kept (SetRange caller r start len) e = (set-range-kept caller r start len (opened caller _ e), (tt, refl))
  left-kept (SetLocks caller r flags) e =
      let p = passed-in d (set_locks_checks d caller r) caller e in
      (locks-sound d h r flags p.1.0, (tt, refl))
  left-kept (GenKey caller r) e =
      let p = passed-in d (gen_key_checks d caller r) caller e in
      generated-sound d h r p.1.1.1.0
  left-kept (Erase caller r) e =
      let p = passed-in d (erase_checks d caller r) caller e in
      let g = generated-sound d h r p.1.1.1.1.0 in
      let asked : NoneRefused d.vault (requests d (Erase caller r)) (left d (Erase caller r)).vault = g.1 in
      (locks-sound (key_generated d r) g.0 r blank (alike-kind d (key_generated d r) (alike-renewed d (holders_of d r (kind_of d r))) is_free (λ _ _ _ _ _. refl) r ∙ p.1.0), asked)
  left-kept (Reactivate caller selection policy) e =
      let p = passed-in d (reactivate_checks d caller selection policy) caller e in
      let q = or_parts (leb (2 ^ 17) selection) (ltb 1 policy) p.1.0 in
      (reactivate-sound d h selection policy q.0 q.1, (tt, refl))
  left-kept (Create n blocks) e = create-sound d h n blocks e
  left-kept (Delete n) e = delete-sound d h n e
  left-kept (Format n) e =
      let p = passed d (format_checks d n) e in
      format-sound d h n (not-false _ p.0) p.1.1.0
  left-kept (Reset caller) e = (reset-sound d h, (tt, refl))

pub after-sound : (d : Drive) (c : Call) → Sound d → Sound (after d c)
after-sound d c h = by_option (refusal d c) (λ o. Sound (unless o d (left d c))) (λ e. (left-kept d h c e).0) (λ _ _. h)

-- what a request for the next serial keeps, and one that drops a serial, each call keeps
module _ (P : ℕ → Meaning → Type 0)
    (put : (n : ℕ) (m : Meaning) → P n m → P (n + 1) (put_after m n))
    (swap : (n old : ℕ) (m : Meaning) → P n m → P (n + 1) (swap_after m old n))
    (drop : (n s : ℕ) (m : Meaning) → P n m → P n (drop_after m s)) where
  abbrev Of : Drive → Type 0
  Of d = P d.next d.vault

  fresh-of : (d : Drive) (holder : Holder) → Of d → Of (fresh_key d holder)
  fresh-of d (TheUnit n) p = swap d.next (key_of d (TheUnit n)) d.vault p
  fresh-of d (TheRow r) p = swap d.next (key_of d (TheRow r)) d.vault p

  renewed-of : (d : Drive) (holders : List Holder) → Of d → Of (fresh_keys d holders)
  unfolding fresh_keys
  renewed-of d [] p = p
  renewed-of d (holder ∷ holders) p = renewed-of (fresh_key d holder) holders (fresh-of d holder p)

  left-of : (d : Drive) (c : Call) → Of d → Of (left d c)
  left-of d (Assign caller n start len standing) p = cond_both (is_there (UnitRowOf n) d.rows) (range_row_assigned d n start len standing) (unit_row_assigned d n standing) Of (λ _. put d.next d.vault p) (λ _. p)
  left-of d (Deassign caller r keep) p = go keep (kind_of d r)
    where
      go : (keep : Bool) (kind : Kind) → Of (given_up d r keep kind)
      go keep Free = p
      go keep Global = p
      go true (UnitRow u) = p
      go false (UnitRow u) = fresh-of (freed d r) (TheUnit u) p
      go keep (RangeRow u s l k) = drop d.next k d.vault p
  left-of d (SetRange caller r start len) p = p
  left-of d (SetLocks caller r flags) p = p
  left-of d (GenKey caller r) p = renewed-of d (renewed_by d r) p
  left-of d (Erase caller r) p = renewed-of d (renewed_by d r) p
  left-of d (Reactivate caller selection policy) p = p
  left-of d (Create n blocks) p = put d.next d.vault p
  left-of d (Delete n) p = drop d.next (unit n d.units).serial d.vault p
  left-of d (Format n) p = renewed-of d (unit_and_ranges d n) p
  left-of d (Reset caller) p = p

  pub after-of : (d : Drive) (c : Call) → Of d → Of (after d c)
  after-of d c p = by_option (refusal d c) (λ o. Of (unless o d (left d c))) (λ _. left-of d c p) (λ _ _. p)
