-- The checks of Deassign, the first of which have passed.
use Rattle.std.proofs.Common.{◌≡◌, ℕ, Bool, true, false, not, ◌&&◌, ◌||◌, [], ◌∷◌, None, Ok, nat_lt, refl, ◌==◌}
use Rattle.vault.proofs.Checks.{accepted-with}
use Rattle.vault.specs.Checks.{answer, first_of}
use Rattle.rules.specs.declared.cause.Cause.TheVariants.{Closed, KeepOnRange, RangeRowsRemain, Locked, NoSuchRow, RowFree, SerialsRunOut}
use Rattle.rules.specs.declared.row.Row.{Row}
use Rattle.rules.specs.declared.row.Sought.TheVariants.{RangeRowOf}
use Rattle.rules.specs.Causes.{Done}
use Rattle.rules.specs.Drive.{Drive, kind_of, refused_by, row_of, run_out, single_user}
use Rattle.rules.specs.Methods.{deassign_answer, receiver}
use Rattle.rules.specs.Rows.{is_a_unit_row, is_free, is_range_row, is_there, locked, unit_or}
use Rattle.rules.specs.Sessions.{admins, is_not}

module _ (d : Drive) where
  -- the row that is there and is not free
  pub in_use : (r : ℕ) (found : Row) → Ok found ≡ answer (refused_by d ((nat_lt 16 r, NoSuchRow) ∷ (is_free (kind_of d r), RowFree) ∷ [])) (row_of d r)
      → (d.closed ≡ false) × (nat_lt 16 r ≡ false) × (is_free (kind_of d r) ≡ false) × (found ≡ row_of d r)
  in_use r found e = go d.closed (nat_lt 16 r) (is_free (kind_of d r)) (accepted-with (refused_by d ((nat_lt 16 r, NoSuchRow) ∷ (is_free (kind_of d r), RowFree) ∷ [])) found (row_of d r) e)
    where
      go : (a b c : Bool) → (first_of ((a, Closed) ∷ (b, NoSuchRow) ∷ (c, RowFree) ∷ []) ≡ None) × (found ≡ row_of d r) → (a ≡ false) × (b ≡ false) × (c ≡ false) × (found ≡ row_of d r)
      go true b c p = absurd (cc)
      go false true c p = absurd (cc)
      go false false true p = absurd (cc)
      go false false false p = (refl, refl, refl, p.1)

  -- what is left to check of a row that leaves its blocks to another
  abbrev pub left_to_check : Row → Row → Bool → Done
  left_to_check leaving taking keep = answer (first_of (
      (keep && is_range_row leaving.kind, KeepOnRange)
      ∷ (is_a_unit_row leaving.kind && is_there (RangeRowOf (unit_or leaving.kind d.numbering.mark)) d.rows, RangeRowsRemain)
      ∷ (locked leaving.flags || locked taking.flags, Locked)
      ∷ ((is_a_unit_row leaving.kind && not keep) && run_out 1 d, SerialsRunOut)
      ∷ [])) tt

  pub answer-by-kind : (caller r : ℕ) (keep : Bool) → d.closed ≡ false → nat_lt 16 r ≡ false → is_free (kind_of d r) ≡ false → (r == 0) ≡ false → is_not caller admins ≡ false
      → (single_user d r || single_user d (receiver d r)) ≡ false
      → left_to_check (row_of d r) (row_of d (receiver d r)) keep ≡ deassign_answer d caller r keep
  answer-by-kind caller r keep open-now within taken other right shared = rw open-now (rw within (rw taken (rw other (rw right (rw shared refl)))))
