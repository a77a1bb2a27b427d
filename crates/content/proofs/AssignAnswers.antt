-- Assign by its two sorts of rows.
use Rattle.std.proofs.Common.{◌≡◌, ℕ, Bool, true, false, cond, not, Ok, refl, ap, ◌∙◌}
use Rattle.vault.proofs.Checks.{accepted-with, changed}
use Rattle.vault.specs.Checks.{answer, first_of}
use Rattle.rules.specs.declared.row.Standing.{Standing}
use Rattle.rules.specs.Drive.{Drive}
use Rattle.rules.specs.Methods.{assign_refusal, assign_answer, assign_after, assigned, assigned_row, range_row_assigned, range_row_checks, row_to_take, unit_row_assigned, unit_row_checks}
use Rattle.rules.specs.Rows.{has_unit_row}
use Rattle.rules.specs.Sessions.{admins, is_not}
use Rattle.rules.specs.Units.{exists}

module _ (d : Drive) (caller n start len : ℕ) (standing : Standing) where
  -- the checks before those of a range row have passed
  pub answer-by-range : d.closed ≡ false → is_not caller admins ≡ false → exists n d.units ≡ true → has_unit_row n d.rows ≡ true
      → answer (first_of (range_row_checks d n start len standing)) (row_to_take d standing, false) ≡ assign_answer d caller n start len standing
  answer-by-range open-now right there under = rw open-now (rw right (rw there (rw under refl)))

  -- the checks before those of a unit row have passed
  pub answer-by-unit : d.closed ≡ false → is_not caller admins ≡ false → exists n d.units ≡ true → has_unit_row n d.rows ≡ false
      → answer (first_of (unit_row_checks d start len standing)) (row_to_take d standing, true) ≡ assign_answer d caller n start len standing
  answer-by-unit open-now right there bare = rw open-now (rw right (rw there (rw bare refl)))

  -- what an accepted call leaves, by what it answers
  pub after-by : (row : ℕ) (is_unit_row : Bool) → Ok (row, is_unit_row) ≡ assign_answer d caller n start len standing
      → (row ≡ row_to_take d standing) × (cond is_unit_row (unit_row_assigned d n standing) (range_row_assigned d n start len standing) ≡ assign_after d caller n start len standing)
  after-by row is_unit_row e =
      let p = accepted-with (assign_refusal d caller n start len standing) (row, is_unit_row) (assigned_row d n standing) e in (
        ap (λ (r : ℕ × Bool). r.0) p.1,
        ap (λ (r : ℕ × Bool). cond r.1 (unit_row_assigned d n standing) (range_row_assigned d n start len standing)) p.1
            ∙ turned (has_unit_row n d.rows)
            ∙ changed (assign_refusal d caller n start len standing) d (assigned d n start len standing) p.0,
      )
    where
      turned : (b : Bool) → cond (not b) (unit_row_assigned d n standing) (range_row_assigned d n start len standing) ≡ cond b (range_row_assigned d n start len standing) (unit_row_assigned d n standing)
      turned true = refl
      turned false = refl
