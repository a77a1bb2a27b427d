-- A blank drive is one that a sheet can describe.
use Rattle.std.proofs.Common.{◌≡◌, ℕ, zero, suc, ◌<◌, true, false, [], ◌∷◌, length, replicate, is_some, None, sym, refl, ap, ◌∙◌, arith}
use Rattle.std.proofs.lemmas.List.{nil_from_length}
use Rattle.std.proofs.lemmas.Bool.{both_ways, ltb-false, not-false, true≢false}
use Rattle.packed.specs.Rising.{rises, has}
use Rattle.vault.specs.Meaning.{Meaning, sound}
use Rattle.vault.specs.Serials.{holds, collect}
use Rattle.rules.specs.declared.numbering.Bounds.{Bounds}
use Rattle.rules.specs.declared.row.Row.{Row}
use Rattle.rules.specs.declared.row.Sought.{Sought}
use Rattle.rules.specs.declared.row.Sought.TheVariants.{UnitRowOf, RangeOver}
use Rattle.rules.specs.LayingOut.{fresh_checks, fresh_refusal, fresh}
use Rattle.rules.specs.Rows.{blank, free_row, global_row, row, suits}
use Rattle.rules.specs.Sound.{is_global, row_fits, AtMostOne, SoundRows, Sound}
use Rattle.vault.proofs.Checks.{all-passed}
use Rattle.rules.proofs.Keys.{make-keys}

-- what holds of a free row holds of every one of sixteen
each-free : (P : Row → Type 0) → P free_row → (i : ℕ) → P (row i (replicate 16 free_row))
each-free P f = go 16
  where
    go : (k i : ℕ) → P (row i (replicate k free_row))
    go zero i = f
    go (suc k) zero = f
    go (suc k) (suc i) = go k i

-- what holds of the Global row and of a free row holds of every row of a blank table
each-blank : (P : Row → Type 0) → P global_row → P free_row → (i : ℕ) → P (row i (global_row ∷ replicate 16 free_row))
each-blank P g f zero = g
each-blank P g f (suc i) = each-free P f i

none-blank : (w : Sought) → suits w global_row ≡ false → suits w free_row ≡ false → AtMostOne w (global_row ∷ replicate 16 free_row)
none-blank w g f i j p q = absurd (both_ways _ (each-blank (λ r. suits w r ≡ false) g f i) p)

blank-rows : SoundRows [] (global_row ∷ replicate 16 free_row)
blank-rows = record {
  seventeen = refl;
  global = refl;
  others = later;
  blanks = λ r f. each-blank (λ x. x.flags ≡ blank) refl refl r;
  each = each-blank (λ r. row_fits [] (global_row ∷ replicate 16 free_row) r.kind ≡ true) refl refl;
  unit_rows = λ n. none-blank (UnitRowOf n) refl refl;
  ranges = λ n block. none-blank (RangeOver n block) refl refl;
}
  where
    later : (r : ℕ) → 0 < r → is_global (row r (global_row ∷ replicate 16 free_row)).kind ≡ false
    later zero l = absurd (let b : ⊥ = omega arith in b)
    later (suc r) l = each-free (λ x. is_global x.kind ≡ false) refl r

pub fresh-sound : (bounds : Bounds) (m : Meaning) → sound m ≡ true → fresh_refusal m ≡ None → Sound (fresh bounds m)
unfolding rises has collect
fresh-sound bounds m ok e =
    let p = all-passed (fresh_checks m) e in
    let empty : m.held ≡ [] = nil_from_length m.held (omega (arith, ltb-false 0 (length m.held) p.1.0)) in
    record {
      usable = ap is_some e;
      capacity = not-false _ p.0;
      next = (omega arith, omega arith);
      policy = refl;
      units = record { few = omega arith; ordered = refl; each = tt };
      rows = blank-rows;
      keys = make-keys 1 m _ ok empty (λ s h. absurd (true≢false (sym h ∙ ap (holds s) empty)));
    }
