-- A header with no faults, and the policy that it says.
use Rattle.std.proofs.Common.{◌≡◌, ℕ, ◌^◌, ◌<◌, ◌≤◌, true, false, List, arith}
use Rattle.std.proofs.lemmas.Bool.Decides.{nat_tests}
use Rattle.rules.specs.declared.numbering.Bounds.{Bounds}
use Rattle.rules.specs.declared.row.Row.{Row}
use Rattle.rules.specs.Sound.{policy_fits}
use Rattle.sheet.specs.declared.records.Header.{Header}
use Rattle.sheet.specs.Format.{rows_offset, total_beside}
use Rattle.sheet.specs.Loading.{header_faults, one_of}
use Rattle.sheet.specs.Saving.{mask_of}
use Rattle.sheet.proofs.Masks.{mask-zero}

-- a header as a sheet of this length has it
pub record HeaderInOrder (bounds : Bounds) (len : ℕ) (h : Header) : Type 0 where
  pub form : h.form ≡ 1
  pub numbering : h.numbering ≡ bounds.code
  pub few : h.unit_count ≤ 16
  pub row_count : h.row_count ≡ 17
  pub units_at : h.units_at ≡ 32
  pub rows_at : h.rows_at ≡ rows_offset h.unit_count
  pub total : h.total ≡ total_beside h.unit_count
  pub long : len ≡ h.total
  pub next : 0 < h.next
  pub mask : h.mask < 2 ^ 17
  pub policy : h.policy ≤ 1
  pub singles : h.policy ≡ 0 → 0 < h.mask
  pub zero : h.zero ≡ 0

module _ (bounds : Bounds) (len : ℕ) (h : Header) where
  pub header-in-order : one_of (header_faults bounds len h) ≡ false → HeaderInOrder bounds len h
  header-in-order none = record {
    form = grind (arith, nat_tests);
    numbering = grind (arith, nat_tests);
    few = grind (arith, nat_tests);
    row_count = grind (arith, nat_tests);
    units_at = grind (arith, nat_tests);
    rows_at = grind (arith, nat_tests);
    total = grind (arith, nat_tests);
    long = grind (arith, nat_tests);
    next = grind (arith, nat_tests);
    mask = grind (arith, nat_tests);
    policy = grind (arith, nat_tests);
    singles = λ e. grind (arith, nat_tests);
    zero = grind (arith, nat_tests);
  }

  pub no-header-faults : HeaderInOrder bounds len h → one_of (header_faults bounds len h) ≡ false
  no-header-faults o = grind (arith, nat_tests)

-- ---- policy 1, or policy 0 beside a mask that is not 0
module _ (rows : List Row) (policy : ℕ) where
  pub policy-said : policy_fits policy rows ≡ true → (policy ≤ 1) × (policy ≡ 0 → 0 < mask_of rows)
  policy-said f = let m = mask-zero rows in (grind (arith, nat_tests), λ e. grind (arith, nat_tests))

  pub policy-from : policy ≤ 1 → (policy ≡ 0 → 0 < mask_of rows) → policy_fits policy rows ≡ true
  policy-from l s = let m = mask-zero rows in grind (arith, nat_tests)
