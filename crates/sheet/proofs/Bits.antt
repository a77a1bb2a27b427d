-- The bits of a number, and the flags of a row as bits.
use Rattle.std.proofs.Common.{◌≡◌, ℕ, ◌+◌, ◌*◌, ◌^◌, ◌<◌, ◌≤◌, ◌-◌, Bool, true, false, cond, eqb, List, [], ◌∷◌, map, length, take, drop, get_or, sym, refl, ap, ◌∙◌, add-one, arith}
use native.Mathlib.Nat.{pow-succ'}
use Rattle.std.proofs.lemmas.Bool.Decides.{nat_tests}
use Rattle.std.proofs.lemmas.List.{take_all}
use Rattle.std.proofs.lemmas.List.FromFn.{length-map-range_with_len, get_or-map-range_with_len}
use Rattle.std.proofs.lemmas.List.Sums.{sum_by-cons}
use Rattle.std.proofs.lemmas.Nat.Bits.{bit_at-lt, same_from_bits_below}
use Rattle.std.proofs.lemmas.Simd.{mask_l-lt, bit_mask_l}
use Rattle.std.specs.Int.{bit_at}
use Rattle.std.specs.List.{enumerate_from, range_with_len, sum_by}
use Rattle.std.specs.Simd.Lanes.{mask_l}
use Rattle.rules.specs.declared.row.Flags.{Flags}
use Rattle.rules.specs.Methods.{selected}
use Rattle.sheet.specs.Loading.{flags_of}
use Rattle.sheet.specs.Saving.{number_with, flag_bits}

abbrev worth : ℕ × Bool → ℕ
worth bit = cond bit.1 (2 ^ bit.0) 0

abbrev worth_from : ℕ → List Bool → ℕ
worth_from n bits = sum_by worth (enumerate_from n bits)

-- bits one place higher are worth twice as much
twice : (n : ℕ) (bits : List Bool) → worth_from (n + 1) bits ≡ 2 * worth_from n bits
twice n [] = refl
twice n (b ∷ bits) = omega (arith, go b, twice (n + 1) bits, sum_by-cons worth (n + 1, b) (enumerate_from (n + 1 + 1) bits), sum_by-cons worth (n, b) (enumerate_from (n + 1) bits))
  where
    go : (b : Bool) → worth (n + 1, b) ≡ 2 * worth (n, b)
    go true = ap (λ k. 2 ^ k) (add-one n) ∙ pow-succ' 2 n
    go false = refl

-- the lowest bit, and the others at twice what they are worth alone, as std has it
pub as-mask : (bits : List Bool) → number_with bits ≡ mask_l bits
unfolding number_with
as-mask [] = refl
as-mask (b ∷ bits) = omega (arith, sum_by-cons worth (0, b) (enumerate_from (0 + 1) bits), twice 0 bits, as-mask bits)

pub number-small : (bits : List Bool) → number_with bits < 2 ^ length bits
number-small bits = omega (arith, as-mask bits, mask_l-lt bits)

bit-number : (bits : List Bool) (i : ℕ) → bit_at (number_with bits) i ≡ cond (get_or bits i false) 1 0
bit-number bits i = ap (λ n. bit_at n i) (as-mask bits) ∙ bit_mask_l bits i

-- each bit is read back
pub selected-number : (bits : List Bool) (i : ℕ) → selected (number_with bits) i ≡ get_or bits i false
selected-number bits i = ap (λ m. eqb m 1) (bit-number bits i) ∙ grind (arith, nat_tests)

-- a number is made of its bits
pub number-selected : (k n : ℕ) → n < 2 ^ k → number_with (map (selected n) (range_with_len 0 k)) ≡ n
number-selected k n l = same_from_bits_below k (number_with bits) n (omega (arith, ap (λ m. 2 ^ m) (length-map-range_with_len (selected n) 0 k), number-small bits)) l same
  where
    bits : List Bool
    bits = map (selected n) (range_with_len 0 k)

    same : (i : ℕ) → i < k → bit_at (number_with bits) i ≡ bit_at n i
    same i l = bit-number bits i ∙ ap (λ b. cond b 1 0) (get_or-map-range_with_len (selected n) 0 k i i false l (omega arith)) ∙ let b = bit_at-lt n i in grind (arith, nat_tests)

-- ---- flags
pub flags-back : (w : ℕ) → w < 2 ^ 6 → number_with (flag_bits (flags_of w) (selected w 5)) ≡ w
flags-back w = number-selected 6 w

module _ (f : Flags) (is_unit_row : Bool) where
  abbrev bits : List Bool
  bits = flag_bits f is_unit_row

  pub flags-read : flags_of (number_with bits) ≡ f
  flags-read = simp (selected-number bits)

  pub unit-bit : selected (number_with bits) 5 ≡ is_unit_row
  unit-bit = selected-number bits 5

-- ---- as they are made
pub number-none : (bits : List Bool) → length bits < 1 → 0 ≡ number_with bits
number-none [] none = sym (as-mask [])
number-none (b ∷ others) none = absurd (omega arith)

-- the first bit, and twice what the others make
pub number-first : (bits : List Bool) → 1 ≤ length bits → cond (get_or bits 0 false) 1 0 + 2 * number_with (take (length bits - 1) (drop 1 bits)) ≡ number_with bits
number-first [] some = absurd (omega arith)
number-first (b ∷ others) some =
    let rest : number_with (take (length (b ∷ others) - 1) others) ≡ number_with others = ap number_with (take_all (length (b ∷ others) - 1) others (omega arith)) in
    omega (arith, rest, as-mask others, as-mask (b ∷ others))
