-- A loop that writes records of one size, one behind the other.
use Rattle.std.proofs.Common.{◌≡◌, ℕ, ◌+◌, ◌*◌, ◌<◌, ◌≤◌, List, ◌++◌, length, take, drop, get_or, ap, ◌∙◌, arith}
use Rattle.std.proofs.Math.Nat.{mul-suc}
use Rattle.std.proofs.Math.Numerals.{add-one}
use Rattle.std.proofs.lemmas.List.{length-append, length-take-le}
use Rattle.std.specs.List.{flat_map}
use Rattle.fields.specs.Fields.{written}
use Rattle.fields.proofs.Bytes.{written-more, written-next}
use Rattle.sheet.specs.Saving.{filled}
use Rattle.sheet.proofs.Lengths.{length-records}

module _ {A : Type 0} (enc : A → List ℕ) (k : ℕ) (long : (x : A) → length (enc x) ≡ k) (at : ℕ) (old : List ℕ) (within : at ≤ length old) (xs : List A) where
  abbrev pub Wrote : ℕ → ℕ → List ℕ → Type 0
  Wrote i end out = (end ≡ at + k * i) × (out ≡ written at (flat_map enc (take i xs)) old)

  pub wrote-next : (i end next : ℕ) (d : A) (out new : List ℕ) → i < length xs → Wrote i end out
      → next ≡ end + k → new ≡ written end (enc (get_or xs i d)) out → Wrote (i + 1) next new
  wrote-next i end next d out new below so_far after now =
      let written_so_far : length (flat_map enc (take i xs)) ≡ k * i = length-records enc k long (take i xs) ∙ ap (λ n. k * n) (length-take-le i xs (omega arith)) in
      (rw (add-one i, mul-suc k i) (omega (arith, so_far.0)), written-next enc at old within xs i end d out new below (omega (arith, so_far.0, written_so_far)) so_far.1 now)

-- written from the start on
pub from-start : (bytes old : List ℕ) → written 0 bytes old ≡ filled bytes old
unfolding written
from-start bytes old =
    let end : 0 + length bytes ≡ length bytes = omega arith in
    ap (λ n. bytes ++ drop n old) end

-- three parts from the start on, each behind the one before it
pub parts-written : (a b c old out next last : List ℕ) (p q : ℕ) → out ≡ written 0 a old → p ≡ length a → next ≡ written p b out
    → q ≡ length a + length b → last ≡ written q c next → last ≡ filled (a ++ b ++ c) old
parts-written a b c old out next last p q first after second behind third =
    let place : p ≡ 0 + length a = omega (arith, after) in
    let place' : q ≡ 0 + length (a ++ b) = omega (arith, behind, length-append a b) in
    third
    ∙ (λ j. written (place' j) c ((second ∙ (λ i. written (place i) b (first i)) ∙ written-more 0 a b old (omega arith)) j))
    ∙ written-more 0 (a ++ b) c old (omega arith)
    ∙ from-start (a ++ b ++ c) old
