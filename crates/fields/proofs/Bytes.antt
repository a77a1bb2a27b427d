-- The bytes of one number, and bytes written into a list.
use Rattle.std.proofs.Common.{◌≡◌, ℕ, zero, suc, ◌+◌, ◌-◌, ◌*◌, ◌/◌, ◌%◌, ◌^◌, ◌<◌, ◌≤◌, List, [], ◌∷◌, ◌++◌, length, take, drop, get_or, refl, sym, ap, ◌∙◌, arith, inl, inr}
use Rattle.std.proofs.Math.Nat.{add-mul, add-zero, div-one, mul_assoc, pow-succ', zero-mul}
use Rattle.std.proofs.Math.Seq.{drop-append-add, take-append_seam}
use Rattle.std.proofs.lemmas.Bool.{cases_lt}
use Rattle.std.proofs.lemmas.List.{append-nil, append_assoc, drop-drop, get_or-drop, length-append, length-drop, length-take, take-append-drop, take_all, take_more}
use Rattle.std.proofs.lemmas.Grind.{flat_map-append}
use Rattle.std.proofs.lemmas.Nat.{div-mul-add}
use Rattle.std.specs.Int.{byte_at}
use Rattle.std.specs.List.{flat_map}
use Rattle.byteorder.specs.Endian.{big_bytes, big_from, big_number}
use Rattle.byteorder.specs.Numbers.{big_from-cons, big_from-lt, big_number-reads_back}
use Rattle.fields.specs.Fields.{IsBytes, number_at, written}

-- the low bytes of a number are the last of all its bytes
pub drop-big_bytes : (k n x : ℕ) → n ≤ k → drop (k - n) (big_bytes k x) ≡ big_bytes n x
drop-big_bytes zero n x h = let none : n ≡ 0 = omega arith in rw none refl
drop-big_bytes (suc k) n x h = elim (cases_lt k n) [
  | inl all ↦
      let same : n ≡ suc k = omega arith in
      let none : suc k - n ≡ 0 = omega arith in
      rw (none, same) refl
  | inr fewer ↦
      let one_more : suc k - n ≡ suc (k - n) = omega arith in
      rw one_more (drop-big_bytes k n x fewer)
]

-- ---- what is written
pub written-none : (at : ℕ) (old : List ℕ) → written at [] old ≡ old
unfolding written
written-none at old = rw (add-zero at, append-nil, take-append-drop) refl

written-after : (front rest bytes : List ℕ) (n : ℕ) → n ≡ length front → written n bytes (front ++ rest) ≡ front ++ bytes ++ drop (length bytes) rest
unfolding written
written-after front rest bytes n e = rw (e, take-append_seam front rest, drop-append-add front rest (length bytes)) refl

-- bytes, and then others behind them
pub written-more : (at : ℕ) (bytes more old : List ℕ) → at ≤ length old
    → written (at + length bytes) more (written at bytes old) ≡ written at (bytes ++ more) old
unfolding written
written-more at bytes more old h =
    let front = take at old ++ bytes in
    let place : at + length bytes ≡ length front = omega (arith, length-append (take at old) bytes, length-take at old) in
    let end : at + length bytes + length more ≡ at + length (bytes ++ more) = omega (arith, length-append bytes more) in
    written-after front (drop (at + length bytes) old) more (at + length bytes) place
    ∙ rw (drop-drop (length more) (at + length bytes) old, end, append_assoc (take at old) bytes more) refl

-- a loop that writes the bytes of one element behind those of the elements before it
module _ {A : Type 0} (enc : A → List ℕ) (at : ℕ) (old : List ℕ) (within : at ≤ length old) (xs : List A) where
  pub written-next : (i end : ℕ) (d : A) (out new : List ℕ) → i < length xs → end ≡ at + length (flat_map enc (take i xs))
      → out ≡ written at (flat_map enc (take i xs)) old → new ≡ written end (enc (get_or xs i d)) out → new ≡ written at (flat_map enc (take (i + 1) xs)) old
  written-next i end d out new below place so_far now =
      let done = take i xs in
      let x = get_or xs i d in
      let all : flat_map enc (take (i + 1) xs) ≡ flat_map enc done ++ enc x =
      ap (flat_map enc) (take_more xs i d below) ∙ flat_map-append enc done (x ∷ []) ∙ ap (λ bs. flat_map enc done ++ bs) (append-nil (enc x)) in
      now
      ∙ (λ j. written (place j) (enc x) (so_far j))
      ∙ written-more at (flat_map enc done) (enc x) old within
      ∙ ap (λ bs. written at bs old) (sym all)

-- ---- what is read
pub number_at-front : (k n : ℕ) (rest : List ℕ) → n < 256 ^ k → number_at 0 k (big_bytes k n ++ rest) ≡ n
unfolding number_at
number_at-front k n rest h = big_number-reads_back k n rest h

-- to the end of a slice
pub number_at-rest : (at k : ℕ) (s : List ℕ) → big_number k (take (length s - at) (drop at s)) ≡ number_at at k s
unfolding number_at
number_at-rest at k s = ap (big_number k) (take_all (length s - at) (drop at s) (omega (arith, length-drop at s)))

pub number_at-skip : (front : List ℕ) (at k : ℕ) (rest : List ℕ) → number_at (length front + at) k (front ++ rest) ≡ number_at at k rest
unfolding number_at
number_at-skip front at k rest = ap (big_number k) (drop-append-add front rest at)

pub IsBytes-drop : (at : ℕ) (s : List ℕ) → IsBytes s → IsBytes (drop at s)
IsBytes-drop at s bytes i = rw (get_or-drop at s i 0) (bytes (at + i))

pub number_at-lt : (at k : ℕ) (s : List ℕ) → IsBytes s → number_at at k s < 256 ^ k
unfolding number_at
number_at-lt at k s bytes = big_from-lt 0 k (drop at s) (IsBytes-drop at s bytes)

-- ---- the bytes of the number in some bytes are these bytes
byte_at-pow : (k x : ℕ) → byte_at k x ≡ x / 256 ^ k % 256
byte_at-pow zero x = ap (λ y. y % 256) (sym (div-one x))
byte_at-pow (suc k) x = refl

-- whatever stands above them
bytes-back : (k c : ℕ) (s : List ℕ) → IsBytes s → k ≤ length s → big_bytes k (c * 256 ^ k + big_from 0 k s) ≡ take k s
bytes-back zero c s bytes h = refl
bytes-back (suc k) c [] bytes h = absurd (omega arith)
bytes-back (suc k) c (b ∷ s) bytes h =
    let rest : IsBytes s = λ i. bytes (suc i) in
    let low : big_from 0 k s < 256 ^ k = big_from-lt 0 k s rest in
    let byte : b < 256 = bytes 0 in
    let whole : c * 256 ^ suc k + (b * 256 ^ k + big_from 1 k (b ∷ s)) ≡ (c * 256 + b) * 256 ^ k + big_from 0 k s =
    rw (big_from-cons 0 k b s, pow-succ' 256 k, add-mul (c * 256) b (256 ^ k), mul_assoc c 256 (256 ^ k)) (omega arith) in
    let first : byte_at k ((c * 256 + b) * 256 ^ k + big_from 0 k s) ≡ b =
    rw (byte_at-pow k ((c * 256 + b) * 256 ^ k + big_from 0 k s), div-mul-add (c * 256 + b) (256 ^ k) (big_from 0 k s) low) (omega arith) in
    ap (big_bytes (suc k)) whole ∙ (λ i. first i ∷ bytes-back k (c * 256 + b) s rest (omega arith) i)

pub big_bytes-number_at : (at k : ℕ) (s : List ℕ) → IsBytes s → at + k ≤ length s → big_bytes k (number_at at k s) ≡ take k (drop at s)
unfolding number_at
big_bytes-number_at at k s bytes h =
    let none_above : big_from 0 k (drop at s) ≡ 0 * 256 ^ k + big_from 0 k (drop at s) = rw zero-mul (omega arith) in
    ap (big_bytes k) none_above ∙ bytes-back k 0 (drop at s) (IsBytes-drop at s bytes) (omega (arith, length-drop at s))
