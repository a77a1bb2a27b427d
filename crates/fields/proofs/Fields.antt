-- Fields written one after another are read back one by one, and what is read gives the same bytes.
use Rattle.std.proofs.Common.{◌≡◌, ℕ, ◌+◌, ◌^◌, ◌<◌, ◌≤◌, List, [], ◌∷◌, ◌++◌, length, take, drop, refl, ap, ◌∙◌, arith}
use Rattle.std.proofs.Math.Seq.{take-add}
use Rattle.std.proofs.lemmas.Grind.{flat_map-append}
use Rattle.std.proofs.lemmas.List.{append_assoc, drop-drop, length-append}
use Rattle.std.proofs.lemmas.List.Sums.{sum_by-cons}
use Rattle.std.specs.List.{sum}
use Rattle.byteorder.specs.Endian.{big_bytes}
use Rattle.byteorder.specs.Numbers.{length-bytes_high_first}
use Rattle.fields.specs.declared.Field.{Field}
use Rattle.fields.specs.Fields.{IsBytes, be, bytes_of, bytes_of_field, number_at, size}
use Rattle.fields.proofs.Bytes.{big_bytes-number_at, number_at-front, number_at-skip}

pub length-bytes_of : (fs : List Field) → length (bytes_of fs) ≡ size fs
unfolding bytes_of
length-bytes_of [] = refl
length-bytes_of (f ∷ fs) =
    omega (arith, length-append (bytes_of_field f) (bytes_of fs), length-bytes_high_first f.width f.value, length-bytes_of fs, sum_by-cons (λ (g : Field). g.width) f fs)

pub bytes_of-append : (fs gs : List Field) → bytes_of (fs ++ gs) ≡ bytes_of fs ++ bytes_of gs
unfolding bytes_of
bytes_of-append fs gs = flat_map-append bytes_of_field fs gs

-- a field is read back from behind those before it
pub number_at-bytes_of : (fs gs : List Field) (k n : ℕ) (rest : List ℕ) → n < 256 ^ k
    → number_at (size fs) k (bytes_of (fs ++ be k n ∷ gs) ++ rest) ≡ n
unfolding bytes_of
number_at-bytes_of fs gs k n rest h =
    let place : size fs ≡ length (bytes_of fs) + 0 = omega (arith, length-bytes_of fs) in
    let behind = big_bytes k n ++ (bytes_of gs ++ rest) in
    let parts : bytes_of (fs ++ be k n ∷ gs) ++ rest ≡ bytes_of fs ++ behind =
    ap (λ s. s ++ rest) (bytes_of-append fs (be k n ∷ gs)) ∙ simp append_assoc in
    ap (λ s. number_at (size fs) k s) parts
    ∙ ap (λ p. number_at p k (bytes_of fs ++ behind)) place
    ∙ number_at-skip (bytes_of fs) 0 k behind
    ∙ number_at-front k n (bytes_of gs ++ rest) h

-- fields of these widths, from a place on
abbrev pub read_fields : List ℕ → ℕ → List ℕ → List Field
read_fields [] at s = []
read_fields (k ∷ ks) at s = be k (number_at at k s) ∷ read_fields ks (at + k) s

pub bytes_of-read_fields : (ks : List ℕ) (at : ℕ) (s : List ℕ) → IsBytes s → at + sum ks ≤ length s
    → bytes_of (read_fields ks at s) ≡ take (sum ks) (drop at s)
unfolding bytes_of
bytes_of-read_fields [] at s bytes h = refl
bytes_of-read_fields (k ∷ ks) at s bytes h =
    let all : sum (k ∷ ks) ≡ k + sum ks = sum_by-cons (λ n. n) k ks in
    let first = big_bytes-number_at at k s bytes (omega arith) in
    let others = bytes_of-read_fields ks (at + k) s bytes (omega arith) in
    (λ i. first i ++ others i) ∙ rw (all, take-add k (sum ks) (drop at s), drop-drop k at s) refl
