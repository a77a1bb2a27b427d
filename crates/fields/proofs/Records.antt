-- Records of one size in a row: what was written is read back, and what was read gives the same bytes.
use Rattle.std.proofs.Common.{◌≡◌, ℕ, zero, suc, ◌+◌, ◌*◌, ◌≤◌, List, [], ◌∷◌, ◌++◌, length, map, take, drop, refl, ap, ◌∙◌, arith}
use Rattle.std.proofs.Math.Nat.{mul-add, mul-one, mul-suc, mul-zero}
use Rattle.std.proofs.Math.Numerals.{add-one}
use Rattle.std.proofs.Math.Seq.{drop-append_seam, take-add}
use Rattle.std.proofs.lemmas.List.{append_assoc, drop-drop, length-drop}
use Rattle.std.specs.List.{AllByRecursion, flat_map, range_with_len}
use Rattle.fields.specs.Fields.{IsBytes}
use Rattle.fields.proofs.Bytes.{IsBytes-drop}

-- the place of record a, and of the one after it
first_place : (at k : ℕ) → at + k * 0 ≡ at
first_place at k = rw mul-zero (omega arith)

next_place : (at k a : ℕ) → at + k * (a + 1) ≡ at + k * a + k
next_place at k a = rw (add-one a, mul-suc k a) (omega arith)

module _ {A : Type 0} (enc : A → List ℕ) (dec : List ℕ → A) (k : ℕ) where
  module _ (Fit : A → Type 0) (long : (x : A) → length (enc x) ≡ k) (reads : (x : A) (rest : List ℕ) → Fit x → dec (enc x ++ rest) ≡ x) where
    read-from : (a at : ℕ) (s rest : List ℕ) (xs : List A) → AllByRecursion Fit xs → drop (at + k * a) s ≡ flat_map enc xs ++ rest
        → map (λ i. dec (drop (at + k * i) s)) (range_with_len a (length xs)) ≡ xs
    read-from a at s rest [] fit here = refl
    read-from a at s rest (x ∷ xs) fit here =
        let behind = flat_map enc xs ++ rest in
        let split : drop (at + k * a) s ≡ enc x ++ behind = here ∙ append_assoc (enc x) (flat_map enc xs) rest in
        let first : dec (drop (at + k * a) s) ≡ x = ap dec split ∙ reads x behind fit.0 in
        let next : drop (at + k * (a + 1)) s ≡ behind =
        rw (next_place at k a, ← drop-drop k (at + k * a) s, split, ← long x) (drop-append_seam (enc x) behind) in
        let others = read-from (a + 1) at s rest xs fit.1 next in
        λ i. first i ∷ others i

    -- the records that stand from a place on
    pub records-read-at : (at : ℕ) (s rest : List ℕ) (xs : List A) → AllByRecursion Fit xs → drop at s ≡ flat_map enc xs ++ rest
        → map (λ i. dec (drop (at + k * i) s)) (range_with_len 0 (length xs)) ≡ xs
    records-read-at at s rest xs fit here = read-from 0 at s rest xs fit (rw (first_place at k) here)

  module _ (writes : (t : List ℕ) → IsBytes t → k ≤ length t → enc (dec t) ≡ take k t) where
    back-from : (n a at : ℕ) (s : List ℕ) → IsBytes s → at + k * (a + n) ≤ length s
        → flat_map enc (map (λ i. dec (drop (at + k * i) s)) (range_with_len a n)) ≡ take (k * n) (drop (at + k * a) s)
    back-from zero a at s bytes within = rw mul-zero refl
    back-from (suc n) a at s bytes within =
        let t = drop (at + k * a) s in
        let all : k * suc n ≡ k + k * n = rw (mul-suc k n) (omega arith) in
        let end : k * (a + suc n) ≡ k * a + (k + k * n) = rw (mul-add k a (suc n), mul-suc k n) (omega arith) in
        let first : enc (dec t) ≡ take k t = writes t (IsBytes-drop (at + k * a) s bytes) (omega (arith, length-drop (at + k * a) s)) in
        let others = back-from n (a + 1) at s bytes (rw (mul-add k (a + 1) n, mul-add k a 1, mul-one k) (omega arith)) in
        (λ i. first i ++ others i) ∙ rw (next_place at k a, all, take-add k (k * n) t, drop-drop k (at + k * a) s) refl

    pub records-back : (at n : ℕ) (s : List ℕ) → IsBytes s → at + k * n ≤ length s
        → flat_map enc (map (λ i. dec (drop (at + k * i) s)) (range_with_len 0 n)) ≡ take (k * n) (drop at s)
    records-back at n s bytes within =
        let from_first : 0 + n ≡ n = omega arith in
        back-from n 0 at s bytes (rw from_first within) ∙ ap (λ p. take (k * n) (drop p s)) (first_place at k)
