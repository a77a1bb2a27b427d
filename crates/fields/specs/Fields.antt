-- Numbers in so many bytes each, the most significant first.
use Rattle.std.specs.Prelude.{◌≡◌, ◌<◌, ◌≤◌, ℕ, ◌+◌, ◌^◌, List, ◌++◌, length, take, drop, slice_index}
use Rattle.std.specs.List.{flat_map, sum_by}
use Rattle.byteorder.specs.Endian.{big_bytes, big_number}
use Rattle.fields.specs.declared.Field.{Field}

-- n in k bytes
abbrev pub be : ℕ → ℕ → Field
be k n = record { width = k; value = n }

abbrev pub bytes_of_field : Field → List ℕ
bytes_of_field f = big_bytes f.width f.value

-- fields one after another, without a gap
unfoldable pub bytes_of : List Field → List ℕ
bytes_of fields = flat_map bytes_of_field fields

abbrev pub size : List Field → ℕ
size fields = sum_by (λ f. f.width) fields

-- the number in the k bytes from a place on
unfoldable pub number_at : ℕ → ℕ → List ℕ → ℕ
number_at at k bytes = big_number k (drop at bytes)

-- with these bytes from a place on
unfoldable pub written : ℕ → List ℕ → List ℕ → List ℕ
written at bytes old = take at old ++ bytes ++ drop (at + length bytes) old

-- each is a byte
abbrev pub IsBytes : List ℕ → Type 0
IsBytes s = (i : ℕ) → slice_index s i < 256

-- ---- the law of the width
-- a number that fits is read back from where it is written, whatever stands around it
abbrev pub ReadsBack : Type 0
ReadsBack = (front : List ℕ) (k n : ℕ) (rest : List ℕ) → n < 256 ^ k → number_at (length front) k (front ++ (big_bytes k n ++ rest)) ≡ n

-- a number that is read has the bytes that it is read from
abbrev pub WritesBack : Type 0
WritesBack = (bytes : List ℕ) (at k : ℕ) → IsBytes bytes → at + k ≤ length bytes → big_bytes k (number_at at k bytes) ≡ take k (drop at bytes)
