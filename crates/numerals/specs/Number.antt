-- What number a word writes: decimal, or hexadecimal after `0x`.
use Rattle.std.specs.Prelude.{◌≡◌, ℕ, ◌^◌, Bool, cond, ◌&&◌, List, map, length, take, drop, Ok, Err, codes, Result, nat_lt}
use Rattle.std.specs.List.{list_all}
use Rattle.std.specs.Str.Parse.{digits_value}
use Rattle.std.specs.Char.{is_digit}
use Rattle.std.specs.Str.{bytes_eq}
use Rattle.numerals.specs.declared.NumberFault.{NumberFault}
use Rattle.numerals.specs.declared.NumberFault.TheVariants.{NotANumber, TooLarge}

-- each byte is a digit of the base
abbrev pub all_digits : ℕ → List ℕ → Bool
all_digits base bs = list_all (λ c. is_digit c base) bs

-- one digit or more, and nothing else
abbrev pub numeral : ℕ → List ℕ → Bool
numeral base bs = nat_lt 0 (length bs) && all_digits base bs

-- the same number where it is below the bound
abbrev pub fitted : ℕ → Result ℕ NumberFault → Result ℕ NumberFault
fitted bound (Ok n) = cond (nat_lt n bound) (Ok n) (Err TooLarge)
fitted bound (Err e) = Err e

-- the number that the bytes write in the base
abbrev pub read_in : ℕ → List ℕ → Result ℕ NumberFault
read_in base bs = cond (numeral base bs) (fitted (2 ^ 64) (Ok (digits_value base bs))) (Err NotANumber)

-- `0x` stands first
abbrev pub is_hex : List ℕ → Bool
is_hex bs = bytes_eq (take 2 bs) (codes "0x")

abbrev pub read : List ℕ → Result ℕ NumberFault
read bs = cond (is_hex bs) (read_in 16 (drop 2 bs)) (read_in 10 bs)

-- the word writes a number of 32 or of 64 bits
abbrev pub Writes32 : List ℕ → ℕ → Type 0
Writes32 w n = fitted (2 ^ 32) (read w) ≡ Ok n

abbrev pub Writes64 : List ℕ → ℕ → Type 0
Writes64 w n = read w ≡ Ok n

-- the words write the numbers of 32 bits, one each
abbrev pub WriteAll32 : List (List ℕ) → List ℕ → Type 0
WriteAll32 ws ns = map (λ w. fitted (2 ^ 32) (read w)) ws ≡ map Ok ns
