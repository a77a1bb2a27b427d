-- What `from_str_radix` answers at a text of digits alone: it has no sign, so the value alone decides.
use Rattle.std.proofs.Common.{◌≡◌, ℕ, ◌^◌, ◌<◌, ◌≤◌, true, List, [], ◌∷◌, length, Ok, Err, Result, rules}
use Rattle.std.specs.Result.{OkIff}
use Rattle.std.specs.Str.Parse.{AllDigits, ParsesUnsigned, digits_value, without_leading_plus}
use Rattle.numerals.specs.Number.{all_digits, numeral}

pub digits-all : (base : ℕ) (bs : List ℕ) → all_digits base bs ≡ true → AllDigits base bs
digits-all base [] h = tt
digits-all base (c ∷ cs) h = (search rules, digits-all base cs (search rules))

pub no_plus : (base : ℕ) (bs : List ℕ) → base ≤ 36 → all_digits base bs ≡ true → without_leading_plus bs ≡ bs
no_plus base [] small h = search rules
no_plus base (c ∷ cs) small h = search rules

all_of : (base : ℕ) (bs : List ℕ) → numeral base bs ≡ true → (all_digits base bs ≡ true) × (0 < length bs)
all_of base bs h = search rules

pub converted : {E : Type 0} (base : ℕ) (bs : List ℕ) (r : Result ℕ E) → base ≤ 36 → numeral base bs ≡ true →
    ParsesUnsigned 64 base bs r → OkIff r (digits_value base bs < 2 ^ 64) (digits_value base bs)
converted base bs (Ok x) small h reads =
    let p = no_plus base bs small (all_of base bs h).0 in
    let q = rw p at reads in
    (q.0.1, q.1)
converted base bs (Err e) small h reads = λ fits.
    let p = no_plus base bs small (all_of base bs h).0 in
    let q = rw p at reads in
    q (((all_of base bs h).1, digits-all base bs (all_of base bs h).0), fits)
