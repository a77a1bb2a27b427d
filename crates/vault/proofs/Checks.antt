-- What follows where a call is refused, and where it is accepted.
use Rattle.std.proofs.Common.{◌≡◌, Bool, true, false, List, [], ◌∷◌, Some, None, Ok, Err, Option, Result, is_ok, refl, arith}
use Rattle.std.proofs.lemmas.Bool.Decides.{nat_tests}
use Rattle.std.specs.List.{AllByRecursion}
use Rattle.vault.specs.Checks.{first_of, answer, unless}

module _ {A C : Type 0} (done : A) where
  pub accepted : (refusal : Option C) → ◌≡◌ {A = Result A C} (Ok done) (answer refusal done) → refusal ≡ None
  accepted None e = refl
  accepted (Some c) e = absurd (cc)

  pub accepted-only : (refusal : Option C) → is_ok (answer refusal done) ≡ true → refusal ≡ None
  accepted-only None e = refl
  accepted-only (Some c) e = absurd (cc)

  pub unchanged : {S : Type 0} (refusal : Option C) (c : C) (was after : S) → ◌≡◌ {A = Result A C} (Err c) (answer refusal done) → was ≡ unless refusal was after
  unchanged (Some d) c was after e = refl
  unchanged None c was after e = absurd (cc)

-- what holds where there is none, and where there is one
pub by_option : {A : Type 0} (o : Option A) (P : Option A → Type 0) → (o ≡ None → P None) → ((x : A) → o ≡ Some x → P (Some x)) → P o
by_option None P none some = none refl
by_option (Some x) P none some = some x refl

pub changed : {C S : Type 0} (refusal : Option C) (was after : S) → refusal ≡ None → after ≡ unless refusal was after
changed refusal was after e = rw e

-- none of the checks applied
abbrev pub Passed : {C : Type 0} → List (Bool × C) → Type 0
Passed checks = AllByRecursion (λ check. check.0 ≡ false) checks

pub all-passed : {C : Type 0} (checks : List (Bool × C)) → first_of checks ≡ None → Passed checks
all-passed [] e = tt
all-passed (check ∷ checks) e = (grind (arith, nat_tests), all-passed checks (grind (arith, nat_tests)))

pub none-applies : {C : Type 0} (checks : List (Bool × C)) → Passed checks → first_of checks ≡ None
none-applies [] p = refl
none-applies (check ∷ checks) p = rw p.0 (none-applies checks p.1)

-- what an accepted call answers
pub accepted-with : {A C : Type 0} (refusal : Option C) (x y : A) → ◌≡◌ {A = Result A C} (Ok x) (answer refusal y) → (refusal ≡ None) × (x ≡ y)
accepted-with None x y e = (refl, cc)
accepted-with (Some c) x y e = absurd (cc)
