-- What a key vault means, and what each request answers and leaves.
use Rattle.std.specs.Prelude.{ℕ, Bool, not, ◌&&◌, List, [], ◌∷◌, length, Option, Result, ◌==◌, nat_le}
use Rattle.vault.specs.declared.refusal.VaultRefusal.{VaultRefusal}
use Rattle.vault.specs.declared.refusal.VaultRefusal.TheVariants.{Unfit, SerialZero, AlreadyHeld, Full, NotHeld}
use Rattle.vault.specs.Checks.{first_of, answer, unless}
use Rattle.vault.specs.Serials.{set_of_serials, holds, adds, drops}

-- a fixed capacity, and the set of the serials that are held
pub record Meaning : Type 0 where
  pub capacity : ℕ
  pub held : List ℕ

-- what stands in every vault: no serial is 0 or held twice, and there are at most as many as the capacity
abbrev pub sound : Meaning → Bool
sound m = set_of_serials m.held && nat_le (length m.held) m.capacity

abbrev pub number : VaultRefusal → ℕ
number Unfit = 29
number SerialZero = 41
number AlreadyHeld = 42
number Full = 43
number NotHeld = 44

abbrev pub Outcome : Type 0
Outcome = Result (Unit {0}) VaultRefusal

abbrev pub with_held : Meaning → List ℕ → Meaning
with_held m held = record { capacity = m.capacity; held = held }

-- Put: the serial is held from then on
abbrev pub put_refusal : Meaning → ℕ → Option VaultRefusal
put_refusal m s = first_of (
    ((s == 0), SerialZero)
    ∷ (holds s m.held, AlreadyHeld)
    ∷ (nat_le m.capacity (length m.held), Full)
    ∷ [])

abbrev pub put_answer : Meaning → ℕ → Outcome
put_answer m s = answer (put_refusal m s) tt

abbrev pub put_after : Meaning → ℕ → Meaning
put_after m s = unless (put_refusal m s) m (with_held m (adds s m.held))

-- Swap: the new serial stands in the place of the old one
abbrev pub swap_refusal : Meaning → ℕ → ℕ → Option VaultRefusal
swap_refusal m old new = first_of (
    (not (holds old m.held), NotHeld)
    ∷ ((new == 0), SerialZero)
    ∷ (holds new m.held, AlreadyHeld)
    ∷ [])

abbrev pub swap_answer : Meaning → ℕ → ℕ → Outcome
swap_answer m old new = answer (swap_refusal m old new) tt

abbrev pub swap_after : Meaning → ℕ → ℕ → Meaning
swap_after m old new = unless (swap_refusal m old new) m (with_held m (adds new (drops old m.held)))

-- Drop: the serial leaves
abbrev pub drop_refusal : Meaning → ℕ → Option VaultRefusal
drop_refusal m s = first_of ((not (holds s m.held), NotHeld) ∷ [])

abbrev pub drop_answer : Meaning → ℕ → Outcome
drop_answer m s = answer (drop_refusal m s) tt

abbrev pub drop_after : Meaning → ℕ → Meaning
drop_after m s = unless (drop_refusal m s) m (with_held m (drops s m.held))
