-- The two kinds of vault: what their memory means, and what stands in it after a request.
use Rattle.std.specs.Prelude.{ℕ, Bool, cond, not, ◌&&◌, List, [], ◌∷◌, length, take, nat_eq, nat_le, slice_set}
use Rattle.std.specs.Option.{unwrap_or}
use Rattle.packed.specs.First.{first}
use Rattle.vault.specs.declared.refusal.VaultRefusal.TheVariants.{Unfit}
use Rattle.vault.specs.Checks.{first_of, answer, unless}
use Rattle.vault.specs.Serials.{collect, distinct}
use Rattle.vault.specs.Meaning.{Meaning, Outcome, put_refusal, swap_refusal, drop_refusal}

-- a vault with no place, which holds nothing
abbrev pub nothing : Meaning
nothing = record { capacity = 0; held = [] }

abbrev pub can_be_capacity : ℕ → Bool
can_be_capacity n = nat_le 1 n && nat_le n 64

-- ---- the key file: its serials in a sorted list
abbrev pub file_check : ℕ → Outcome
file_check capacity = answer (first_of ((not (can_be_capacity capacity), Unfit) ∷ [])) tt

-- a new key file holds nothing
abbrev pub file_new : ℕ → Meaning
file_new capacity = record { capacity = cond (can_be_capacity capacity) capacity 0; held = [] }

-- ---- the key chip: the words that are not 0 of the registers in use, which are all of them, or none where they are unfit.
-- These take how many registers are in use and all the words, since the words of unfit registers stay where they are
abbrev pub fit : List ℕ → Bool
fit words = can_be_capacity (length words) && distinct words

abbrev pub chip_check : List ℕ → Outcome
chip_check words = answer (first_of ((not (fit words), Unfit) ∷ [])) tt

abbrev pub chip_meaning : ℕ → List ℕ → Meaning
chip_meaning used words = record { capacity = used; held = collect (take used words) }

-- how many registers of a new chip are in use
abbrev pub in_use : List ℕ → ℕ
in_use words = cond (fit words) (length words) 0

abbrev pub chip_new : List ℕ → Meaning
chip_new words = cond (fit words) (record { capacity = length words; held = collect words }) nothing

-- the place of the lowest register in use that has this word; no accepted request meets a word that is in none
abbrev pub lowest : ℕ → List ℕ → ℕ → ℕ
lowest used words word = unwrap_or (first (λ w. nat_eq w word) (take used words)) used

-- with `new` where `word` stands lowest
abbrev pub overwritten : ℕ → List ℕ → ℕ → ℕ → List ℕ
overwritten used words word new = slice_set words (lowest used words word) new

-- Put fills the lowest register that is 0, Swap writes over the old serial, Drop clears it
abbrev pub chip_put : ℕ → List ℕ → ℕ → List ℕ
chip_put used words s = unless (put_refusal (chip_meaning used words) s) words (overwritten used words 0 s)

abbrev pub chip_swap : ℕ → List ℕ → ℕ → ℕ → List ℕ
chip_swap used words old new = unless (swap_refusal (chip_meaning used words) old new) words (overwritten used words old new)

abbrev pub chip_drop : ℕ → List ℕ → ℕ → List ℕ
chip_drop used words s = unless (drop_refusal (chip_meaning used words) s) words (overwritten used words s 0)
