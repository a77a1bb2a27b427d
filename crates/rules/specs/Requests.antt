-- What an accepted call is to ask of the vault.
use Rattle.std.specs.Prelude.{◌≡◌, ℕ, Bool, cond, List, [], ◌∷◌, None, Option}
use Rattle.std.specs.List.{AllByRecursion, fold, scan}
use Rattle.vault.specs.declared.refusal.VaultRefusal.{VaultRefusal}
use Rattle.vault.specs.Meaning.{Meaning, put_refusal, put_after, swap_refusal, swap_after, drop_refusal, drop_after}
use Rattle.rules.specs.declared.call.Call.{Call}
use Rattle.rules.specs.declared.call.Call.TheVariants.{Assign, Deassign, SetRange, SetLocks, GenKey, Erase, Reactivate, Create, Delete, Format, Reset}
use Rattle.rules.specs.declared.row.Kind.{Kind}
use Rattle.rules.specs.declared.row.Kind.TheVariants.{Free, Global, UnitRow, RangeRow}
use Rattle.rules.specs.declared.unit.Holder.{Holder}
use Rattle.rules.specs.Drive.{Drive, kind_of}
use Rattle.rules.specs.FreshKeys.{key_of, fresh_key, renewed_by, unit_and_ranges}
use Rattle.rules.specs.Rows.{has_unit_row}
use Rattle.rules.specs.Units.{unit}

pub data Request : Type 0 where
  Put : ℕ → Request
  Swap : ℕ → ℕ → Request
  Drop : ℕ → Request

abbrev pub vault_refusal : Meaning → Request → Option VaultRefusal
vault_refusal m (Put s) = put_refusal m s
vault_refusal m (Swap old new) = swap_refusal m old new
vault_refusal m (Drop s) = drop_refusal m s

abbrev pub vault_after : Meaning → Request → Meaning
vault_after m (Put s) = put_after m s
vault_after m (Swap old new) = swap_after m old new
vault_after m (Drop s) = drop_after m s

-- made one after the other on the first vault, none of these is refused, and they leave the last one
abbrev pub NoneRefused : Meaning → List Request → Meaning → Type 0
NoneRefused first requests last = AllByRecursion (λ refusal. refusal ≡ None) (scan vault_after vault_refusal first requests) × (last ≡ fold vault_after first requests)

-- a fresh key in the place of each old one
abbrev pub swap_of : Drive → Holder → Request
swap_of d holder = Swap (key_of d holder) d.next

unfoldable pub swaps : Drive → List Holder → List Request
swaps d holders = scan fresh_key swap_of d holders

abbrev pub requests_of_deassign : Drive → Bool → Kind → List Request
requests_of_deassign d keep Free = []
requests_of_deassign d keep Global = []
requests_of_deassign d keep (UnitRow u) = cond keep [] (Swap (unit u d.units).serial d.next ∷ [])
requests_of_deassign d keep (RangeRow u start length serial) = Drop serial ∷ []

-- what an accepted call asks
abbrev pub requests : Drive → Call → List Request
requests d (Assign caller n start length standing) = cond (has_unit_row n d.rows) (Put d.next ∷ []) []
requests d (Deassign caller r keep) = requests_of_deassign d keep (kind_of d r)
requests d (SetRange caller r start length) = []
requests d (SetLocks caller r flags) = []
requests d (GenKey caller r) = swaps d (renewed_by d r)
requests d (Erase caller r) = swaps d (renewed_by d r)
requests d (Reactivate caller selection policy) = []
requests d (Create n blocks) = Put d.next ∷ []
requests d (Delete n) = Drop (unit n d.units).serial ∷ []
requests d (Format n) = swaps d (unit_and_ranges d n)
requests d (Reset caller) = []
