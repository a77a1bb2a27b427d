-- Which call the words of a line say.
use Rattle.std.specs.Prelude.{◌≡◌, ℕ, suc, zero, ◌^◌, ◌<◌, ◌≤◌, Bool, true, List, [], ◌∷◌, Vec, vec_items, vec_len, codes, Option, Some, None, bit_or}
use Rattle.std.specs.List.{AllByRecursion, fold, list_any}
use Rattle.std.specs.Str.{bytes_eq}
use Rattle.std.specs.declared.alloc.Global.{Global}
use Rattle.rules.specs.declared.ask.Ask.TheVariants as asks
use Rattle.rules.specs.declared.ask.Question.{Question}
use Rattle.rules.specs.declared.ask.Question.TheVariants.{Unused, Controls, Access, ReadRow}
use Rattle.rules.specs.declared.call.Call.{Call}
use Rattle.rules.specs.declared.call.Call.TheVariants.{Assign, Deassign, SetRange, SetLocks, GenKey, Erase, Reactivate, Create, Delete, Format, Reset}
use Rattle.rules.specs.declared.row.Flags.{Flags}
use Rattle.lines.specs.Line.{where_true}
use Rattle.lines.specs.Spelling.{access_word, numbering_word, standing_words, vault_word}
use Rattle.numerals.specs.Number.{Writes32, Writes64, WriteAll32}
use Rattle.lines.specs.declared.calls.Order.{Order}
use Rattle.lines.specs.declared.calls.Order.TheVariants as orders
use Rattle.lines.specs.declared.calls.Layout.{Layout}
use Rattle.lines.specs.declared.calls.Source.{Source}
use Rattle.lines.specs.declared.calls.Source.TheVariants.{Fresh, Sheet}
use Rattle.lines.specs.declared.kinds.NumberingKind.{NumberingKind}
use Rattle.lines.specs.declared.kinds.VaultKind.{VaultKind}

-- the words ws begin with the caller, which is 0 for Admins, and the words left follow
abbrev pub NamesCaller : ℕ → List (List ℕ) → List (List ℕ) → Type 0
NamesCaller zero ws left = ws ≡ codes "admins" ∷ left
NamesCaller (suc n) ws left = (u : List ℕ) × (ws ≡ codes "user" ∷ u ∷ left) × Writes32 u (suc n)

-- they begin with the caller where there is one, and else none of them does
abbrev pub CalledBy : Option ℕ → List (List ℕ) → List (List ℕ) → Type 0
CalledBy None ws left = left ≡ ws
CalledBy (Some caller) ws left = NamesCaller caller ws left

-- the word stands among the words
abbrev pub stands : List ℕ → List (List ℕ) → Bool
stands w ws = list_any (bytes_eq w) ws

-- it names a flag
abbrev pub is_flag : List ℕ → Bool
is_flag w = stands w (codes "read-enabled" ∷ codes "write-enabled" ∷ codes "read-locked" ∷ codes "write-locked" ∷ codes "lock-on-reset" ∷ [])

-- each of the words names a flag; the flags that are named are true, and the others false
abbrev pub NameFlags : List (List ℕ) → Flags → Type 0
NameFlags ws flags =
    AllByRecursion (λ w. is_flag w ≡ true) ws
    × (flags.read_lock_enabled ≡ stands (codes "read-enabled") ws)
    × (flags.write_lock_enabled ≡ stands (codes "write-enabled") ws)
    × (flags.read_locked ≡ stands (codes "read-locked") ws)
    × (flags.write_locked ≡ stands (codes "write-locked") ws)
    × (flags.lock_on_reset ≡ stands (codes "lock-on-reset") ws)

-- the words name the rows of the selection, whose bit r is for row r
abbrev pub NameRows : List (List ℕ) → ℕ → Type 0
NameRows ws selection =
    (rows : List ℕ) × WriteAll32 ws rows × AllByRecursion (λ row. row < 32) rows × (selection ≡ fold (λ bits row. bit_or bits (2 ^ row)) 0 rows)

-- the words ws, after any that name the caller `by`, say the call: what is made in a session has a caller, and all else has none
abbrev pub SaysCall : Option ℕ → Call → List (List ℕ) → Type 0
SaysCall by (Assign caller unit start length standing) ws =
    (by ≡ Some caller) × (u : List ℕ) × (s : List ℕ) × (l : List ℕ) × (ws ≡ codes "assign" ∷ u ∷ s ∷ l ∷ standing_words standing)
    × Writes32 u unit × Writes64 s start × Writes64 l length
SaysCall by (Deassign caller row keep) ws =
    (by ≡ Some caller) × (r : List ℕ) × (ws ≡ codes "deassign" ∷ r ∷ where_true keep (codes "keep")) × Writes32 r row
SaysCall by (SetRange caller row start length) ws =
    (by ≡ Some caller) × (r : List ℕ) × (s : List ℕ) × (l : List ℕ) × (ws ≡ codes "set-range" ∷ r ∷ s ∷ l ∷ [])
    × Writes32 r row × Writes64 s start × Writes64 l length
SaysCall by (SetLocks caller row flags) ws =
    (by ≡ Some caller) × (r : List ℕ) × (fs : List (List ℕ)) × (ws ≡ codes "set-locks" ∷ r ∷ fs) × Writes32 r row × NameFlags fs flags
SaysCall by (GenKey caller row) ws = (by ≡ Some caller) × (r : List ℕ) × (ws ≡ codes "gen-key" ∷ r ∷ []) × Writes32 r row
SaysCall by (Erase caller row) ws = (by ≡ Some caller) × (r : List ℕ) × (ws ≡ codes "erase" ∷ r ∷ []) × Writes32 r row
SaysCall by (Reactivate caller selection policy) ws =
    (by ≡ Some caller) × (p : List ℕ) × (rs : List (List ℕ)) × (ws ≡ codes "reactivate" ∷ p ∷ rs) × Writes32 p policy × NameRows rs selection
SaysCall by (Create unit blocks) ws =
    (by ≡ None) × (u : List ℕ) × (b : List ℕ) × (ws ≡ codes "create" ∷ u ∷ b ∷ []) × Writes32 u unit × Writes64 b blocks
SaysCall by (Delete unit) ws = (by ≡ None) × (u : List ℕ) × (ws ≡ codes "delete" ∷ u ∷ []) × Writes32 u unit
SaysCall by (Format unit) ws = (by ≡ None) × (u : List ℕ) × (ws ≡ codes "format" ∷ u ∷ []) × Writes32 u unit
SaysCall by (Reset caller) ws = (by ≡ Some caller) × (ws ≡ codes "reset" ∷ [])

-- the same of a question: a row is read in a session
abbrev pub SaysQuestion : Option ℕ → Question → List (List ℕ) → Type 0
SaysQuestion by Unused ws = (by ≡ None) × (ws ≡ codes "unused" ∷ [])
SaysQuestion by (Controls unit block) ws =
    (by ≡ None) × (u : List ℕ) × (b : List ℕ) × (ws ≡ codes "controls" ∷ u ∷ b ∷ []) × Writes32 u unit × Writes64 b block
SaysQuestion by (Access access unit start count) ws =
    (by ≡ None) × (u : List ℕ) × (f : List ℕ) × (c : List ℕ) × (ws ≡ codes "access" ∷ access_word access ∷ u ∷ f ∷ c ∷ [])
    × Writes32 u unit × Writes64 f start × Writes64 c count
SaysQuestion by (ReadRow caller row) ws = (by ≡ Some caller) × (r : List ℕ) × (ws ≡ codes "read-row" ∷ r ∷ []) × Writes32 r row

-- the same of whatever a line wants of the table
abbrev pub SaysBy : Option ℕ → Order → List (List ℕ) → Type 0
SaysBy by (orders.Ask (asks.Call call)) ws = SaysCall by call ws
SaysBy by (orders.Ask (asks.Question question)) ws = SaysQuestion by question ws
SaysBy by orders.Describe ws = (by ≡ None) × (ws ≡ codes "describe" ∷ [])
SaysBy by (orders.Save path) ws = (by ≡ None) × (ws ≡ codes "save" ∷ path.now ∷ [])

-- the words of a line say what it wants of the table
abbrev pub Says : Order → List (List ℕ) → Type 0
Says order ws = (by : Option ℕ) × (left : List (List ℕ)) × CalledBy by ws left × SaysBy by order left

-- the words list the serials that the vault holds, no more than the capacity; no word stands where it holds the sheet's own
abbrev pub Holds : ℕ → Option (Vec ℕ Global) → List (List ℕ) → Type 0
Holds capacity None ws = ws ≡ []
Holds capacity (Some serials) ws =
    (ss : List (List ℕ)) × (ws ≡ codes "holding" ∷ ss) × WriteAll32 ss (vec_items serials) × (vec_len serials ≤ capacity)

-- the words ws begin with the drive's numbering, its vault and the capacity, and the words left follow
abbrev pub NamesDrive : NumberingKind → VaultKind → ℕ → List (List ℕ) → List (List ℕ) → Type 0
NamesDrive numbering vault capacity ws left =
    (c : List ℕ) × (ws ≡ numbering_word numbering ∷ vault_word vault ∷ c ∷ left) × Writes32 c capacity

-- the keyword of a layout call, and the words that follow the capacity, say what the table begins with
abbrev pub BeginsWith : Source → ℕ → List ℕ → List (List ℕ) → Type 0
BeginsWith Fresh capacity keyword ws = (keyword ≡ codes "fresh") × (ws ≡ [])
BeginsWith (Sheet path holding) capacity keyword ws =
    (keyword ≡ codes "load") × (hs : List (List ℕ)) × (ws ≡ path.now ∷ hs) × Holds capacity holding hs

-- the words of a line say the layout
abbrev pub LaysOut : Layout → List (List ℕ) → Type 0
LaysOut l [] = ⊥
LaysOut l (w ∷ ws) = (left : List (List ℕ)) × NamesDrive l.numbering l.vault l.capacity ws left × BeginsWith l.source l.capacity w left
