-- A vault of which no more is known than how many keys it has room for.
use Rattle.std.specs.Prelude.{ℕ, []}
use Rattle.vault.specs.Meaning.{Meaning}

abbrev pub room_for : ℕ → Meaning
room_for unused = record { capacity = unused; held = [] }
