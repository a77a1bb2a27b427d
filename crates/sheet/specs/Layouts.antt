-- A layout as a sheet describes it.
use Rattle.std.specs.Prelude.{◌≡◌, ℕ, List}
use Rattle.layout.specs.declared.content.Layout.{Layout}
use Rattle.rules.specs.declared.numbering.Bounds.{Bounds}
use Rattle.sheet.specs.Format.{header_of, units_on}
use Rattle.sheet.specs.Loading.{rows_described}

pub record Describes (bounds : Bounds) (s : List ℕ) (l : Layout) : Type 0 where
  pub units : l.units ≡ units_on s
  pub rows : l.rows ≡ rows_described bounds s
  pub next : l.next ≡ (header_of s).next
  pub policy : l.policy ≡ (header_of s).policy
