-- The edges of a unit: the blocks where a range row of it starts, or has ended. The row that controls a block is the one that controls the block before, except at an edge.
use Rattle.std.specs.Prelude.{ℕ, ◌+◌, ◌&&◌, if◌then◌else◌, List, ◌==◌, nat_lt, fold}
use Rattle.rules.specs.declared.row.Kind.{Kind}
use Rattle.rules.specs.declared.row.Kind.TheVariants.{Free, Global, UnitRow, RangeRow}
use Rattle.rules.specs.declared.row.Row.{Row}

-- the edge, where it comes after the block and before the limit; else the limit
abbrev pub nearer : ℕ → ℕ → ℕ → ℕ
nearer block edge limit = if nat_lt block edge && nat_lt edge limit then edge else limit

-- the first edge after a block of the unit that a row makes, or the limit where that comes first
abbrev pub edge_after : ℕ → ℕ → ℕ → Kind → ℕ
edge_after n block limit Free = limit
edge_after n block limit Global = limit
edge_after n block limit (UnitRow u) = limit
edge_after n block limit (RangeRow u start length serial) = if u == n then nearer block start (nearer block (start + length) limit) else limit

-- the same for all these rows
abbrev pub next_edge : List Row → ℕ → ℕ → ℕ → ℕ
next_edge rows n block limit = fold (λ nearest r. edge_after n block nearest r.kind) limit rows
