-- Up to the next edge one row controls the blocks of a unit, and with each edge that is reached fewer are left.
use Rattle.std.proofs.Common.{◌≡◌, ℕ, ◌+◌, ◌-◌, ◌<◌, ◌≤◌, false, cond, eqb, ltb, List, [], ◌∷◌, refl, ap, ◌∙◌, inl, inr, arith}
use Rattle.std.proofs.lemmas.Bool.{cases_lt}
use Rattle.std.proofs.lemmas.Bool.Decides.{nat_tests}
use Rattle.std.proofs.lemmas.List.Sums.{sum_by-cons, sum_by-le-sum_by}
use Rattle.std.specs.List.{AllByRecursion, sum_by}
use Rattle.std.specs.Option.{unwrap_or}
use Rattle.rules.specs.declared.access.Access.{Access}
use Rattle.rules.specs.declared.row.Kind.{Kind}
use Rattle.rules.specs.declared.row.Kind.TheVariants.{Free, Global, UnitRow, RangeRow}
use Rattle.rules.specs.declared.row.Row.{Row}
use Rattle.rules.specs.declared.row.Sought.TheVariants.{RangeOver}
use Rattle.rules.specs.Questions.{block_locked, first_locked}
use Rattle.rules.specs.Rows.{row, locked_for, range_over, suits, row_under, controlling_row}
use Rattle.layout.specs.Edges.{edge_after, next_edge}
use Rattle.layout.proofs.Searches.{find-past, first-alike}

-- how many edges a row makes after a block: none, one or two
abbrev pub edges_made : ℕ → ℕ → Kind → ℕ
edges_made n block Free = 0
edges_made n block Global = 0
edges_made n block (UnitRow u) = 0
edges_made n block (RangeRow u start length serial) = cond (eqb u n) (cond (ltb block start) 1 0 + cond (ltb block (start + length)) 1 0) 0

-- how many all these rows make
abbrev pub edges_left : List Row → ℕ → ℕ → ℕ
edges_left rows n block = sum_by (λ r. edges_made n block r.kind) rows

-- from edge to edge, at most so many steps lead from a block to the limit
abbrev pub steps_left : List Row → ℕ → ℕ → ℕ → ℕ
steps_left rows n block limit = cond (ltb block limit) (1 + edges_left rows n block) 0

-- ---- one row
module _ (n block limit : ℕ) where
  after-within : (kind : Kind) → edge_after n block limit kind ≤ limit
  after-within Free = omega arith
  after-within Global = omega arith
  after-within (UnitRow u) = omega arith
  after-within (RangeRow u s l k) = grind (arith, nat_tests)

  after-later : block < limit → (kind : Kind) → block < edge_after n block limit kind
  after-later h Free = h
  after-later h Global = h
  after-later h (UnitRow u) = h
  after-later h (RangeRow u s l k) = grind (arith, nat_tests)

  after-alike : (b : ℕ) → block ≤ b → (kind : Kind) → b < edge_after n block limit kind → range_over n b kind ≡ range_over n block kind
  after-alike b h Free g = refl
  after-alike b h Global g = refl
  after-alike b h (UnitRow u) g = refl
  after-alike b h (RangeRow u s l k) g = grind (arith, nat_tests)

  -- the edge itself is not after it
  after-reached : (kind : Kind) (edge : ℕ) → edge ≡ edge_after n block limit kind → edge < limit → edges_made n edge kind < edges_made n block kind
  after-reached Free edge e h = absurd (let b : ⊥ = omega arith in b)
  after-reached Global edge e h = absurd (let b : ⊥ = omega arith in b)
  after-reached (UnitRow u) edge e h = absurd (let b : ⊥ = omega arith in b)
  after-reached (RangeRow u s l k) edge e h = grind (arith, nat_tests)

edges-fewer : (n block b : ℕ) → block ≤ b → (kind : Kind) → edges_made n b kind ≤ edges_made n block kind
edges-fewer n block b h Free = omega arith
edges-fewer n block b h Global = omega arith
edges-fewer n block b h (UnitRow u) = omega arith
edges-fewer n block b h (RangeRow u s l k) = grind (arith, nat_tests)

-- ---- all rows
module _ (n block : ℕ) where
  next-within : (rows : List Row) (limit : ℕ) → next_edge rows n block limit ≤ limit
  next-within [] limit = omega arith
  next-within (r ∷ rows) limit = omega (arith, next-within rows (edge_after n block limit r.kind), after-within n block limit r.kind)

  next-later : (rows : List Row) (limit : ℕ) → block < limit → block < next_edge rows n block limit
  next-later [] limit h = h
  next-later (r ∷ rows) limit h = next-later rows (edge_after n block limit r.kind) (after-later n block limit h r.kind)

  next-alike : (b : ℕ) → block ≤ b → (rows : List Row) (limit : ℕ) → b < next_edge rows n block limit → AllByRecursion (λ r. suits (RangeOver n b) r ≡ suits (RangeOver n block) r) rows
  next-alike b h [] limit g = tt
  next-alike b h (r ∷ rows) limit g =
      let nearest : ℕ = edge_after n block limit r.kind in
      let before : b < nearest = omega (arith, next-within rows nearest) in
      (after-alike n block limit b h r.kind before, next-alike b h rows nearest g)

  next-reached : (rows : List Row) (limit edge : ℕ) → edge ≡ next_edge rows n block limit → block < limit → edge < limit → edges_left rows n edge < edges_left rows n block
  next-reached [] limit edge e h g = absurd (let b : ⊥ = omega arith in b)
  next-reached (r ∷ rows) limit edge e h g =
      let nearest : ℕ = edge_after n block limit r.kind in
      let later : block < nearest = after-later n block limit h r.kind in
      let past : block ≤ edge = omega (arith, e, next-later rows nearest later) in
      let there = sum_by-cons (λ (x : Row). edges_made n edge x.kind) r rows in
      let here = sum_by-cons (λ (x : Row). edges_made n block x.kind) r rows in
      elim (cases_lt edge nearest) [
        | inl l ↦ omega (arith, there, here, next-reached rows nearest edge e later l, edges-fewer n block edge past r.kind)
        | inr m ↦
            let others = sum_by-le-sum_by (λ (x : Row). edges_made n edge x.kind) (λ (x : Row). edges_made n block x.kind) rows (λ x. edges-fewer n block edge past x.kind) in
            let is : edge ≡ nearest = omega (arith, e, next-within rows nearest) in
            omega (arith, there, here, others, after-reached n block limit r.kind edge is g)
      ]

-- ---- a step of a walk from edge to edge
module _ (rows : List Row) (n block limit edge : ℕ) (e : edge ≡ next_edge rows n block limit) (h : block < limit) where
  pub step-within : edge ≤ limit
  step-within = omega (arith, next-within n block rows limit)

  control-alike : (b : ℕ) → block ≤ b → b < edge → controlling_row rows n b ≡ controlling_row rows n block
  control-alike b l g =
      ap (λ o. unwrap_or o (row_under rows n)) (first-alike (suits (RangeOver n b)) (suits (RangeOver n block)) rows (next-alike n block b l rows limit (omega arith)))

  -- where the row of a block is not locked, no block before the next edge is
  pub step-past : (access : Access) → block_locked rows access n block ≡ false → first_locked rows access n block (limit - block) ≡ first_locked rows access n edge (limit - edge)
  step-past access free =
      let later : block < edge = omega (arith, next-later n block rows limit h) in
      let within : edge ≤ limit = step-within in
      find-past (block_locked rows access n) (edge - block) block edge (limit - block) (limit - edge) (omega arith) (omega arith)
      (λ b l g. ap (λ r. locked_for access (row r rows).flags) (control-alike b l g) ∙ free)

  pub steps-fall : steps_left rows n edge limit < steps_left rows n block limit
  steps-fall = elim (cases_lt edge limit) [
    | inl l ↦ let f = next-reached n block rows limit edge e h l in grind (arith, nat_tests)
    | inr m ↦ grind (arith, nat_tests)
  ]
