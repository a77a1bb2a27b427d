-- The checks of the units' records: the units are in order, and their serials were given.
use Rattle.std.proofs.Common.{◌≡◌, ℕ, ◌<◌, ◌≤◌, true, false, List, length, get_or, subst, arith}
use Rattle.std.proofs.lemmas.Bool.Decides.{nat_tests}
use Rattle.std.proofs.lemmas.Bool.{and_parts}
use Rattle.std.proofs.lemmas.List.Elements.{recursion_from_All, All-from_recursion}
use Rattle.std.proofs.lemmas.List.Folds.{list_any_none}
use Rattle.std.specs.List.{All, list_any}
use Rattle.packed.specs.Rising.{rises}
use Rattle.rules.specs.declared.numbering.Bounds.{Bounds}
use Rattle.rules.specs.declared.unit.LogicalUnit.{LogicalUnit}
use Rattle.rules.specs.Sound.{unit_fits, SoundUnits}
use Rattle.rules.specs.Units.{no_unit, valid, exists, unit}
use Rattle.rules.proofs.Lookups.{all_lookup, lookup_key}
use Rattle.rules.proofs.RowsKept.{none_passes}
use Rattle.sheet.specs.Loading.{one_of, unit_faults}

module _ (bounds : Bounds) (next : ℕ) where
  fits : (u : LogicalUnit) → one_of (unit_faults bounds next u) ≡ false → (unit_fits bounds u ≡ true) × (u.serial < next)
  fits u f = (grind (arith, nat_tests), grind (arith, nat_tests))

  no-fault : (u : LogicalUnit) → unit_fits bounds u ≡ true → u.serial < next → one_of (unit_faults bounds next u) ≡ false
  no-fault u f l = grind (arith, nat_tests)

  module _ (units : List LogicalUnit) where
    pub units-sound : length units ≤ 16 → rises (λ u. u.number) 0 units ≡ true → list_any (λ u. one_of (unit_faults bounds next u)) units ≡ false
        → SoundUnits bounds units × All (λ u. u.serial < next) units
    units-sound few rising none =
        let each = λ (i : ℕ) (d : LogicalUnit) (l : i < length units). fits (get_or units i d) (none_passes (λ (u : LogicalUnit). one_of (unit_faults bounds next u)) units none i d l) in
        (record { few = few; ordered = rising; each = recursion_from_All (λ u. unit_fits bounds u ≡ true) units (λ i d l. (each i d l).0) }, λ i d l. (each i d l).1)

    -- a unit that is there fits, and has a valid number
    pub exists-fits : SoundUnits bounds units → (n : ℕ) → exists n units ≡ true → unit_fits bounds (unit n units) ≡ true
    exists-fits h n ex = all_lookup (λ (u : LogicalUnit). u.number) (λ u. unit_fits bounds u ≡ true) n units no_unit ex h.each

    pub exists-valid : SoundUnits bounds units → (n : ℕ) → exists n units ≡ true → valid bounds n ≡ true
    exists-valid h n ex =
        subst (λ m. valid bounds m ≡ true) (lookup_key (λ (u : LogicalUnit). u.number) n units no_unit ex) (and_parts (valid bounds (unit n units).number) _ (exists-fits h n ex)).0

    pub units-no-faults : SoundUnits bounds units → All (λ u. u.serial < next) units → list_any (λ u. one_of (unit_faults bounds next u)) units ≡ false
    units-no-faults h given = list_any_none (λ (u : LogicalUnit). one_of (unit_faults bounds next u)) units (λ i d l.
        no-fault (get_or units i d) (All-from_recursion (λ u. unit_fits bounds u ≡ true) units h.each i d l) (given i d l))
