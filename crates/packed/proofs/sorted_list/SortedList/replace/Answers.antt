use Rattle.std.proofs.Common.{◌≡◌, ◌==◌, ◌∙◌, ℕ, List, Some, length, length-set, set, sym, ap, arith}
use Rattle.arrayvec.specs.ArrayVec.{ArrayVec, with_items}
use Rattle.arrayvec.proofs.ArrayVecLemmas.{items-with_items}
use Rattle.packed.specs.First.{first}
use Rattle.packed.specs.Rising.{rises, change}
use Rattle.packed.proofs.Order.{rises-change, length-change, has-found, change-found}
use Rattle.packed.proofs.Place.{has-gap, change-gap}
use Rattle.packed.proofs.sorted_list.SortedList.replace.Goals as goal

-- the slice of the vector v is written where the search for the number of the new element ended
module _ {A : Type 0} (key : A → ℕ) (new : A) (v : ArrayVec A) (xs : List A) (i : ℕ) (found : first (λ x. key x == key new) xs ≡ Some i) (items : v.items ≡ xs) where
  written : (shown : List A) → shown ≡ v.items → (with_items v (set shown i new)).items ≡ change key (key new) (λ _. new) xs
  written shown same =
      items-with_items v (set shown i new) (length-set shown i new ∙ ap length same)
      ∙ ap (λ ys. set ys i new) (same ∙ items)
      ∙ sym (change-found key (key new) (λ _. new) xs i found new)

pub returns-in-Ok : goal.returns-in-Ok
returns-in-Ok g c =
    let found = rw c.key_of.ensures at c.in-Ok.ensures.found in
    record {
      there = sym (has-found g.T.Keyed.key _ c.args.self.now c.in-Ok.at found);
      list = written g.T.Keyed.key c.args.new c.self.inside.items c.args.self.now c.in-Ok.at found c.self.view_is c.deref_mut.result.now c.deref_mut.ensures.value;
    }

pub invariant_of-self : goal.invariant_of-self
invariant_of-self g c =
    let xs = c.args.self.now in
    let list = (returns-in-Ok g c).list in (
      ap (rises g.T.Keyed.key 0) list ∙ rises-change g.T.Keyed.key (g.T.Keyed.key c.args.new) (λ _. c.args.new) (λ _ e. sym e) 0 xs ∙ rw c.self.view_is at c.self.invariant.0,
      omega (arith, c.self.invariant.1, ap length list, length-change g.T.Keyed.key (g.T.Keyed.key c.args.new) (λ _. c.args.new) xs, ap length c.self.view_is),
    )

pub returns-in-Err : goal.returns-in-Err
returns-in-Err g c =
    let gap = rw c.key_of.ensures at c.in-Err.ensures.absent in
    record {
      there = sym (has-gap g.T.Keyed.key _ c.args.self.now c.in-Err.field-0 gap);
      list = sym (change-gap g.T.Keyed.key _ c.args.self.now c.in-Err.field-0 gap (λ _. c.args.new));
    }
