use Rattle.std.proofs.Common.{rules}
use Rattle.std.proofs.lemmas.List.Sorted.{answers_always}
use Rattle.packed.proofs.Place.{searched}
use Rattle.packed.proofs.sorted_list.SortedList.search.Goals as goal

-- the closure gives an element's number, and the slice is the list
pub returns : goal.returns
returns g c =
    let facts = c.binary_search_by_key.ensures in
    let by_key = facts.position g.T.Keyed.key (answers_always _ _ _ (λ f a r g called. search rules)) in
    rw (← c.self.view_is, ← c.deref.ensures.0) (searched g.T.Keyed.key c.args.number _ (rw c.deref.ensures.0 c.self.invariant.0) _ facts.bound by_key)
