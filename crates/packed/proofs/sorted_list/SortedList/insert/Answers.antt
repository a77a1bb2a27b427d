use Rattle.std.proofs.Common.{◌≡◌, true, false, length, sym, ap, ◌∙◌, arith}
use Rattle.std.specs.List.{insert as inserted}
use Rattle.packed.specs.Rising.{rises, has, insert}
use Rattle.packed.proofs.Order.{rises-insert, has-found}
use Rattle.packed.proofs.Place.{has-gap, insert-gap}
use Rattle.packed.proofs.sorted_list.SortedList.insert.Goals as goal

-- no element has the number, and its gap is the new element's place
absent : (g : _) (c : goal.After-insert g) → has g.T.Keyed.key (g.T.Keyed.key c.args.new) c.args.self.now ≡ false
absent g c = has-gap g.T.Keyed.key _ c.args.self.now c.in-Err.at (rw c.key_of.ensures at c.in-Err.ensures.absent)

placed : (g : _) (c : goal.After-insert g) → c.insert.new.self.items ≡ insert g.T.Keyed.key c.args.new c.args.self.now
placed g c =
    c.insert.ensures.items
    ∙ ap (λ xs. inserted xs c.in-Err.at c.args.new) c.self.view_is
    ∙ sym (insert-gap g.T.Keyed.key c.args.new c.args.self.now c.in-Err.at (rw c.key_of.ensures at c.in-Err.ensures.absent))

pub invariant_of-self : goal.invariant_of-self
invariant_of-self g c = (
  ap (rises g.T.Keyed.key 0) (placed g c) ∙ rises-insert g.T.Keyed.key 0 c.args.new c.args.self.now (omega arith) (absent g c) (rw c.self.view_is at c.self.invariant.0),
  omega (arith, c.insert.ensures.len, ap length c.self.view_is),
)

pub returns-in-Ok : goal.returns-in-Ok
returns-in-Ok g c =
    let h : has g.T.Keyed.key (g.T.Keyed.key c.args.new) c.args.self.now ≡ true = has-found g.T.Keyed.key _ _ _ (rw c.key_of.ensures at c.in-Ok.ensures.found) in
    record { fresh = rw h; list = rw h }

pub returns-in-Err : goal.returns-in-Err
returns-in-Err g c = let h = absent g c in record { fresh = rw h; list = rw h (placed g c) }
