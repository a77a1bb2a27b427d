use Rattle.std.proofs.Common.{◌≡◌, get_or, Some, sym, ap, ◌∙◌, arith}
use Rattle.std.specs.List.{remove as removed}
use Rattle.packed.specs.Rising.{rises, remove}
use Rattle.packed.proofs.Order.{lookup-found, has-found, remove-found, rises-remove}
use Rattle.packed.proofs.Place.{lookup-gap, has-gap, remove-gap}
use Rattle.packed.proofs.sorted_list.SortedList.remove.Goals as goal

left : (g : _) (c : goal.After-remove g) → c.remove.new.self.items ≡ remove g.T.Keyed.key c.args.number c.args.self.now
left g c =
    c.remove.ensures.items
    ∙ ap (λ xs. removed xs c.in-Ok.at) c.self.view_is
    ∙ sym (remove-found g.T.Keyed.key c.args.number c.args.self.now c.in-Ok.at c.in-Ok.ensures.found)

pub invariant_of-self : goal.invariant_of-self
invariant_of-self g c = (
  ap (rises g.T.Keyed.key 0) (left g c) ∙ rises-remove g.T.Keyed.key 0 c.args.number c.args.self.now (rw c.self.view_is at c.self.invariant.0),
  omega (arith, c.remove.ensures.len, c.self.invariant.1),
)

pub returns-in-Ok : goal.returns-in-Ok
returns-in-Ok g c =
    let xs = c.args.self.now in
    record {
      taken = ap Some (c.remove.ensures.value ∙ ap (λ xs. get_or xs c.in-Ok.at c.remove.result) c.self.view_is)
          ∙ sym (lookup-found g.T.Keyed.key c.args.number xs c.in-Ok.at c.in-Ok.ensures.found _);
      there = sym (has-found g.T.Keyed.key c.args.number xs c.in-Ok.at c.in-Ok.ensures.found);
      left = left g c;
    }

pub returns-in-Err : goal.returns-in-Err
returns-in-Err g c = record {
  taken = sym (lookup-gap g.T.Keyed.key c.args.number c.args.self.now c.in-Err.field-0 c.in-Err.ensures.absent);
  there = sym (has-gap g.T.Keyed.key c.args.number c.args.self.now c.in-Err.field-0 c.in-Err.ensures.absent);
  left = sym (remove-gap g.T.Keyed.key c.args.number c.args.self.now c.in-Err.field-0 c.in-Err.ensures.absent);
}
