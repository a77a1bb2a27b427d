use Rattle.std.proofs.Common.{◌≡◌, get_or, Some, sym, ap, ◌∙◌}
use Rattle.packed.proofs.Order.{lookup-found, has-found}
use Rattle.packed.proofs.Place.{lookup-gap, has-gap}
use Rattle.packed.proofs.sorted_list.SortedList.get.Goals as goal

pub returns-in-Ok : goal.returns-in-Ok
returns-in-Ok g c =
    let xs = c.args.self.now in
    let read : c.index-deref-at.result ≡ get_or xs c.in-Ok.at c.index-deref-at.result = c.index-deref-at.is ∙ ap (λ xs. get_or xs c.in-Ok.at c.index-deref-at.result) (c.deref.ensures.0 ∙ c.self.view_is) in
    record {
      found = ap Some read ∙ sym (lookup-found g.T.Keyed.key c.args.number xs c.in-Ok.at (c.in-Ok.ensures.found) _);
      there = sym (has-found g.T.Keyed.key c.args.number xs c.in-Ok.at (c.in-Ok.ensures.found));
    }

pub returns-in-Err : goal.returns-in-Err
returns-in-Err g c = record {
  found = sym (lookup-gap g.T.Keyed.key c.args.number c.args.self.now c.in-Err.field-0 c.in-Err.ensures.absent);
  there = sym (has-gap g.T.Keyed.key c.args.number c.args.self.now c.in-Err.field-0 c.in-Err.ensures.absent);
}
