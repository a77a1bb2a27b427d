use Rattle.std.proofs.Common.{◌≡◌, ◌==◌, ℕ, Ok, Err, IfOk, IfErr, List, Result, Some, is_ok, sym, ◌∙◌}
use Rattle.packed.specs.First.{first}
use Rattle.packed.specs.Place.{IsGapFor}
use Rattle.packed.specs.Rising.{has}
use Rattle.packed.proofs.Order.{has-found}
use Rattle.packed.proofs.Place.{has-gap}
use Rattle.packed.proofs.sorted_list.SortedList.contains.Goals as goal

searched : {A : Type 0} (key : A → ℕ) (k : ℕ) (xs : List A) (s : Result ℕ ℕ)
    → IfOk s (λ i. first (λ x. key x == k) xs ≡ Some i) → IfErr s (IsGapFor key xs k) → is_ok s ≡ has key k xs
searched key k xs (Ok i) found absent = sym (has-found key k xs i found)
searched key k xs (Err i) found absent = sym (has-gap key k xs i absent)

pub returns : goal.returns
returns g c = c.is_ok.ensures.value ∙ searched g.T.Keyed.key c.args.number c.args.self.now c.search.result c.search.ensures.found c.search.ensures.absent
