use Rattle.std.proofs.Common.{◌≡◌, ℕ, false, List, if◌then◌else◌, length, ap, ◌∙◌, arith}
use Rattle.packed.proofs.Order.{has-remove, length-remove}
use Rattle.vault.specs.Meaning.{sound, with_held, swap_refusal}
use Rattle.vault.specs.Serials.{holds, adds, drops}
use Rattle.vault.specs.Views.{file_view}
use Rattle.vault.proofs.Checks.{accepted, changed}
use Rattle.vault.proofs.Requests.{swap-passed, swap-sound, room, added}
use Rattle.vault.proofs.file.KeyFileVault.swap.Goals as goal

pub insert-requires : goal.insert-requires
insert-requires c =
    let f = c.args.self.now in
    let p = swap-passed (file_view f) c.args.old c.args.new (accepted tt (swap_refusal (file_view f) c.args.old c.args.new) c.in_ok-check_swap.ensures) in
    omega (arith, ap length c.remove.ensures.left, length-remove (λ s. s) c.args.old f.serials p.0, room (file_view f) f.ordered)

-- the new serial in the place of the old one
swapped : (old new : ℕ) (xs ys zs : List ℕ) → holds new xs ≡ false → ys ≡ drops old xs → zs ≡ (if holds new ys then ys else adds new ys) → zs ≡ adds new (drops old xs)
swapped old new xs ys zs h d e = added new ys zs (ap (holds new) d ∙ has-remove (λ s. s) new old xs h) e ∙ ap (adds new) d

pub invariant_of-self : goal.invariant_of-self
invariant_of-self c =
    let f = c.args.self.now in
    let e = accepted tt (swap_refusal (file_view f) c.args.old c.args.new) c.in_ok-check_swap.ensures in
    let p = swap-passed (file_view f) c.args.old c.args.new e in
    record {
      small = f.small;
      ordered = ap (λ held. sound (with_held (file_view f) held)) (swapped c.args.old c.args.new f.serials _ _ p.2 c.remove.ensures.left c.insert.ensures.list)
          ∙ swap-sound (file_view f) f.ordered c.args.old c.args.new e;
    }

pub returns-clause-after : goal.returns-clause-after
returns-clause-after c =
    let f = c.args.self.now in
    let e = accepted tt (swap_refusal (file_view f) c.args.old c.args.new) c.in_ok-check_swap.ensures in
    let p = swap-passed (file_view f) c.args.old c.args.new e in
    ap (with_held (file_view f)) (swapped c.args.old c.args.new f.serials _ _ p.2 c.remove.ensures.left c.insert.ensures.list)
    ∙ changed (swap_refusal (file_view f) c.args.old c.args.new) (file_view f) _ e
