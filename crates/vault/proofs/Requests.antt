-- When a request is accepted, and that it then leaves a sound meaning; when Put finds no room.
use Rattle.std.proofs.Common.{◌≡◌, ℕ, ◌<◌, ◌≤◌, true, false, not, eqb, leb, List, if◌then◌else◌, [], ◌∷◌, length, Some, None, arith}
use Rattle.std.proofs.lemmas.Bool.{and_parts, and_from, leb-true, le-leb, lt-leb, ne_eqb, not-false}
use Rattle.std.proofs.lemmas.Bool.Decides.{nat_tests}
use Rattle.packed.proofs.Order.{rises-insert, rises-remove, length-insert, length-remove, has-remove}
use Rattle.vault.specs.declared.refusal.VaultRefusal.TheVariants.{SerialZero, AlreadyHeld, Full, NotHeld}
use Rattle.vault.specs.Serials.{set_of_serials, holds, adds, drops}
use Rattle.vault.specs.Meaning.{Meaning, sound, with_held, put_refusal, swap_refusal, drop_refusal}
use Rattle.vault.proofs.Checks.{all-passed}

-- ---- when a request is accepted, and what an accepted one has passed
module _ (m : Meaning) where
  pub put-accepted : (s : ℕ) → (s ≡ 0 → ⊥) → holds s m.held ≡ false → length m.held < m.capacity → put_refusal m s ≡ None
  put-accepted s z h l = rw (ne_eqb s 0 z, h, lt-leb m.capacity (length m.held) l)

  pub put_full : (s : ℕ) → (s ≡ 0 → ⊥) → holds s m.held ≡ false → m.capacity ≤ length m.held → put_refusal m s ≡ Some Full
  put_full s z h l = rw (ne_eqb s 0 z, h, le-leb m.capacity (length m.held) l)

  pub swap-accepted : (old new : ℕ) → holds old m.held ≡ true → (new ≡ 0 → ⊥) → holds new m.held ≡ false → swap_refusal m old new ≡ None
  swap-accepted old new h z k = rw (h, ne_eqb new 0 z, k)

  pub drop-accepted : (s : ℕ) → holds s m.held ≡ true → drop_refusal m s ≡ None
  drop-accepted s h = rw h

  pub put-passed : (s : ℕ) → put_refusal m s ≡ None → (eqb s 0 ≡ false) × (holds s m.held ≡ false) × (leb m.capacity (length m.held) ≡ false)
  put-passed s e =
      let p = all-passed ((eqb s 0, SerialZero) ∷ (holds s m.held, AlreadyHeld) ∷ (leb m.capacity (length m.held), Full) ∷ []) e in
      (p.0, p.1.0, p.1.1.0)

  pub swap-passed : (s t : ℕ) → swap_refusal m s t ≡ None → (holds s m.held ≡ true) × (eqb t 0 ≡ false) × (holds t m.held ≡ false)
  swap-passed s t e =
      let p = all-passed ((not (holds s m.held), NotHeld) ∷ (eqb t 0, SerialZero) ∷ (holds t m.held, AlreadyHeld) ∷ []) e in
      (not-false _ p.0, p.1.0, p.1.1.0)

  pub drop-passed : (s : ℕ) → drop_refusal m s ≡ None → holds s m.held ≡ true
  drop-passed s e = not-false _ (all-passed ((not (holds s m.held), NotHeld) ∷ []) e).0

-- a sound meaning by its two parts
pub sound-from : (m : Meaning) → set_of_serials m.held ≡ true → length m.held ≤ m.capacity → sound m ≡ true
sound-from m r l = and_from (set_of_serials m.held) _ r (le-leb _ _ l)

module _ (m : Meaning) (ok : sound m ≡ true) where
  pub rises : set_of_serials m.held ≡ true
  rises = (and_parts (set_of_serials m.held) _ ok).0

  pub room : length m.held ≤ m.capacity
  room = leb-true _ _ (and_parts (set_of_serials m.held) _ ok).1

  -- what an accepted request leaves is sound
  pub put-sound : (s : ℕ) → put_refusal m s ≡ None → sound (with_held m (adds s m.held)) ≡ true
  put-sound s e =
      let p = put-passed m s e in
      let l = length-insert (λ x. x) s m.held in
      sound-from (with_held m (adds s m.held)) (rises-insert (λ x. x) 1 s m.held (grind (arith, nat_tests)) p.1 rises) (grind (arith, nat_tests))

  pub drop-sound : (s : ℕ) → drop_refusal m s ≡ None → sound (with_held m (drops s m.held)) ≡ true
  drop-sound s e =
      sound-from (with_held m (drops s m.held))
      (rises-remove (λ x. x) 1 s m.held rises) (omega (arith, room, length-remove (λ x. x) s m.held (drop-passed m s e)))

  pub swap-sound : (s t : ℕ) → swap_refusal m s t ≡ None → sound (with_held m (adds t (drops s m.held))) ≡ true
  swap-sound s t e =
      let p = swap-passed m s t e in
      sound-from (with_held m (adds t (drops s m.held)))
      (rises-insert (λ x. x) 1 t (drops s m.held) (grind (arith, nat_tests)) (has-remove (λ x. x) t s m.held p.2) (rises-remove (λ x. x) 1 s m.held rises))
      (omega (arith, room, length-insert (λ x. x) t (drops s m.held), length-remove (λ x. x) s m.held p.0))

-- a sorted list that has not the serial, with the serial in its place
pub added : (s : ℕ) (xs ys : List ℕ) → holds s xs ≡ false → ys ≡ (if holds s xs then xs else adds s xs) → ys ≡ adds s xs
added s xs ys h e = simp h at e
