-- The serials of a drive beside its vault, and what a request keeps of them.
use Rattle.std.proofs.Common.{◌≡◌, ℕ, zero, suc, ◌+◌, ◌<◌, true, false, eqb, List, [], ◌∷◌, ◌++◌, map, length, get_or, set, None, Option, sym, refl, ap, ◌∙◌, subst, inl, inr, arith}
use Rattle.std.proofs.lemmas.Bool.Decides.{nat_tests}
use Rattle.std.proofs.lemmas.List.{length-set, get_or-set_same, set-set, set-get_or}
use Rattle.std.proofs.lemmas.Bool.{cases_Bool, both_ways, ne_eqb, true≢false}
use Rattle.packed.specs.Rising.{rises, has, insert, remove, lookup}
use Rattle.packed.proofs.Order.{has-insert, has-remove, remove-insert, rises-remove}
use Rattle.vault.specs.Meaning.{Meaning, sound, with_held, put_refusal, put_after, swap_refusal, swap_after, drop_refusal, drop_after}
use Rattle.vault.specs.declared.refusal.VaultRefusal.{VaultRefusal}
use Rattle.vault.specs.Checks.{unless}
use Rattle.vault.specs.Serials.{set_of_serials, holds, adds, drops, collect, distinct}
use Rattle.vault.proofs.Checks.{changed, by_option}
use Rattle.vault.proofs.Requests.{put-accepted, swap-accepted, drop-accepted, rises as rises-held, put-sound, swap-sound, drop-sound}
use Rattle.vault.proofs.Words.{adds-comm, holds-collect, collect-set, collect-swap}
use Rattle.rules.specs.declared.unit.LogicalUnit.{LogicalUnit}
use Rattle.rules.specs.Sound.{serial_of, SoundKeys}
use Rattle.rules.specs.Units.{exists, unit, with_unit, without_unit}
use Rattle.rules.proofs.Lookups.{has-remove-same}

-- ---- words, and the set that they make
pub holds_at : (xs : List ℕ) (i : ℕ) → i < length xs → holds (get_or xs i 0) xs ≡ true
unfolding has
holds_at [] i l = absurd (let b : ⊥ = omega arith in b)
holds_at (x ∷ xs) zero l = grind (arith, nat_tests)
holds_at (x ∷ xs) (suc i) l = let h = holds_at xs i (omega arith) in grind (arith, nat_tests)

rises-less : (low x : ℕ) (ys : List ℕ) → rises (λ y. y) low (adds x ys) ≡ true → (rises (λ y. y) low ys ≡ true) × (holds x ys ≡ false)
rises-less low x ys r = (
  subst (λ zs. rises (λ y. y) low zs ≡ true) (remove-insert (λ y. y) x ys) (rises-remove (λ y. y) low x (adds x ys) r),
  subst (λ zs. holds x zs ≡ false) (remove-insert (λ y. y) x ys) (has-remove-same (λ y. y) x low (adds x ys) r),
)

-- words whose set rises are all different
collect-apart : (xs : List ℕ) → set_of_serials (collect xs) ≡ true → distinct xs ≡ true
unfolding collect distinct
collect-apart [] r = refl
collect-apart (x ∷ xs) r = elim (cases_Bool (eqb x 0)) [
  | inl e ↦ let s : set_of_serials (collect xs) ≡ true = rw e at r in let ih = collect-apart xs s in grind (arith, nat_tests)
  | inr e ↦
      let p = rises-less 1 x (collect xs) (rw e at r) in
      let ih = collect-apart xs p.0 in
      let c = holds-collect x xs in
      let q = p.1 in
      grind (arith, nat_tests)
]

-- one unit more, or fewer
pub collect-unit : (u : LogicalUnit) (us : List LogicalUnit) (ks : List ℕ) → (u.serial ≡ 0 → ⊥) → collect (map serial_of (with_unit u us) ++ ks) ≡ adds u.serial (collect (map serial_of us ++ ks))
unfolding collect insert
collect-unit u [] ks z = grind (arith, nat_tests)
collect-unit u (v ∷ us) ks z = let ih = collect-unit u us ks z in let k = adds-comm v.serial u.serial (collect (map serial_of us ++ ks)) in grind (arith, nat_tests)

pub collect-without : (n : ℕ) (us : List LogicalUnit) (ks : List ℕ) → exists n us ≡ true → ((unit n us).serial ≡ 0 → ⊥) → collect (map serial_of us ++ ks) ≡ adds (unit n us).serial (collect (map serial_of (without_unit n us) ++ ks))
unfolding collect remove lookup has
collect-without n [] ks h z = absurd (true≢false (sym h))
collect-without n (v ∷ us) ks h z =
    let ih = collect-without n us ks in
    let k = adds-comm v.serial (unit n us).serial (collect (map serial_of (without_unit n us) ++ ks)) in
    grind (arith, nat_tests)

-- ---- the vault beside the words
pub make-keys : (n : ℕ) (m : Meaning) (ws : List ℕ) → sound m ≡ true → m.held ≡ collect ws → ((s : ℕ) → holds s m.held ≡ true → s < n) → SoundKeys n m ws
make-keys n m ws ok e g = record { meaning = ok; held = e; apart = collect-apart ws (ap set_of_serials (sym e) ∙ rises-held m ok); given = g }

-- no request changes the capacity
capacity-as : (o : Option VaultRefusal) (m : Meaning) (held : List ℕ) → (unless o m (with_held m held)).capacity ≡ m.capacity
capacity-as o m held = by_option o (λ o. (unless o m (with_held m held)).capacity ≡ m.capacity) (λ _. refl) (λ _ _. refl)

pub put-capacity : (m : Meaning) (s : ℕ) → (put_after m s).capacity ≡ m.capacity
put-capacity m s = capacity-as (put_refusal m s) m (adds s m.held)

pub swap-capacity : (m : Meaning) (old new : ℕ) → (swap_after m old new).capacity ≡ m.capacity
swap-capacity m old new = capacity-as (swap_refusal m old new) m (adds new (drops old m.held))

pub drop-capacity : (m : Meaning) (s : ℕ) → (drop_after m s).capacity ≡ m.capacity
drop-capacity m s = capacity-as (drop_refusal m s) m (drops s m.held)

-- what a request that is not refused leaves
asked : (o : Option VaultRefusal) (m : Meaning) (n : ℕ) (held ws : List ℕ) → o ≡ None → sound (with_held m held) ≡ true → held ≡ collect ws → ((s : ℕ) → holds s held ≡ true → s < n) → SoundKeys n (unless o m (with_held m held)) ws
asked o m n held ws e ok h g = subst (λ (v : Meaning). SoundKeys n v ws) (changed o m (with_held m held) e) (make-keys n (with_held m held) ws ok h g)

-- the same set in other words
pub keys-as : (n : ℕ) (m : Meaning) (ws vs : List ℕ) → vs ≡ ws → SoundKeys n m ws → SoundKeys n m vs
keys-as n m ws vs e k = subst (SoundKeys n m) (sym e) k

given-add : (n : ℕ) (xs : List ℕ) → ((s : ℕ) → holds s xs ≡ true → s < n) → (s : ℕ) → holds s (adds n xs) ≡ true → s < n + 1
given-add n xs g s h = let e = has-insert (λ x. x) s n xs in let k = g s in grind (arith, nat_tests)

holds-drop : (t s : ℕ) (xs : List ℕ) → holds t (drops s xs) ≡ true → holds t xs ≡ true
holds-drop t s xs h = elim (cases_Bool (holds t xs)) [ inl e ↦ e | inr e ↦ absurd (both_ways (holds t (drops s xs)) (has-remove (λ x. x) t s xs e) h) ]

module _ (n : ℕ) (m : Meaning) (words : List ℕ) (k : SoundKeys n m words) where
  -- the next serial is not held
  pub next-new : holds n m.held ≡ false
  next-new = elim (cases_Bool (holds n m.held)) [ inl t ↦ (let l = k.given n t in absurd (let b : ⊥ = omega arith in b)) | inr f ↦ f ]

  -- a word that is not 0 is held
  pub word_held : (i s : ℕ) → i < length words → get_or words i 0 ≡ s → (s ≡ 0 → ⊥) → holds s m.held ≡ true
  word_held i s l g z =
      let h : holds s words ≡ true = ap (λ t. holds t words) (sym g) ∙ holds_at words i l in
      let c = holds-collect s words in
      let t = ne_eqb s 0 z in
      ap (holds s) k.held ∙ (let r : holds s (collect words) ≡ true = grind (arith, nat_tests) in r)

  module _ (positive : 0 < n) where
    nonzero : n ≡ 0 → ⊥
    nonzero e = omega arith

    -- Put of the next serial, which is one word more
    module _ (ws : List ℕ) (more : collect ws ≡ adds n (collect words)) (room : length m.held < m.capacity) where
      pub put-kept : (put_refusal m n ≡ None) × SoundKeys (n + 1) (put_after m n) ws
      put-kept =
          let done = put-accepted m n nonzero next-new room in
          (done, asked (put_refusal m n) m (n + 1) (adds n m.held) ws done (put-sound m k.meaning n done) (ap (adds n) k.held ∙ sym more) (given-add n m.held k.given))

    -- Swap of a word for the next serial
    module _ (i s : ℕ) (l : i < length words) (g : get_or words i 0 ≡ s) (z : s ≡ 0 → ⊥) where
      pub swap-kept : (swap_refusal m s n ≡ None) × SoundKeys (n + 1) (swap_after m s n) (set words i n)
      swap-kept =
          let done = swap-accepted m s n (word_held i s l g z) nonzero next-new in (
            done,
            asked (swap_refusal m s n) m (n + 1) (adds n (drops s m.held)) (set words i n) done (swap-sound m k.meaning s n done)
                (ap (λ v. adds n (drops s v)) k.held ∙ sym (collect-swap words i s l g z n nonzero))
                (given-add n (drops s m.held) (λ t h. k.given t (holds-drop t s m.held h))),
          )

  -- Drop of a serial, which is one word fewer
  module _ (ws : List ℕ) (s : ℕ) (fewer : collect words ≡ adds s (collect ws)) where
    was-held : m.held ≡ adds s (collect ws)
    was-held = k.held ∙ fewer

    pub drop-kept : (drop_refusal m s ≡ None) × SoundKeys n (drop_after m s) ws
    drop-kept =
        let done = drop-accepted m s (ap (holds s) was-held ∙ has-insert (λ x. x) s s (collect ws) ∙ grind (arith, nat_tests)) in (
          done,
          asked (drop_refusal m s) m n (drops s m.held) ws done (drop-sound m k.meaning s done)
              (ap (drops s) was-held ∙ remove-insert (λ x. x) s (collect ws))
              (λ t h. k.given t (holds-drop t s m.held h)),
        )

-- ---- one word is written
module _ (words : List ℕ) (i : ℕ) (l : i < length words) where
  pub filled : (s : ℕ) → get_or words i 0 ≡ 0 → (s ≡ 0 → ⊥) → collect (set words i s) ≡ adds s (collect words)
  filled s g z = collect-set words i s l g z

  pub cleared : (s : ℕ) → get_or words i 0 ≡ s → (s ≡ 0 → ⊥) → collect words ≡ adds s (collect (set words i 0))
  cleared s g z =
      ap collect (sym (set-set words i 0 s ∙ ap (set words i) (sym g) ∙ set-get_or words i 0))
      ∙ collect-set (set words i 0) i s (simp length-set l) (get_or-set_same words i 0 0 l) z
