-- Laws of runs, whatever the states, the calls and the answers are. Assumes nothing.
use Rattle.std.proofs.Common.{◌≡◌, ℕ, zero, suc, ◌+◌, ◌<◌, ◌≤◌, Bool, true, false, List, [], ◌∷◌, length, get_or, refl, ap, ◌∙◌, ⊎_elim, add-one, arith}
use Rattle.std.proofs.lemmas.Bool.{cases_Bool, both_ways}
use Rattle.std.specs.List.{scan}
use Rattle.rules.specs.Walk.{points_by}

module _ {S C A : Type 0} (next : S → C → S) (answer : S → C → A) where
  -- The answer to a call is that of the state it meets.
  pub answer-at : (s : S) (cs : List C) (e : S) (d : C) (a : A) (k : ℕ) → k < length cs → get_or (scan next answer s cs) k a ≡ answer (get_or (points_by next s cs) k e) (get_or cs k d)
  answer-at s [] e d a k lt = absurd (omega arith)
  answer-at s (c ∷ cs) e d a zero lt = refl
  answer-at s (c ∷ cs) e d a (suc k) lt = answer-at (next s c) cs e d a k (omega arith)

module _ {S C : Type 0} (next : S → C → S) where
  -- What each call keeps holds at every point.
  pub always : (I : S → Type 0) → ((s : S) (c : C) → I s → I (next s c)) → (s : S) (cs : List C) (e : S) (k : ℕ) → k ≤ length cs → I s → I (get_or (points_by next s cs) k e)
  always I keep s [] e zero le h = h
  always I keep s [] e (suc k) le h = absurd (omega arith)
  always I keep s (c ∷ cs) e zero le h = h
  always I keep s (c ∷ cs) e (suc k) le h = always I keep (next s c) cs e k (omega arith) (keep s c h)

  first-point : (s : S) (cs : List C) (e : S) → get_or (points_by next s cs) 0 e ≡ s
  first-point s [] e = refl
  first-point s (c ∷ cs) e = refl

  -- What each call keeps holds at every later point.
  pub always-from : (I : S → Type 0) → ((s : S) (c : C) → I s → I (next s c)) → (s : S) (cs : List C) (e : S) (j k : ℕ) → j ≤ k → k ≤ length cs → I (get_or (points_by next s cs) j e) → I (get_or (points_by next s cs) k e)
  always-from I keep s [] e zero zero jk le h = h
  always-from I keep s [] e zero (suc k) jk le h = absurd (omega arith)
  always-from I keep s [] e (suc j) k jk le h = absurd (omega arith)
  always-from I keep s (c ∷ cs) e zero k jk le h = always I keep s (c ∷ cs) e k le h
  always-from I keep s (c ∷ cs) e (suc j) zero jk le h = absurd (omega arith)
  always-from I keep s (c ∷ cs) e (suc j) (suc k) jk le h = always-from I keep (next s c) cs e j k (omega arith) (omega arith) h

  -- The state after a call.
  pub point-next : (s : S) (cs : List C) (e : S) (d : C) (k : ℕ) → k < length cs → get_or (points_by next s cs) (k + 1) e ≡ next (get_or (points_by next s cs) k e) (get_or cs k d)
  point-next s cs e d k lt = ap (λ n. get_or (points_by next s cs) n e) (add-one k) ∙ go s cs k lt
    where
      go : (s : S) (cs : List C) (k : ℕ) → k < length cs → get_or (points_by next s cs) (suc k) e ≡ next (get_or (points_by next s cs) k e) (get_or cs k d)
      go s [] k lt = absurd (omega arith)
      go s (c ∷ cs) zero lt = first-point (next s c) cs e
      go s (c ∷ cs) (suc k) lt = go (next s c) cs k (omega arith)

  -- What stops between two points was stopped by a call between them; each call keeps an invariant.
  pub stopped-kept :
      (I : S → Type 0) → ((s : S) (c : C) → I s → I (next s c))
      → (P : S → Bool) (R : S → C → Type 0)
      → ((s : S) (c : C) → I s → P s ≡ true → P (next s c) ≡ false → R s c)
      → (s : S) (cs : List C) (e : S) (d : C) (i j : ℕ)
      → I s
      → i ≤ j
      → j ≤ length cs
      → P (get_or (points_by next s cs) i e) ≡ true
      → P (get_or (points_by next s cs) j e) ≡ false
      → (k : ℕ) × (i ≤ k) × (k < j) × R (get_or (points_by next s cs) k e) (get_or cs k d)
  stopped-kept I keep P R one s [] e d zero zero h ij jl p q = absurd (both_ways (P s) q p)
  stopped-kept I keep P R one s [] e d zero (suc j) h ij jl p q = absurd (omega arith)
  stopped-kept I keep P R one s [] e d (suc i) zero h ij jl p q = absurd (omega arith)
  stopped-kept I keep P R one s [] e d (suc i) (suc j) h ij jl p q = absurd (omega arith)
  stopped-kept I keep P R one s (c ∷ cs) e d zero zero h ij jl p q = absurd (both_ways (P s) q p)
  stopped-kept I keep P R one s (c ∷ cs) e d zero (suc j) h ij jl p q =
      ⊎_elim
      (λ on. let r = stopped-kept I keep P R one (next s c) cs e d zero j (keep s c h) (omega arith) (omega arith) (ap P (first-point (next s c) cs e) ∙ on) q in (suc r.0, omega arith, omega arith, r.3))
      (λ off. (zero, omega arith, omega arith, one s c h p off))
      (cases_Bool (P (next s c)))
  stopped-kept I keep P R one s (c ∷ cs) e d (suc i) zero h ij jl p q = absurd (omega arith)
  stopped-kept I keep P R one s (c ∷ cs) e d (suc i) (suc j) h ij jl p q =
      let r = stopped-kept I keep P R one (next s c) cs e d i j (keep s c h) (omega arith) (omega arith) p q in
      (suc r.0, omega arith, omega arith, r.3)
