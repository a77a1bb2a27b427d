-- A list of calls in parts, whatever the states, the calls and the answers are.
use Rattle.std.proofs.Common.{◌≡◌, ℕ, zero, suc, ◌≤◌, List, [], ◌∷◌, ◌++◌, length, get_or, take, refl, ap, arith}
use Rattle.std.specs.List.{fold, scan}
use Rattle.rules.specs.Walk.{points_by}

module _ {S C A : Type 0} (next : S → C → S) (answer : S → C → A) where
  pub scan-append : (s : S) (cs ds : List C) → scan next answer s (cs ++ ds) ≡ scan next answer s cs ++ scan next answer (fold next s cs) ds
  scan-append s [] ds = refl
  scan-append s (c ∷ cs) ds = ap (λ rest. answer s c ∷ rest) (scan-append (next s c) cs ds)

  pub length-scan : (s : S) (cs : List C) → length (scan next answer s cs) ≡ length cs
  length-scan s [] = refl
  length-scan s (c ∷ cs) = ap suc (length-scan (next s c) cs)

module _ {S C : Type 0} (next : S → C → S) where
  -- A point is what the calls before it leave.
  pub point-fold : (s : S) (cs : List C) (e : S) (k : ℕ) → k ≤ length cs → get_or (points_by next s cs) k e ≡ fold next s (take k cs)
  point-fold s [] e zero le = refl
  point-fold s [] e (suc k) le = absurd (omega arith)
  point-fold s (c ∷ cs) e zero le = refl
  point-fold s (c ∷ cs) e (suc k) le = point-fold (next s c) cs e k (omega arith)
