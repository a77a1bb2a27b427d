-- One point more that an observer is shown.
use Rattle.std.proofs.Common.{◌≡◌, ℕ, ◌+◌, ◌<◌, List, [], ◌∷◌, ◌++◌, length, set, take, sym, ap, subst, ◌∙◌}
use Rattle.std.proofs.Math.Seq.{take-length}
use Rattle.std.proofs.lemmas.List.{take_more_set, append_assoc}
use Rattle.rules.specs.Drive.{Drive}
use Rattle.runs.specs.declared.step.Step.{Step}
use Rattle.runs.specs.Steps.{calls_of, after_all}
use Rattle.runs.specs.Watching.{WatchedFrom, Watched}

module _ {O : Type 0} (saw : O → Drive → List Step → O → Type 0) (start : Drive) where
  shown-one : (made steps : List Step) (step : Step) (o p q : O) → WatchedFrom saw start made steps o p
      → saw p (after_all start (calls_of (made ++ (steps ++ step ∷ [])))) (made ++ (steps ++ step ∷ [])) q → WatchedFrom saw start made (steps ++ step ∷ []) o q
  shown-one made [] step o p q before now = (p, (before, now))
  shown-one made (s ∷ steps) step o p q (r, (first, rest)) now =
      (r, (first, shown-one (made ++ s ∷ []) steps step r p q rest (subst (λ (m : List Step). saw p (after_all start (calls_of m)) m q) (sym (append_assoc made (s ∷ []) (steps ++ step ∷ []))) now)))

  pub shown-more : (steps : List Step) (i : ℕ) (step : Step) (d : Drive) (o p q : O) → i < length steps
      → Watched saw start (take i steps) o p → d ≡ after_all start (calls_of (take (i + 1) (set steps i step)))
      → saw p d (take (i + 1) (set steps i step)) q → Watched saw start (take (i + 1) (set steps i step)) o q
  shown-more steps i step d o p q lt before left now =
      let more : take (i + 1) (set steps i step) ≡ take i steps ++ step ∷ [] = take_more_set steps i step lt in
      let at : saw p (after_all start (calls_of (take (i + 1) (set steps i step)))) (take (i + 1) (set steps i step)) q = subst (λ (e : Drive). saw p e (take (i + 1) (set steps i step)) q) left now in
      let there : saw p (after_all start (calls_of (take i steps ++ step ∷ []))) (take i steps ++ step ∷ []) q = subst (λ (m : List Step). saw p (after_all start (calls_of m)) m q) more at in
      subst (λ (m : List Step). Watched saw start m o q) (sym more) (shown-one [] (take i steps) step o p q before there)

  pub shown-all : (steps : List Step) (i : ℕ) (o q : O) → i ≡ length steps → Watched saw start (take i steps) o q → Watched saw start steps o q
  shown-all steps i o q at shown = subst (λ (m : List Step). Watched saw start m o q) (ap (λ n. take n steps) at ∙ take-length steps) shown
