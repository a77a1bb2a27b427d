-- One step more of a run.
use Rattle.std.proofs.Common.{◌≡◌, ℕ, ◌+◌, ◌<◌, List, [], ◌∷◌, ◌++◌, length, set, take, sym, ap, subst, ◌∙◌}
use Rattle.std.proofs.lemmas.List.{take_more_set, map-append}
use Rattle.std.proofs.lemmas.List.Sums.{fold-append}
use Rattle.rules.specs.Calls.{after, answer}
use Rattle.rules.specs.Drive.{Drive}
use Rattle.rules.specs.Laws.{answers}
use Rattle.runs.specs.declared.step.Step.{Step}
use Rattle.runs.specs.Steps.{calls_of, answers_of, after_all, AreMade}
use Rattle.runs.proofs.Prefixes.{scan-append}

made-one : (start d d' : Drive) (made : List Step) (step : Step) → AreMade start made d → step.answer ≡ answer d step.call → d' ≡ after d step.call → AreMade start (made ++ step ∷ []) d'
made-one start d d' made step m told left =
    let calls : calls_of (made ++ step ∷ []) ≡ calls_of made ++ step.call ∷ [] = map-append (λ (s : Step). s.call) made (step ∷ []) in
    let said : answers_of (made ++ step ∷ []) ≡ answers_of made ++ step.answer ∷ [] = map-append (λ (s : Step). s.answer) made (step ∷ []) in
    let split : answers start (calls_of made ++ step.call ∷ []) ≡ answers start (calls_of made) ++ answer (after_all start (calls_of made)) step.call ∷ [] = scan-append after answer start (calls_of made) (step.call ∷ []) in
    let folded : after_all start (calls_of made ++ step.call ∷ []) ≡ after (after_all start (calls_of made)) step.call = fold-append after start (calls_of made) (step.call ∷ []) in
    let told' : step.answer ≡ answer (after_all start (calls_of made)) step.call = told ∙ ap (λ e. answer e step.call) m.leave in
    record {
      answered = said ∙ ap (λ xs. xs ++ step.answer ∷ []) m.answered ∙ ap (λ a. answers start (calls_of made) ++ a ∷ []) told' ∙ sym split ∙ ap (answers start) (sym calls);
      leave = left ∙ ap (λ e. after e step.call) m.leave ∙ sym folded ∙ ap (after_all start) (sym calls);
    }

pub made-more : (start d d' : Drive) (steps : List Step) (i : ℕ) (step : Step) → i < length steps
    → AreMade start (take i steps) d → step.answer ≡ answer d step.call → d' ≡ after d step.call → AreMade start (take (i + 1) (set steps i step)) d'
made-more start d d' steps i step lt m told left =
    subst (λ (made : List Step). AreMade start made d') (sym (take_more_set steps i step lt)) (made-one start d d' (take i steps) step m told left)
