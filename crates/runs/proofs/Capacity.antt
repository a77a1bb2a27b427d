-- No call changes how many keys there is room for.
use Rattle.std.proofs.Common.{◌≡◌, List, [], ◌∷◌, refl, ◌∙◌}
use Rattle.rules.specs.declared.call.Call.{Call}
use Rattle.rules.specs.Calls.{after}
use Rattle.rules.specs.Drive.{Drive}
use Rattle.rules.proofs.Keys.{put-capacity, swap-capacity, drop-capacity}
use Rattle.rules.proofs.Steps.{after-of}
use Rattle.runs.specs.Steps.{after_all}

pub as-roomy : (d : Drive) (calls : List Call) → (after_all d calls).vault.capacity ≡ d.vault.capacity
as-roomy d [] = refl
as-roomy d (call ∷ calls) =
    as-roomy (after d call) calls
    ∙ after-of (λ _ m. m.capacity ≡ d.vault.capacity) (λ n m e. put-capacity m n ∙ e) (λ n old m e. swap-capacity m old n ∙ e) (λ n s m e. drop-capacity m s ∙ e) d call refl
