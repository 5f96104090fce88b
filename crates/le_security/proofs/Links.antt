-- A link's key after any steps.
use Rattle.std.proofs.Common.{◌≡◌, ◌==◌, ◌&&◌, not, if◌then◌else◌, List, [], ◌∷◌, Option, None, refl, ap}
use Rattle.att_policy.specs.declared.standing.KeyFacts.{KeyFacts}
use Rattle.le_security.specs.Link.{Step, Request, Encryption, Refresh, last_asked, key_after, after_steps}

pub asked_after : (steps : List Step) → (after_steps steps).asked ≡ last_asked steps
asked_after [] = refl
asked_after (Request answer ∷ older) = refl
asked_after (Encryption status enabled ∷ older) = asked_after older
asked_after (Refresh status ∷ older) = asked_after older

-- it is the one that the definition has
pub key_of_steps : (steps : List Step) → (after_steps steps).key ≡ key_after steps
key_of_steps [] = refl
key_of_steps (Request answer ∷ older) = key_of_steps older
key_of_steps (Encryption status enabled ∷ older) =
    ap (λ (asked : Option KeyFacts). if (status == 0) && not (enabled == 0) then asked else None) (asked_after older)
key_of_steps (Refresh status ∷ older) = ap (λ (asked : Option KeyFacts). if status == 0 then asked else None) (asked_after older)
