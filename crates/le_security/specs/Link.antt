-- The key of a link by the events of its controller (Core 5.0, Vol 3 Part C, 10.2, and this
-- profile's own).
use Rattle.std.specs.Prelude.{ℕ, Bool, ◌==◌, ◌&&◌, not, is_some, if◌then◌else◌, List, [], ◌∷◌, Option, None}
use Rattle.att_policy.specs.declared.standing.KeyFacts.{KeyFacts}
use Rattle.le_security.specs.declared.link.LinkChange.{LinkChange}
use Rattle.le_security.specs.declared.link.LinkChange.TheVariants.{Same, Raised, Lost}

-- The answer to the last Long Term Key request, and the link's key.
pub record Linking : Type 0 where
  pub asked : Option KeyFacts
  pub key : Option KeyFacts

abbrev pub no_key : Linking
no_key = record { asked = None; key = None }

abbrev pub with_asked : Linking → Option KeyFacts → Linking
with_asked old answer = record old { asked = answer }

-- An event sets the key only if the last request was answered. (P-KEY-3, P-KEY-4)
abbrev pub with_key : Linking → Bool → Linking
with_key old encrypted = record old { key = if encrypted then old.asked else None }

abbrev pub after_encryption : Linking → ℕ → ℕ → Linking
after_encryption old status enabled = with_key old ((status == 0) && not (enabled == 0))

abbrev pub after_refresh : Linking → ℕ → Linking
after_refresh old status = with_key old (status == 0)

-- (P-KEY-5)
abbrev pub link_change_of : Linking → Linking → LinkChange
link_change_of old new = if is_some new.key then Raised else if is_some old.key then Lost else Same

pub data Step : Type 0 where
  Request : (answer : Option KeyFacts) → Step
  Encryption : (status enabled : ℕ) → Step
  Refresh : (status : ℕ) → Step

abbrev pub after_step : Linking → Step → Linking
after_step old (Request answer) = with_asked old answer
after_step old (Encryption status enabled) = after_encryption old status enabled
after_step old (Refresh status) = after_refresh old status

-- The answer to the last request; steps are newest first. (P-KEY-2)
abbrev pub last_asked : List Step → Option KeyFacts
last_asked [] = None
last_asked (Request answer ∷ older) = answer
last_asked (Encryption status enabled ∷ older) = last_asked older
last_asked (Refresh status ∷ older) = last_asked older

-- The last encryption event decides; it uses the answer to the request before it.
-- (P-KEY-3, P-KEY-4)
abbrev pub key_after : List Step → Option KeyFacts
key_after [] = None
key_after (Request answer ∷ older) = key_after older
key_after (Encryption status enabled ∷ older) =
    if (status == 0) && not (enabled == 0) then last_asked older else None
key_after (Refresh status ∷ older) = if status == 0 then last_asked older else None

abbrev pub after_steps : List Step → Linking
after_steps [] = no_key
after_steps (step ∷ older) = after_step (after_steps older) step
