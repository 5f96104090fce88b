-- The order of the lines of the application and of its visitor (this profile's own). Times are in
-- milliseconds.
use Rattle.std.specs.Prelude.{◌≡◌, ◌≢◌, ℕ, ◌+◌, ◌-◌, ◌<◌, ◌≤◌, ◌==◌, ◌&&◌, ◌++◌, Bool, true, if◌then◌else◌, List, [], ◌∷◌, All, fold, length, nat_lt, not}
use Rattle.device_session.specs.declared.askers.Asker.{Asker}
use Rattle.device_session.specs.declared.askers.Asker.TheVariants.{Application, Visitor}
use Rattle.device_session.specs.declared.askers.Askers.{Askers}
use Rattle.device_session.specs.declared.askers.TheConstants.{HEARING_TIME, MOST_WAITS}

abbrev pub at_first : Askers
at_first = record { asker = Application; waits = 0; since = 0 }

-- A turn in which a line may be taken: a visitor has sent one, the application is busy, the time.
pub record Choice : Type 0 where
  pub visited : Bool
  pub busy : Bool
  pub now : ℕ

-- The time since which a visitor waits. A wait begins with the first turn that it waits.
abbrev pub waits_since : Askers → ℕ → ℕ
waits_since askers now = if askers.waits == 0 then now else askers.since

-- An application that is busy goes first, unless the visitor has waited for too many turns, or for
-- too long.
abbrev pub goes_first : Askers → Choice → Bool
goes_first askers choice =
    choice.busy && nat_lt askers.waits MOST_WAITS
    && nat_lt (choice.now - waits_since askers choice.now) HEARING_TIME

abbrev pub after_choice : Askers → Choice → Askers
after_choice askers choice = record {
  asker = if choice.visited && not (goes_first askers choice) then Visitor else Application;
  waits = if choice.visited && goes_first askers choice then askers.waits + 1 else 0;
  since = waits_since askers choice.now;
}

abbrev pub askers_after : List Choice → Askers
askers_after choices = fold after_choice at_first choices

-- The senders of the lines of some turns.
unfoldable pub askers_of : Askers → List Choice → List Asker
askers_of askers [] = []
askers_of askers (choice ∷ choices) =
    (after_choice askers choice).asker ∷ askers_of (after_choice askers choice) choices

-- No turn is at an earlier time than the one before it.
unfoldable pub HasNoEarlierTurn : ℕ → List Choice → Type 0
HasNoEarlierTurn last [] = Unit {0}
HasNoEarlierTurn last (choice ∷ choices) =
    (last ≤ choice.now) × HasNoEarlierTurn choice.now choices

-- The turns from the first on are few, and less than `HEARING_TIME` later.
pub record IsShortWait (first : Choice) (later : List Choice) : Type 0 where
  pub turns : length (first ∷ later) ≤ MOST_WAITS
  pub time : All (λ (choice : Choice). choice.now < first.now + HEARING_TIME) later

-- After any turns before: a visitor that asks in each turn, and goes first in none, has waited for
-- a short time. It goes first at the latest in the first turn `HEARING_TIME` after the first one,
-- or after `MOST_WAITS` turns if the clock does not go on.
abbrev pub IsHeardInTime : Type 0
IsHeardInTime =
    (before : List Choice) (first : Choice) (later : List Choice)
    → HasNoEarlierTurn 0 (before ++ first ∷ later)
    → All (λ (choice : Choice). choice.visited ≡ true) (first ∷ later)
    → All (λ asker. asker ≢ Visitor) (askers_of (askers_after before) (first ∷ later))
    → IsShortWait first later
