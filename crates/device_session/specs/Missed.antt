-- The values that clients wrote without the application's knowledge (this profile's own).
use Rattle.std.specs.Prelude.{◌≡◌, ℕ, Bool, ◌==◌, ◌++◌, if◌then◌else◌, List, [], ◌∷◌, drop, fold, Option, Some, None}
use Rattle.std.specs.List.{list_any}

-- No application was notified of the values at the first handles. The current one was notified of
-- those at the others, but may not have read it.
pub record Missed : Type 0 where
  pub handles : List ℕ
  pub told : List ℕ

abbrev pub nothing_missed : Missed
nothing_missed = record { handles = []; told = [] }

-- Handles with one more, each once, in the order in which they were noted first.
abbrev pub with_handle : List ℕ → ℕ → List ℕ
with_handle handles handle =
    if list_any (λ one. one == handle) handles then handles else handles ++ handle ∷ []

abbrev pub with_handles : List ℕ → List ℕ → List ℕ
with_handles handles more = fold with_handle handles more

-- The first ones of some handles are noted.
abbrev pub IsNotedUpTo : List ℕ → List ℕ → List ℕ → Type 0
IsNotedUpTo more before after =
    (noted rest : List ℕ) × (noted ++ rest ≡ more) × (after ≡ with_handles before noted)

abbrev pub with_missed : Missed → ℕ → Missed
with_missed missed handle =
    record missed { handles = with_handle missed.handles handle }

abbrev pub with_told : Missed → ℕ → Missed
with_told missed handle = record missed { told = with_handle missed.told handle }

-- An application that has not read everything has missed the values of which it was notified, too.
abbrev pub after_last : Bool → Missed → Missed
after_last all_read missed = record {
  handles =
      if all_read then missed.handles else with_handles missed.handles missed.told;
  told = [];
}

abbrev pub first_of : List ℕ → Option ℕ
first_of [] = None
first_of (handle ∷ handles) = Some handle

abbrev pub rest_of : List ℕ → List ℕ
rest_of handles = drop 1 handles

abbrev pub with_first : List ℕ → List ℕ → List ℕ
with_first told [] = told
with_first told (handle ∷ handles) = with_handle told handle

-- The application is notified of the value that was missed first.
abbrev pub after_next : Missed → Missed
after_next missed = record {
  handles = rest_of missed.handles;
  told = with_first missed.told missed.handles;
}

-- It is notified of none while no line fits.
abbrev pub next_if : Bool → Missed → Option ℕ
next_if room missed = if room then first_of missed.handles else None

abbrev pub after_next_if : Bool → Missed → Missed
after_next_if room missed = if room then after_next missed else missed
