-- How long a session waits at most (this profile's own). Times are in milliseconds. `time` is that
-- of the clock of the peers' time limits.
use Rattle.std.specs.Prelude.{◌≡◌, ◌⊎◌, ℕ, ◌-◌, ◌&&◌, ◌||◌, ◌++◌, Bool, true, false, if◌then◌else◌, is_none, List, [], ◌∷◌, fold, min, nat_le, not, Option, Some, None}
use Rattle.std.specs.List.{list_any}
use Rattle.std.specs.Option.{option_map, option_map_or}
use Rattle.device_io.specs.declared.controller.Controller.{Controller}
use Rattle.device_io.specs.Controller.{due_of, is_read, is_served, retry_of}
use Rattle.device_session.specs.declared.acceptance.Acceptance.{Acceptance}
use Rattle.device_session.specs.declared.peer_clock.TheConstants.{LONGEST_WAIT}
use Rattle.device_session.specs.Seats.{Seats, acts_now, due_of_all, is_full_in, is_there}
use Rattle.device_session.specs.Strangers.{sooner_of}

-- The first of some times, if there are any.
abbrev pub first_of : List (Option ℕ) → Option ℕ
first_of times = fold sooner_of None times

-- A session that acts does not wait. Another one waits until the deadline of the host, or until the
-- first time limit of a peer ends, but for that at most `LONGEST_WAIT` at once.
abbrev pub timeout_of : Bool → List (Option ℕ) → ℕ → Option ℕ → ℕ → Option ℕ
timeout_of acts limits time deadline now =
    if acts then Some 0
    else sooner_of (option_map (λ due. due - now) deadline)
    (option_map (λ due. min (due - time) LONGEST_WAIT) (first_of limits))

abbrev pub is_over : ℕ → Option ℕ → Bool
is_over time limit = option_map_or (λ due. nat_le due time) limit false

-- A session that does not wait has something to do: at once, or since a time that is over.
abbrev pub WakesForWork : Type 0
WakesForWork =
    (acts : Bool) (limits : List (Option ℕ)) (time : ℕ) (deadline : Option ℕ) (now : ℕ)
    → timeout_of acts limits time deadline now ≡ Some 0
    → (acts ≡ true) ⊎ (is_over now deadline ≡ true) ⊎ (list_any (is_over time) limits ≡ true)

abbrev pub is_at_most : ℕ → Option ℕ → Bool
is_at_most most wait = option_map_or (λ wait. nat_le wait most) wait false

-- It waits no longer than until its deadline.
abbrev pub KeepsDeadline : Type 0
KeepsDeadline =
    (acts : Bool) (limits : List (Option ℕ)) (time deadline now : ℕ)
    → is_at_most (deadline - now) (timeout_of acts limits time (Some deadline) now) ≡ true

-- It waits no longer than until any of the time limits ends.
abbrev pub KeepsLimits : Type 0
KeepsLimits =
    (acts : Bool) (before : List (Option ℕ)) (limit : ℕ) (after : List (Option ℕ)) (time : ℕ)
    (deadline : Option ℕ) (now : ℕ)
    → is_at_most (limit - time)
    (timeout_of acts (before ++ Some limit ∷ after) time deadline now) ≡ true

-- The controller can be read, and is: not too much waits for the application.
abbrev pub reads_controller : ℕ → Controller → Seats → Bool
reads_controller time controller seats =
    not (is_full_in seats) && is_read time controller

-- A controller is served without the application that it waits for.
abbrev pub lacks_application : Bool → Controller → Seats → Bool
lacks_application waits controller seats =
    is_served controller && (waits && not (is_there seats))

-- The application or its visitor can be served. None is accepted until its delay is over.
abbrev pub application_acts : Acceptance → Seats → Bool
application_acts acceptance seats = acts_now (is_none acceptance.retry) seats

-- There is something to do at once.
abbrev pub session_acts : Bool → ℕ → Controller → Acceptance → Seats → Bool
session_acts waits time controller acceptance seats =
    reads_controller time controller seats || application_acts acceptance seats
    || lacks_application waits controller seats

-- The time limits of the peers, and the next attempts to reach them. `strangers` is the first of
-- the limits of clients without a key.
abbrev pub limits_of : Controller → Acceptance → Seats → Option ℕ → List (Option ℕ)
limits_of controller acceptance seats strangers =
    due_of controller ∷ retry_of controller ∷ acceptance.retry ∷ due_of_all seats
    ∷ strangers ∷ []
