-- The controller, and the way to the next one (this profile's own). Times are in milliseconds.
use Rattle.std.specs.Prelude.{◌≡◌, ℕ, Bool, true, false, ◌||◌, if◌then◌else◌, is_none, is_some, unwrap_or, Option, Some, None}
use Rattle.std.specs.Option.{option_and_then, option_map_or}
use Rattle.octet_io.specs.Number.{Octets}
use Rattle.device_io.specs.declared.connector.TheConstants.{ACCEPT_TIME, CONNECT_TIME, RETRY_TIME}
use Rattle.device_io.specs.declared.side.Side.{Side}
use Rattle.device_io.specs.declared.side.Side.TheVariants.{Nobody, Next}
use Rattle.device_io.specs.declared.side.Side.TheVariants as side
use Rattle.device_io.specs.declared.missed.Missed.{Missed}
use Rattle.device_io.specs.declared.missed.Missed.TheVariants.{Silent, Unwatched}
use Rattle.device_io.specs.declared.served.Fault.{Fault}
use Rattle.device_io.specs.Connector.{Attempt}
use Rattle.device_io.specs.Connector.Attempt.{Begins, FindsNobody, Loses, Misses, Reaches}
use Rattle.device_io.specs.ControllerValue.{Controller}
use Rattle.device_io.specs.Connecting.{Connecting}
use Rattle.device_io.specs.Patience.{wait_end}
use Rattle.device_io.specs.Served.{Sending, Served, after_announcement, after_arrival, after_flush, after_initialisation, after_read, after_write, begun_at, fault_in, is_late, is_new, is_over, is_taken, judged, needs_a_read, served_at, served_due}

-- No controller was tried yet.
abbrev pub at_first : Bool → ℕ → Controller
at_first tried patience = record {
  patience = patience;
  is_tried = tried;
  side = Nobody None;
  next = if tried then Some 0 else None;
  is_held = false;
}

abbrev pub served_by : Side → Option Served
served_by (side.Served served) = Some served
served_by other = None

abbrev pub is_served : Controller → Bool
is_served controller = is_some (served_by controller.side)

abbrev pub is_read : ℕ → Controller → Bool
is_read now controller =
    option_map_or (needs_a_read controller.patience now) (served_by controller.side) false

abbrev pub is_served_initialised : Controller → Bool
is_served_initialised controller =
    option_map_or (λ (served : Served). is_none (begun_at served.progress))
    (served_by controller.side) false

abbrev pub due_of : Controller → Option ℕ
due_of controller =
    option_and_then (served_due controller.patience) (served_by controller.side)

-- The fault for which a controller can no longer be served.
abbrev pub fault_of : Controller → Option Fault
fault_of controller =
    option_and_then (λ (served : Served). fault_in served.input) (served_by controller.side)

abbrev pub is_over_at : ℕ → Controller → Bool
is_over_at now controller =
    option_map_or (is_over controller.patience now) (served_by controller.side) false

-- The time at which a controller is tried.
abbrev pub retry_of : Controller → Option ℕ
retry_of controller = if is_served controller || controller.is_held then None else controller.next

abbrev pub on_served : (Served → Served) → Side → Side
on_served change (side.Served served) = side.Served (change served)
on_served change other = other

abbrev pub with_side : Side → Controller → Controller
with_side side controller = record controller { side = side }

abbrev pub serving : (Served → Served) → Controller → Controller
serving change controller = with_side (on_served change controller.side) controller

-- A served controller is not announced yet.
abbrev pub is_new_in : Controller → Bool
is_new_in controller =
    option_map_or (λ (served : Served). is_new served.progress) (served_by controller.side) false

-- A served controller is not initialised yet.
abbrev pub is_begun : Controller → Bool
is_begun controller =
    option_map_or (λ (served : Served). is_some (begun_at served.progress))
    (served_by controller.side) false

abbrev pub after_announcing : Controller → Controller
after_announcing controller = serving after_announcement controller

abbrev pub after_initialising : Controller → Controller
after_initialising controller = serving after_initialisation controller

-- The connection that is being made is answered.
abbrev pub answered : Side → Side
answered (Next connecting missed) = Next (record { is_answered = true }) missed
answered other = other

abbrev pub readied : Bool → Side → Side
readied ends side = answered (on_served (after_arrival ends) side)

abbrev pub after_ready : Bool → Controller → Controller
after_ready ends controller = with_side (readied ends controller.side) controller

abbrev pub lost : Side → Side
lost (side.Served served) = Nobody None
lost other = other

abbrev pub after_loss : Controller → Controller
after_loss controller = with_side (lost controller.side) controller

abbrev pub after_judging : ℕ → Controller → Controller
after_judging now controller = serving (judged controller.patience now) controller

-- A served controller is read.
abbrev pub after_reading : ℕ → Option ℕ → Controller → Controller
after_reading room read controller = serving (after_read room read) controller

abbrev pub after_writing : Octets → ℕ → Sending → Controller → Controller
after_writing octets now sending controller = serving (after_write octets now sending) controller

-- A controller is served, and all of the octets are accepted or wait.
abbrev pub is_taken_by : Octets → Sending → Controller → Bool
is_taken_by octets sending controller =
    option_map_or (is_taken octets sending) (served_by controller.side) true

abbrev pub after_flushing : ℕ → Sending → Controller → Controller
after_flushing now sending controller =
    with_side (answered (on_served (after_flush now sending) controller.side)) controller

-- Nothing is being made any more. The log still has the reason why nobody is served.
abbrev pub abandoned : Side → Side
abandoned (Next connecting missed) = Nobody missed
abandoned other = other

abbrev pub connecting_in : Side → Option Connecting
connecting_in (Next connecting missed) = Some connecting
connecting_in other = None

abbrev pub is_answered_in : Side → Bool
is_answered_in side =
    option_map_or (λ (connecting : Connecting). connecting.is_answered) (connecting_in side) false

-- The reason that the log has.
abbrev pub missed_in : Side → Option Missed
missed_in (Nobody missed) = missed
missed_in (Next connecting missed) = missed
missed_in (side.Served served) = None

-- A controller that connects is tried at once, unless the last one could not be accepted. Nothing
-- is made any more while controllers are held off; one that connects then is tried later.
abbrev pub after_notice : Bool → Bool → ℕ → Controller → Controller
after_notice connects held now controller = record controller {
  side = if held then abandoned controller.side else controller.side;
  next = if connects then Some (unwrap_or controller.next now) else controller.next;
  is_held = held;
}

-- An answered connection is made, or has failed for a reason.
abbrev pub after_entry : ℕ → Option Missed → Side
after_entry now None = side.Served (served_at now)
after_entry now (Some missed) = Nobody (Some missed)

abbrev pub after_finish : ℕ → Option Missed → Controller → Controller
after_finish now failure controller =
    if is_answered_in controller.side
    then record controller {
      side = after_entry now failure;
      next = Some (wait_end RETRY_TIME now);
    }
    else controller

-- The next attempt, without an event, after one that has reached a controller or found nobody.
abbrev pub pause_after : Bool → ℕ → Option ℕ
pause_after tried now = if tried then Some (wait_end RETRY_TIME now) else None

abbrev pub next_after : Bool → Attempt → ℕ → Option ℕ
next_after tried Begins now = Some (wait_end CONNECT_TIME now)
next_after tried (Misses missed) now =
    Some (wait_end (if tried then RETRY_TIME else ACCEPT_TIME) now)
next_after tried attempt now = pause_after tried now

abbrev pub side_after : Attempt → ℕ → Side → Side
side_after Reaches now before = side.Served (served_at now)
side_after Begins now before = Next (record { is_answered = false }) (missed_in before)
side_after FindsNobody now before = before
side_after (Misses missed) now before = Nobody (Some missed)
side_after Loses now before = Nobody (Some Unwatched)

-- A connection that was not answered in time is made no more.
abbrev pub unanswered : Side → Side
unanswered (Next connecting missed) = Nobody (Some Silent)
unanswered other = other

abbrev pub after_attempt : Attempt → ℕ → Controller → Controller
after_attempt attempt now controller = record controller {
  side = side_after attempt now controller.side;
  next = next_after controller.is_tried attempt now;
}

abbrev pub after_try : Attempt → ℕ → Controller → Controller
after_try attempt now controller =
    if is_late (retry_of controller) now
    then after_attempt attempt now (with_side (unanswered controller.side) controller)
    else controller

abbrev pub after_look : Bool → Bool → ℕ → Option Missed → Attempt → Controller → Controller
after_look connects held now failure attempt controller =
    after_try attempt now (after_finish now failure (after_notice connects held now controller))

-- The answers of the system are not known. All else is.
abbrev pub IsWrittenTo : Octets → ℕ → Controller → Controller → Bool → Type 0
IsWrittenTo octets now before after taken =
    (sending : Sending) × (taken ≡ is_taken_by octets sending before)
    × (after ≡ after_writing octets now sending before)

abbrev pub IsFlushedTo : ℕ → Controller → Controller → Type 0
IsFlushedTo now before after =
    (sending : Sending) × (after ≡ after_flushing now sending before)

abbrev pub IsFinished : ℕ → Controller → Controller → Type 0
IsFinished now before after =
    (failure : Option Missed) × (after ≡ after_finish now failure before)

abbrev pub IsTried : ℕ → Controller → Controller → Type 0
IsTried now before after = (attempt : Attempt) × (after ≡ after_try attempt now before)

abbrev pub IsLook : Bool → Bool → ℕ → Controller → Controller → Type 0
IsLook connects held now before after =
    (failure : Option Missed) × (attempt : Attempt)
    × (after ≡ after_look connects held now failure attempt before)
