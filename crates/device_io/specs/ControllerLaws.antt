-- The laws of the controller, over all that may happen (this profile's own). Times are in
-- milliseconds of the clock of the peers, which does not count the time of the device's own work.
use Rattle.std.specs.Prelude.{◌≡◌, ℕ, ◌==◌, ◌≤◌, ◌&&◌, ◌||◌, Bool, true, false, if◌then◌else◌, List, [], ◌∷◌, fold, is_some, nat_le, not, Option, Some, None}
use Rattle.octet_io.specs.Number.{Octets}
use Rattle.device_io.specs.declared.connector.TheConstants.{CONNECT_TIME, RETRY_TIME}
use Rattle.device_io.specs.declared.missed.Missed.{Missed}
use Rattle.device_io.specs.declared.served.Fault.{Fault}
use Rattle.device_io.specs.declared.served.Fault.TheVariants.{NoMemory, NotWritten, TooMuch}
use Rattle.device_io.specs.Connector.{Attempt}
use Rattle.device_io.specs.Controller.{after_announcing, after_finish, after_flushing, after_initialising, after_judging, after_loss, after_notice, after_reading, after_ready, after_try, after_writing, at_first, fault_of, retry_of, served_by}
use Rattle.device_io.specs.ControllerValue.{Controller}
use Rattle.device_io.specs.Outbound.{is_empty}
use Rattle.device_io.specs.Patience.{wait_end}
use Rattle.device_io.specs.Served.{Sending, Served, after_announcement, after_arrival, after_flush, after_initialisation, after_read, after_write, has_room_for, is_late, judged, lapse_of, served_at, served_due}
use Rattle.device_io.specs.Served.Sending.{Accepts, Fails, Refuses}

-- All that the controller may do, or may happen to it.
pub data Event : Type 0 where
  Readies : (ends : Bool) → Event
  Reads : (room : ℕ) (read : Option ℕ) → Event
  -- A read fails, maybe since the controller is late.
  Judges : (now : ℕ) → Event
  Writes : (octets : Octets) (now : ℕ) (sending : Sending) → Event
  Flushes : (now : ℕ) (sending : Sending) → Event
  Announces : Event
  Initialises : Event
  LosesIt : Event
  -- A look for another one has three parts. First, one may connect, or controllers are held off.
  Notes : (connects held : Bool) (now : ℕ) → Event
  -- Then an answered connection is made, or fails.
  Finishes : (now : ℕ) (failure : Option Missed) → Event
  -- Another one is tried if it is time.
  Tries : (now : ℕ) (attempt : Attempt) → Event

abbrev pub after_event : Controller → Event → Controller
after_event controller (Readies ends) = after_ready ends controller
after_event controller (Reads room read) = after_reading room read controller
after_event controller (Judges now) = after_judging now controller
after_event controller (Writes octets now sending) = after_writing octets now sending controller
after_event controller (Flushes now sending) = after_flushing now sending controller
after_event controller Announces = after_announcing controller
after_event controller Initialises = after_initialising controller
after_event controller LosesIt = after_loss controller
after_event controller (Notes connects held now) = after_notice connects held now controller
after_event controller (Finishes now failure) = after_finish now failure controller
after_event controller (Tries now attempt) = after_try attempt now controller

-- The controller of a device after its start and these events.
abbrev pub controller_after : Bool → ℕ → List Event → Controller
controller_after tried patience events = fold after_event (at_first tried patience) events

-- It became what it is by such events alone.
unfoldable pub IsReached : Controller → Type 0
IsReached controller =
    (events : List Event)
    × (controller ≡ controller_after controller.is_tried controller.patience events)

-- A served controller after an event that does not lose it.
abbrev pub served_after : ℕ → Served → Event → Served
served_after patience served (Readies ends) = after_arrival ends served
served_after patience served (Reads room read) = after_read room read served
served_after patience served (Judges now) = judged patience now served
served_after patience served (Writes octets now sending) = after_write octets now sending served
served_after patience served (Flushes now sending) = after_flush now sending served
served_after patience served Announces = after_announcement served
served_after patience served Initialises = after_initialisation served
served_after patience served event = served

abbrev pub is_loss : Event → Bool
is_loss LosesIt = true
is_loss event = false

-- The same controller is served until it is lost: no second one is while it is there.
abbrev pub ServesOne : Type 0
ServesOne =
    (controller : Controller) (served : Served) (event : Event) → is_loss event ≡ false
    → served_by controller.side ≡ Some served
    → served_by (after_event controller event).side
    ≡ Some (served_after controller.patience served event)

-- The fault that a controller gets by an event: it is late, its octets do not fit, memory for them
-- is refused, or it cannot be written.
abbrev pub fault_by : ℕ → Served → Event → Option Fault
fault_by patience served (Judges now) =
    if is_late (served_due patience served) now then Some (lapse_of served.progress) else None
fault_by patience served (Writes octets now Refuses) = Some NoMemory
fault_by patience served (Writes octets now sending) =
    if has_room_for octets served then None else Some TooMuch
fault_by patience served (Flushes now (Fails count)) = Some NotWritten
fault_by patience served event = None

abbrev pub latest_fault : Option Fault → Option Fault → Option Fault
latest_fault (Some fault) before = Some fault
latest_fault None before = before

-- A controller is given up only for these faults, and never again served as if it had none.
abbrev pub GivesUpForAFault : Type 0
GivesUpForAFault =
    (controller : Controller) (served : Served) (event : Event) → is_loss event ≡ false
    → served_by controller.side ≡ Some served
    → fault_of (after_event controller event)
    ≡ latest_fault (fault_by controller.patience served event) (fault_of controller)

-- A served controller, whether it was initialised since it was reached, and the last time at which
-- it accepted octets or none waited for it, or else the time at which it was reached.
pub record Progressing : Type 0 where
  pub served : Served
  pub is_initialised : Bool
  pub moved : ℕ

abbrev pub accepts : Sending → Bool
accepts (Accepts count) = not (count == 0)
accepts (Fails count) = not (count == 0)
accepts Refuses = false

-- Octets wait for it.
abbrev pub is_waited_for : Served → Bool
is_waited_for served = not (is_empty served.outbound)

abbrev pub moved_by : Served → ℕ → Event → ℕ
moved_by served moved (Writes octets now sending) =
    if not (is_waited_for served) || (has_room_for octets served && accepts sending) then now
    else moved
moved_by served moved (Flushes now sending) =
    if not (is_waited_for served) || accepts sending then now else moved
moved_by served moved event = moved

abbrev pub is_initialisation : Event → Bool
is_initialisation Initialises = true
is_initialisation event = false

abbrev pub with_event : ℕ → Progressing → Event → Progressing
with_event patience progressing event = record {
  served = served_after patience progressing.served event;
  is_initialised = progressing.is_initialised || is_initialisation event;
  moved = moved_by progressing.served progressing.moved event;
}

-- A controller that was reached at a time, after these events that do not lose it.
abbrev pub progress_after : ℕ → ℕ → List Event → Progressing
progress_after patience reached events =
    fold (with_event patience)
    (record { served = served_at reached; is_initialised = false; moved = reached }) events

-- It was not initialised in time, or it has accepted none of the octets that wait in that time.
abbrev pub is_slow : ℕ → ℕ → Progressing → ℕ → Bool
is_slow patience reached progressing now =
    (is_waited_for progressing.served && nat_le (wait_end patience progressing.moved) now)
    || (not progressing.is_initialised && nat_le (wait_end patience reached) now)

-- A controller is late exactly if it makes no progress for the time of the option `--patience`.
abbrev pub SparesProgress : Type 0
SparesProgress =
    (patience reached : ℕ) (events : List Event) (now : ℕ)
    → let progressing : Progressing = progress_after patience reached events in
    is_late (served_due patience progressing.served) now
    ≡ is_slow patience reached progressing now

-- No part of a look is later than this.
unfoldable pub AreUntil : ℕ → List Event → Type 0
AreUntil now [] = Unit {0}
AreUntil now (Notes connects held time ∷ later) = (time ≤ now) × AreUntil now later
AreUntil now (Finishes time failure ∷ later) = (time ≤ now) × AreUntil now later
AreUntil now (Tries time attempt ∷ later) = (time ≤ now) × AreUntil now later
AreUntil now (event ∷ later) = AreUntil now later

abbrev pub IsDueUntil : ℕ → Option ℕ → Type 0
IsDueUntil latest due = (time : ℕ) × (due ≡ Some time) × (time ≤ latest)

-- After a controller is lost, the device tries to reach another one within half a second, unless
-- controllers are held off.
abbrev pub TriesAgain : Type 0
TriesAgain =
    (patience : ℕ) (events : List Event) (now : ℕ) → AreUntil now events
    → let controller : Controller = controller_after true patience events in
    is_some (served_by controller.side) ≡ true → controller.is_held ≡ false
    → IsDueUntil (wait_end RETRY_TIME now) (retry_of (after_loss controller))

-- A device without a controller tries to reach one within three seconds, unless they are held off.
abbrev pub TriesOn : Type 0
TriesOn =
    (patience : ℕ) (events : List Event) (now : ℕ) → AreUntil now events
    → let controller : Controller = controller_after true patience events in
    is_some (served_by controller.side) ≡ false → controller.is_held ≡ false
    → IsDueUntil (wait_end CONNECT_TIME now) (retry_of controller)

-- This event tries to reach a controller.
abbrev pub tries : Controller → Event → Bool
tries controller (Tries now attempt) = is_late (retry_of controller) now
tries controller event = false

-- A controller that connects, or an attempt that is due, is not forgotten before it is tried.
abbrev pub KeepsTheNext : Type 0
KeepsTheNext =
    (controller : Controller) (event : Event) → tries controller event ≡ false
    → is_some controller.next ≡ true → is_some (after_event controller event).next ≡ true

-- A device, and the time of its last attempt to reach a controller.
pub record Trying : Type 0 where
  pub controller : Controller
  pub tried_at : Option ℕ

abbrev pub tried_by : Controller → Option ℕ → Event → Option ℕ
tried_by controller before (Tries now attempt) =
    if is_late (retry_of controller) now then Some now else before
tried_by controller before event = before

abbrev pub with_try : Trying → Event → Trying
with_try trying event = record {
  controller = after_event trying.controller event;
  tried_at = tried_by trying.controller trying.tried_at event;
}

abbrev pub trying_after : ℕ → List Event → Trying
trying_after patience events =
    fold with_try (record { controller = at_first true patience; tried_at = None }) events

abbrev pub IsDueFrom : ℕ → Option ℕ → Type 0
IsDueFrom earliest due = (time : ℕ) × (due ≡ Some time) × (earliest ≤ time)

-- No part of a look is before an earlier one.
unfoldable pub AreInOrder : ℕ → List Event → Type 0
AreInOrder before [] = Unit {0}
AreInOrder before (Notes connects held now ∷ later) = (before ≤ now) × AreInOrder now later
AreInOrder before (Finishes now failure ∷ later) = (before ≤ now) × AreInOrder now later
AreInOrder before (Tries now attempt ∷ later) = (before ≤ now) × AreInOrder now later
AreInOrder before (event ∷ later) = AreInOrder before later

-- The next attempt to reach a controller is at least half a second after the last one.
abbrev pub Pauses : Type 0
Pauses =
    (patience : ℕ) (events : List Event) (time : ℕ) → AreInOrder 0 events
    → (trying_after patience events).tried_at ≡ Some time
    → IsDueFrom (wait_end RETRY_TIME time) (trying_after patience events).controller.next
