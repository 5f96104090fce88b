-- The wait of a session, and the events that end it (this profile's own). Times are milliseconds of
-- the clock of the peers' time limits.
use Rattle.std.specs.Prelude.{◌≡◌, ◌⊎◌, ℕ, ◌&&◌, ◌||◌, Bool, true, false, if◌then◌else◌, is_some, not, List, Some}
use Rattle.app_lines.specs.Told.{told_line}
use Rattle.app_lines.specs.declared.told.Told.TheVariants.{Replaced}
use Rattle.device_io.specs.ControllerValue.{Controller}
use Rattle.device_io.specs.Controller.{after_ready, IsFlushedTo, IsLook}
use Rattle.device_io.specs.declared.poller.Ready.{Ready}
use Rattle.device_session.specs.declared.acceptance.Acceptance.{Acceptance}
use Rattle.device_session.specs.declared.peer_clock.PeerClock.{PeerClock}
use Rattle.device_session.specs.declared.seats.Outcome.{Outcome}
use Rattle.device_session.specs.declared.seats.Outcome.TheVariants.{Replaced as Replaces, Gone}
use Rattle.device_session.specs.declared.session.Session.{Session}
use Rattle.device_session.specs.declared.strangers.Limits.{Limits}
use Rattle.device_session.specs.declared.strangers.Stranger.{Stranger}
use Rattle.device_session.specs.Acceptance.{accepts_at, after_failure, after_success}
use Rattle.device_session.specs.Application.{IsAttended, IsFilled, IsKnock, IsReady, IsWatch}
use Rattle.device_session.specs.Missed.{Missed}
use Rattle.device_session.specs.PeerClock.{counted_after}
use Rattle.device_session.specs.Seats.{Seats, comes, gives_place, has_read_all, is_there}
use Rattle.device_session.specs.Strangers.{first_due}
use Rattle.device_session.specs.Telling.{IsLast, IsTold}
use Rattle.device_session.specs.Timeout.{application_acts}

-- A visitor gets a seat that no application has.
abbrev pub enters : Seats → ℕ → Bool
enters seats now = comes seats now && not (is_there seats)

-- At the end of an application, it is noted what it has missed.
pub record IsLastIf (ends all_read : Bool) (before after : Missed) : Type 0 where
  pub ended : ends ≡ true → IsLast all_read before after
  pub same : ends ≡ false → after ≡ before

-- An application that is replaced is notified of it first.
pub record IsToldOfReplacement (gives : Bool) (before after : Seats) : Type 0 where
  pub told : gives ≡ true → IsTold (Some (told_line Replaced)) before after
  pub same : gives ≡ false → after ≡ before

-- A replaced application may not have read everything.
abbrev pub IsNotedAfter : Outcome → Seats → Missed → Missed → Type 0
IsNotedAfter Replaces seats before after = IsLast false before after
IsNotedAfter Gone seats before after = IsLast (has_read_all seats) before after
IsNotedAfter outcome seats before after = after ≡ before

-- The visitor is read, or comes, and then the application is read, or gives its seat.
pub record IsRead (now : ℕ) (before : Seats) (missed : Missed) (after : Seats)
    (last : Missed) : Type 0 where
  pub attended : Seats
  pub notified : Seats
  pub noted : Missed
  pub outcome : Outcome
  pub attends : IsAttended now before attended
  pub notes : IsLastIf (enters before now) (has_read_all before) missed noted
  pub tells : IsToldOfReplacement (gives_place attended) attended notified
  pub fills : IsFilled notified outcome after
  pub ends : IsNotedAfter outcome after noted last

-- It has a visitor that it did not have.
abbrev pub has_new_visitor : Seats → Seats → Bool
has_new_visitor before after = is_some after.visitor && not (is_some before.visitor)

-- The next visitor is accepted, if any connects, or accepting fails.
pub record IsAcceptance (now : ℕ) (before : Seats) (waits : Acceptance)
    (after : Seats) (later : Acceptance) : Type 0 where
  pub knocks : IsKnock now before after
  pub delay :
      (later ≡ after_success waits (has_new_visitor before after))
      ⊎ ((later ≡ after_failure now) × (after.visitor ≡ before.visitor))

-- All that changes while a session waits.
pub record Parts : Type 0 where
  pub clock : PeerClock
  pub seats : Seats
  pub missed : Missed
  pub acceptance : Acceptance
  pub controller : Controller

abbrev pub waiting_parts_of : {R : Type 0} → Session R → Parts
waiting_parts_of session = record {
  clock = session.clock;
  seats = session.seats;
  missed = session.missed;
  acceptance = session.acceptance;
  controller = session.controller.controller;
}

abbrev pub AreSame : Parts → Parts → Type 0
AreSame before after = after ≡ before

-- The time since the last count counts, by the clock of the device.
abbrev pub IsCounted : PeerClock → PeerClock → Type 0
IsCounted before after =
    (now : ℕ) × (after.counted ≡ counted_after before.counted before.seen now)
    × (after.seen ≡ now)

pub record IsReadyIf (ready : Bool) (before after : Seats) : Type 0 where
  pub notes : ready ≡ true → IsReady before after
  pub same : ready ≡ false → after ≡ before

-- A visitor is accepted once its delay is over, or if one connects.
pub record IsAcceptanceIf (due : Bool) (now : ℕ) (before : Seats) (waits : Acceptance)
    (after : Seats) (later : Acceptance) : Type 0 where
  pub accepts : due ≡ true → IsAcceptance now before waits after later
  pub same : due ≡ false → (after ≡ before) × (later ≡ waits)

pub record IsFlushedIf (takes : Bool) (now : ℕ) (before after : Controller) : Type 0 where
  pub writes : takes ≡ true → IsFlushedTo now before after
  pub same : takes ≡ false → after ≡ before

abbrev pub readied_if : Bool → Bool → Controller → Controller
readied_if readable ends controller = if readable then after_ready ends controller else controller

-- The sockets that are ready are noted, a visitor is accepted, and a controller is looked for,
-- unless it `waits` for an application.
pub record IsTakenIn (ready : Ready) (waits : Bool) (before after : Parts) : Type 0 where
  pub flushed : Controller
  pub readied : Seats
  pub writes :
      IsFlushedIf ready.controller.takes_more before.clock.counted
      (readied_if ready.controller.is_readable ready.controller.is_ending before.controller)
      flushed
  pub notes : IsReadyIf ready.application before.seats readied
  pub accepts :
      IsAcceptanceIf
      (accepts_at before.acceptance (ready.applications || readied.is_knocking)
      before.clock.counted)
      before.clock.counted readied before.acceptance after.seats after.acceptance
  pub looks :
      IsLook ready.controllers (waits && not (is_there after.seats))
      before.clock.counted flushed after.controller
  pub clock : after.clock ≡ before.clock
  pub missed : after.missed ≡ before.missed

abbrev pub IsTakenInIfAny : Bool → Parts → Parts → Type 0
IsTakenInIfAny waits before after =
    ((ready : Ready) × IsTakenIn ready waits before after) ⊎ (after ≡ before)

-- A wait: the time before it counts, the application is read, and cut off if it is slow. The time
-- of the wait counts, and its events are noted, unless the system has refused to wait.
pub record IsWait (waits : Bool) (before after : Parts) : Type 0 where
  pub begun : PeerClock
  pub woken : PeerClock
  pub heard : Seats
  pub watched : Seats
  pub noted : Missed
  pub slow : Bool
  pub counts : IsCounted before.clock begun
  pub reads : IsRead begun.counted before.seats before.missed heard noted
  pub watches : IsWatch begun.counted heard watched slow
  pub counts_wait : IsCounted begun woken
  pub takes : IsTakenInIfAny waits (record {
    clock = woken;
    seats = watched;
    missed = noted;
    acceptance = before.acceptance;
    controller = before.controller;
  }) after

-- The application or a client without a key can be served.
abbrev pub has_other : Limits → List Stranger → ℕ → Acceptance → Seats → Bool
has_other limits known time acceptance seats =
    is_some (first_due limits time known) || application_acts acceptance seats
