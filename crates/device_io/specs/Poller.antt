-- The sources that a device waits for, and their events (this profile's own).
use Rattle.std.specs.Prelude.{◌≡◌, ℕ, ◌==◌, ◌||◌, Bool, true, false, if◌then◌else◌, List, fold}
use Rattle.mio.specs.Event.{event_token, is_error, is_read_closed, is_readable, is_writable}
use Rattle.mio.specs.declared.event.event.Event.{Event}
use Rattle.device_io.specs.declared.poller.ControllerReady.{ControllerReady}
use Rattle.device_io.specs.declared.poller.Ready.{Ready}
use Rattle.device_io.specs.declared.poller.Source.{Source}
use Rattle.device_io.specs.declared.poller.Source.TheVariants.{Controller, FullController, NewController, Controllers, Application, Applications}

-- The number that names a source in its events.
abbrev pub token_of : Source → ℕ
token_of Controller = 0
token_of FullController = 0
token_of NewController = 0
token_of Controllers = 1
token_of Application = 2
token_of Applications = 3

-- The device waits until it can read each source except a connection that is being made.
abbrev pub waits_to_read : Source → Bool
waits_to_read NewController = false
waits_to_read source = true

-- The device waits until octets are accepted by a controller for which some wait, by the
-- application, or by a connection that is being made.
abbrev pub waits_to_write : Source → Bool
waits_to_write FullController = true
waits_to_write NewController = true
waits_to_write Application = true
waits_to_write source = false

-- Nothing is ready.
abbrev pub nothing_ready : Ready
nothing_ready = record {
  controller = record { is_readable = false; takes_more = false; is_ending = false };
  controllers = false;
  application = false;
  applications = false;
}

-- An end, or a fault, is found by a read.
abbrev pub controller_of : Event → ControllerReady
controller_of event = record {
  is_readable = is_readable event || (is_read_closed event || is_error event);
  takes_more = is_writable event || is_error event;
  is_ending = is_read_closed event;
}

-- The latest event of the controller counts.
abbrev pub with_source : Source → Event → Ready → Ready
with_source Controllers event ready = record ready { controllers = true }
with_source Application event ready = record ready { application = true }
with_source Applications event ready = record ready { applications = true }
with_source source event ready = record ready { controller = controller_of event }

-- The sources that are ready after an event.
abbrev pub with_event : Ready → Event → Ready
with_event ready event =
    if (event_token event).0 == 0 then with_source Controller event ready
    else if (event_token event).0 == 1 then with_source Controllers event ready
    else if (event_token event).0 == 2 then with_source Application event ready
    else with_source Applications event ready

abbrev pub ready_of : List Event → Ready
ready_of events = fold with_event nothing_ready events

-- An event with the token of a source counts for this source.
abbrev pub CountsForItsSource : Type 0
CountsForItsSource =
    (source : Source) (ready : Ready) (event : Event)
    → (event_token event).0 ≡ token_of source
    → with_event ready event ≡ with_source source event ready
