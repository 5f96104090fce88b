-- The event that an item of the input means, if it means one.
use Rattle.std.specs.Prelude.{◌≡◌, is_some, if◌then◌else◌, List, [], ◌∷◌, ◌++◌, Option, Some, None, Result, Ok, Err}
use Rattle.gatt_laws.specs.machine.Calls.{call_event, replacement_event}
use Rattle.gatt_laws.specs.machine.Event.{Event}
use Rattle.gatt_laws.specs.machine.Input.{Item, AnOctet, APacket, ACall, ATable, TheEnd, Intake, Run, after_item}
use Rattle.gatt_laws.specs.machine.Packets.{Fragments, packet_event}
use Rattle.gatt_laws.specs.machine.State.{State, out, step}
use Rattle.le_h4.specs.Division.{is_long}
use Rattle.le_h4.specs.Packet.{Packet, First, FirstPacket, NoneYet, NoPacket, first_of}
use Rattle.octet_io.specs.Number.{Octets}

abbrev pub event_if : {E : Type 0} → Result Event E → Option Event
event_if (Ok event) = Some event
event_if (Err fault) = None

abbrev pub event_of_packet : State → Fragments → Packet → Option Event
event_of_packet state fragments packet =
    if is_long packet then None else event_if (packet_event state fragments packet)

abbrev pub event_of_first : State → Fragments → First → Option Event
event_of_first state fragments (FirstPacket packet rest) = event_of_packet state fragments packet
event_of_first state fragments NoneYet = None
event_of_first state fragments (NoPacket indicator) = None

abbrev pub event_taken : Intake → Item → Option Event
event_taken intake (AnOctet octet) =
    event_of_first intake.state intake.fragments (first_of (intake.unfinished ++ octet ∷ []))
event_taken intake (APacket packet) = event_of_packet intake.state intake.fragments packet
event_taken intake (ACall call) = event_if (call_event intake.state call)
event_taken intake (ATable table) = event_if (replacement_event intake.state table)
event_taken intake TheEnd = None

abbrev pub event_at : Intake → Item → Option Event
event_at intake item = if is_some intake.fault then None else event_taken intake item

abbrev pub after_if : State → Option Event → State
after_if state None = state
after_if state (Some event) = step state event

abbrev pub out_if : State → Option Event → List Octets
out_if state None = []
out_if state (Some event) = out state event

-- An item changes the state and sends packets as its event does.
pub record DoesAs (old new : Run) (event : Option Event) : Type 0 where
  pub state : new.intake.state ≡ after_if old.intake.state event
  pub sent : new.sent ≡ old.sent ++ out_if old.intake.state event

abbrev pub MeansItsEvent : Type 0
MeansItsEvent =
    (run : Run) (item : Item) → DoesAs run (after_item run item) (event_at run.intake item)
