-- The input of a host in its order, and the output (this profile's own, over the stream of Core
-- 5.0, Vol 4 Part A, 2).
use Rattle.std.specs.Prelude.{ℕ, if◌then◌else◌, List, [], ◌∷◌, ◌++◌, Option, Some, None, Result, Ok, Err}
use Rattle.att_table.specs.Table.{Contents}
use Rattle.gatt_laws.specs.machine.Calls.{Call, Refused, Stopped, call_event, replacement_event}
use Rattle.gatt_laws.specs.machine.Event.{Event}
use Rattle.gatt_laws.specs.machine.Packets.{Fault, Desync, Fragments, Heard, arrival, with_arrival, packet_event, connection_heard, with_heard}
use Rattle.gatt_laws.specs.machine.Start.{Start, state_at, first_out}
use Rattle.gatt_laws.specs.machine.State.{State, step, out}
use Rattle.le_h4.specs.Division.{is_long}
use Rattle.le_h4.specs.Packet.{Packet, First, FirstPacket, NoneYet, NoPacket, first_of}
use Rattle.octet_io.specs.Number.{Octets}

-- A table replaces the current one; the end is that of a stream of octets.
pub data Item : Type 0 where
  AnOctet : (octet : ℕ) → Item
  APacket : (packet : Packet) → Item
  ACall : (call : Call) → Item
  ATable : (table : Contents) → Item
  TheEnd : Item

-- `unfinished` has the octets of a packet that is not whole yet, and `heard` the time of each
-- connection's last packet.
pub record Intake : Type 0 where
  pub state : State
  pub unfinished : Octets
  pub fragments : Fragments
  pub heard : Heard
  pub fault : Option Fault

pub record Run : Type 0 where
  pub intake : Intake
  pub sent : List Octets

abbrev pub after_event : Run → Event → Run
after_event run event = record {
  intake = record run.intake { state = step run.intake.state event };
  sent = run.sent ++ out run.intake.state event;
}

abbrev pub after_result : {E : Type 0} → Run → Result Event E → Run
after_result run (Ok event) = after_event run event
after_result run (Err refused) = run

abbrev pub stopped : Run → Fault → Run
stopped run fault = record run { intake = record run.intake { fault = Some fault } }

abbrev pub packet_taken : Run → Packet → Result Event Fault → Run
packet_taken run packet (Err fault) = stopped run fault
packet_taken run packet (Ok event) =
    let intake = run.intake in
    after_event (record run {
      intake = record intake {
        fragments = with_arrival intake.fragments (arrival intake.state packet);
        heard = with_heard intake.state.shared.time intake.heard
            (connection_heard intake.state packet event);
      };
    }) event

abbrev pub after_packet : Run → Packet → Run
after_packet run packet =
    packet_taken run packet (packet_event run.intake.state run.intake.fragments packet)

-- A packet that is too long is ignored.
abbrev pub after_whole : Run → Packet → Run
after_whole run packet = if is_long packet then run else after_packet run packet

abbrev pub with_unfinished : Run → Octets → Run
with_unfinished run octets = record run { intake = record run.intake { unfinished = octets } }

abbrev pub run_after_first : Run → Octets → First → Run
run_after_first run octets (FirstPacket packet rest) = after_whole (with_unfinished run rest) packet
run_after_first run octets NoneYet = with_unfinished run octets
run_after_first run octets (NoPacket indicator) = stopped run (Desync indicator)

abbrev pub after_octets : Run → Octets → Run
after_octets run octets = run_after_first run octets (first_of octets)

abbrev pub taken : Run → Item → Run
taken run (AnOctet octet) = after_octets run (run.intake.unfinished ++ octet ∷ [])
taken run (APacket packet) = after_whole run packet
taken run (ACall call) = after_result run (call_event run.intake.state call)
taken run (ATable table) = after_result run (replacement_event run.intake.state table)
taken run TheEnd = with_unfinished run []

abbrev pub refusal_in : {A : Type 0} → Option Fault → Result A Refused → Option Refused
refusal_in (Some fault) result = Some Stopped
refusal_in None (Ok event) = None
refusal_in None (Err refused) = Some refused

abbrev pub call_refusal : Intake → Call → Option Refused
call_refusal intake call = refusal_in intake.fault (call_event intake.state call)

abbrev pub replacement_refusal : Intake → Contents → Option Refused
replacement_refusal intake table = refusal_in intake.fault (replacement_event intake.state table)

-- Nothing changes after a fault.
abbrev pub unless_stopped : Option Fault → Run → Run → Run
unless_stopped (Some fault) run new = run
unless_stopped None run new = new

unfoldable pub after_item : Run → Item → Run
after_item run item = unless_stopped run.intake.fault run (taken run item)

abbrev pub after_items : Run → List Item → Run
after_items run [] = run
after_items run (item ∷ items) = after_items (after_item run item) items

abbrev pub run_at_start : Start → Run
run_at_start start = record {
  intake = record {
    state = state_at start;
    unfinished = [];
    fragments = λ ordinal. [];
    heard = λ ordinal. 0;
    fault = None;
  };
  sent = first_out start;
}

-- The run to which a start and an input lead.
unfoldable pub run : Start → List Item → Run
run start input = after_items (run_at_start start) input
