-- The meaning of a packet to a host, by its state.
use Rattle.std.specs.Prelude.{◌≡◌, ℕ, if◌then◌else◌, List, [], ◌∷◌, set, get_or, Option, Some, None, Result, Ok, Err, IsOkAnd}
use Rattle.gatt_host.specs.Answers.{stop_of}
use Rattle.gatt_host.specs.declared.host_fault.HostFault.{HostFault}
use Rattle.gatt_host.specs.ServerState.{ServerState}
use Rattle.gatt_host.specs.Meaning.{Assemblies, IncomingFrames, context_in, frames_after, IsAfter, recombinations_in}
use Rattle.gatt_host.specs.Meaning.{once_heard, with_fragment}
use Rattle.gatt_laws.specs.machine.Event.{Happening}
use Rattle.gatt_laws.specs.machine.Packets.{Fault, data_event, event_or_bad}
use Rattle.gatt_laws.specs.machine.Packets.{connection_event_if_ready, packet_meaning}
use Rattle.host_connections.specs.Arrivals.{with_heard}
use Rattle.host_connections.specs.declared.arrivals.Arrivals.{Arrivals}
use Rattle.host_connections.specs.Slots.{Place, place_serving}
use Rattle.le_acl.specs.declared.reassembler.Piece.{Piece}
use Rattle.le_acl.specs.declared.reassembler.Piece.TheVariants as piece
use Rattle.le_acl.specs.Fragment.{Fragment, fragment_of}
use Rattle.le_acl.specs.Reassembler.{Assembly, no_assembly}
use Rattle.le_h4.specs.Deframer.{Deframing, still}
use Rattle.le_h4.specs.Division.{is_long}
use Rattle.le_h4.specs.Packet.{Packet, AclPacket, EventPacket, ScoPacket}
use Rattle.le_hci.specs.declared.event.BadEvent.{BadEvent}
use Rattle.le_hci.specs.Event.{Reported, event_of}
use Rattle.octet_io.specs.Number.{Octets}

-- The event of a packet, or the fault for which the host stops.
abbrev pub packet_happening : ServerState → IncomingFrames → Packet → Result (Happening Place) Fault
packet_happening server frames packet =
    packet_meaning (context_in server) (recombinations_in frames) packet

-- A frame that a fragment completes is handled and dropped.
abbrev pub fragment_left : Option Fragment → Assembly → Assembly
fragment_left None earlier = earlier
fragment_left (Some fragment) earlier = once_heard (with_fragment earlier fragment)

abbrev pub assembled_with : Option Place → Option Fragment → Assemblies → Assemblies
assembled_with None fragment assembled = assembled
assembled_with (Some place) fragment assembled =
    set assembled place (fragment_left fragment (get_or assembled place no_assembly))

-- A packet of a serving connection sets its last time, whatever it contains.
abbrev pub arrivals_with : ℕ → Option Place → Arrivals → Arrivals
arrivals_with time None arrivals = arrivals
arrivals_with time (Some place) arrivals = with_heard place time arrivals

abbrev pub frames_after_acl : ServerState → ℕ → ℕ → ℕ → Octets → IncomingFrames → IncomingFrames
frames_after_acl server handle boundary broadcast octets frames =
    let place = place_serving server.slots handle in
    record {
      assembled = assembled_with place (fragment_of boundary broadcast octets) frames.assembled;
      arrivals = arrivals_with server.time place frames.arrivals;
    }

abbrev pub acl_happening : ServerState → ℕ → ℕ → ℕ → Octets → IncomingFrames → Happening Place
acl_happening server handle boundary broadcast octets frames =
    data_event (recombinations_in frames) (place_serving server.slots handle)
    (fragment_of boundary broadcast octets)

abbrev pub frame_given : Piece → Assembly → Option Octets
frame_given piece.Nothing assembly = None
frame_given piece.Frame assembly = assembly.frame

-- The host handles an event, or stops for good.
abbrev pub TakesEvent : Result Reported BadEvent → ServerState → ServerState → Type 0
TakesEvent read old new =
    IsOkAnd (event_or_bad (context_in old) read) (λ happening. IsAfter happening old new)

abbrev pub event_stop : Result Reported BadEvent → ServerState → Option HostFault
event_stop read server = stop_of (event_or_bad (context_in server) read)

-- Only an event that makes a connection changes the incoming frames.
abbrev pub frames_after_event : ServerState → Result Reported BadEvent → IncomingFrames
    → IncomingFrames
frames_after_event server (Ok reported) frames =
    frames_after server.time (connection_event_if_ready (context_in server) reported) frames
frames_after_event server (Err bad) frames = frames

abbrev pub frames_after_packet : ServerState → Packet → IncomingFrames → IncomingFrames
frames_after_packet server (AclPacket handle boundary broadcast octets) frames =
    frames_after_acl server handle boundary broadcast octets frames
frames_after_packet server (EventPacket octets) frames =
    frames_after_event server (event_of octets) frames
frames_after_packet server ScoPacket frames = frames

-- A packet that is too long is ignored.
abbrev pub frames_after_any : ServerState → Packet → IncomingFrames → IncomingFrames
frames_after_any server packet frames =
    if is_long packet then frames else frames_after_packet server packet frames

-- The incoming frames after octets in which at most one packet ends.
abbrev pub frames_after_first : ServerState → List Packet → IncomingFrames → IncomingFrames
frames_after_first server [] frames = frames
frames_after_first server (packet ∷ packets) frames = frames_after_packet server packet frames

abbrev pub frames_after_octets : ServerState → Deframing → Octets → IncomingFrames → IncomingFrames
frames_after_octets server stream octets frames =
    frames_after_first server (still stream octets).packets frames

pub record TakesPacket (packet : Packet) (old : ServerState) (frames : IncomingFrames)
    (new : ServerState) (after : IncomingFrames) : Type 0 where
  pub server : IsOkAnd (packet_happening old frames packet) (λ happening. IsAfter happening old new)
  pub frames_then : after ≡ frames_after_packet old packet frames

abbrev pub packet_stop : Packet → ServerState → Option HostFault
packet_stop (EventPacket octets) server = event_stop (event_of octets) server
packet_stop packet server = None
