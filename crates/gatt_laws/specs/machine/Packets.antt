-- The meaning of a packet from the controller (Core 5.0, Vol 2 Part E, 5.4 and 7.7); which packets
-- are ignored is this profile's own.
use Rattle.std.specs.Prelude.{ℕ, ◌==◌, nat_le, Bool, false, ◌&&◌, ◌||◌, not, is_none, if◌then◌else◌, List, [], ◌∷◌, Option, Some, None, Result, Ok, Err}
use Rattle.std.specs.List.{flat_map}
use Rattle.std.specs.Option.{option_map, option_map_or, option_to_list}
use Rattle.gatt_laws.specs.machine.Context.{Context, context_of, serving}
use Rattle.gatt_laws.specs.machine.Controller.{Controller, is_ready}
use Rattle.gatt_laws.specs.machine.Event.{Ordinal, Own, Happening, Event, Connected, Disconnected, KeyAsked, Encrypted, Refreshed, Asks, OtherChannel, Of, Completed, Credit, Nothing}
use Rattle.gatt_laws.specs.machine.State.{State}
use Rattle.le_acl.specs.Fragment.{Fragment, fragment_of}
use Rattle.le_acl.specs.Frame.{frame_at}
use Rattle.le_h4.specs.Packet.{Packet, AclPacket, EventPacket, ScoPacket}
use Rattle.le_hci.specs.declared.event.BadEvent.{BadEvent}
use Rattle.le_hci.specs.declared.event.CompletedPackets.{CompletedPackets}
use Rattle.le_hci.specs.declared.init.Init.{Init}
use Rattle.le_hci.specs.declared.init.InitFault.{InitFault}
use Rattle.le_hci.specs.declared.init.InitFault.TheVariants.{Refused, BadBuffers, Short}
use Rattle.le_hci.specs.declared.peer.Peer.{Peer}
use Rattle.le_hci.specs.Event as event
use Rattle.le_hci.specs.Event.{Reported, event_of}
use Rattle.le_hci.specs.Init.{opcode_awaited, init_outcome}
use Rattle.le_l2cap.specs.declared.channel.TheConstants.{ATT, LE_SIGNALLING, SECURITY_MANAGER}
use Rattle.le_l2cap.specs.declared.frame.Skip.{Skip}
use Rattle.le_l2cap.specs.Frame.{BasicFrame, frame_of}
use Rattle.octet_io.specs.Number.{Octets}
use Rattle.le_hci.specs.declared.event_code.TheConstants.{COMMAND_COMPLETE}
use Rattle.le_hci.specs.declared.connection.TheConstants.{LAST_CONNECTION_HANDLE, PERIPHERAL}

-- A host stops for good at an octet that begins no packet, at an invalid event, if the controller
-- is not initialised, or if that reports a hardware error.
pub data Fault : Type 0 where
  Desync : (indicator : ℕ) → Fault
  BadEventCode : (code : ℕ) → Fault
  InitFailed : (fault : InitFault) → Fault
  Hardware : (code : ℕ) → Fault

abbrev pub bad_event : BadEvent → Fault
bad_event bad = BadEventCode bad.0

-- An awaited answer that is too short is a bad Command Complete event.
abbrev pub init_fault : InitFault → Fault
init_fault (Refused opcode status) = InitFailed (Refused opcode status)
init_fault BadBuffers = InitFailed BadBuffers
init_fault Short = BadEventCode COMMAND_COMPLETE

abbrev pub following_of : Result Init (InitFault × Init) → Result (Option Init) Fault
following_of (Ok init) = Ok (Some init)
following_of (Err fault) = Err (init_fault fault.0)

-- A command is awaited from its sending to its completion.
abbrev pub is_awaited : Controller → ℕ → Bool
is_awaited controller opcode =
    controller.awaiting
    && option_map_or (λ awaited. opcode == awaited) (opcode_awaited controller.init) false

abbrev pub answered : {C : Type 0} → ℕ → ℕ → Option ℕ → Result (Option Init) Fault
    → Result (Happening C) Fault
answered allowed opcode status (Ok following) = Ok (Credit allowed opcode status following)
answered allowed opcode status (Err fault) = Err fault

abbrev pub status_of : Octets → Option ℕ
status_of [] = None
status_of (status ∷ values) = Some status

abbrev pub completed_event : {C : Type 0} → Controller → ℕ → ℕ → Octets → Result (Happening C) Fault
completed_event controller allowed opcode returned =
    answered allowed opcode (status_of returned)
    (if is_awaited controller opcode then following_of (init_outcome controller.init returned)
    else Ok None)

-- The status 0 means that the command is being carried out.
abbrev pub status_event : {C : Type 0} → Controller → ℕ → ℕ → ℕ → Result (Happening C) Fault
status_event controller status allowed opcode =
    answered allowed opcode (Some status)
    (if is_awaited controller opcode && not (status == 0)
    then following_of (init_outcome controller.init (status ∷ [])) else Ok None)

abbrev pub own_event : {C : Type 0} → Option C → Own → Happening C
own_event None own = Nothing
own_event (Some connection) own = Of connection own

-- The role of this side, and the largest connection handle (Core 5.0, Vol 2 Part E, 7.7.65.1).
abbrev pub peripheral : ℕ
peripheral = PERIPHERAL

abbrev pub last_connection_handle : ℕ
last_connection_handle = LAST_CONNECTION_HANDLE

-- A connection is accepted if it was made, this side is the peripheral, its handle is valid and
-- unused, and a slot is free. (P-ALL-3)
abbrev pub connection_complete_event : {C : Type 0} → Context C → ℕ → ℕ → ℕ → Peer → Happening C
connection_complete_event context status handle role peer =
    if (status == 0) && (role == peripheral) && nat_le handle last_connection_handle
    && is_none (context.holding handle)
    then own_event context.next_free (Connected handle peer) else Nothing

-- Entries of handles without a connection are ignored.
abbrev pub entries_of_connections : {C : Type 0} → (ℕ → Option C) → List CompletedPackets
    → List (C × ℕ)
entries_of_connections found entries =
    flat_map
    (λ (entry : CompletedPackets).
    option_to_list (option_map (λ connection. (connection, entry.packets)) (found entry.handle)))
    entries

abbrev pub connection_event : {C : Type 0} → Context C → Reported → Happening C
connection_event context (event.DisconnectionComplete status handle reason) =
    if status == 0 then own_event (context.holding handle) Disconnected else Nothing
connection_event context (event.EncryptionChange status handle enabled) =
    own_event (context.serving handle) (Encrypted status enabled)
connection_event context (event.EncryptionKeyRefreshComplete status handle) =
    own_event (context.serving handle) (Refreshed status)
connection_event context (event.NumberOfCompletedPackets entries) =
    Completed (entries_of_connections context.holding entries)
connection_event context
    (event.ConnectionComplete status handle role peer interval latency timeout clock_accuracy) =
    connection_complete_event context status handle role peer
connection_event context (event.LongTermKeyRequest handle random_number diversifier) =
    own_event (context.serving handle) (KeyAsked random_number diversifier)
connection_event context _ = Nothing

-- Events about connections are ignored until the controller is initialised. (P-ALL-3)
abbrev pub connection_event_if_ready : {C : Type 0} → Context C → Reported → Happening C
connection_event_if_ready context reported =
    if is_ready context.controller then connection_event context reported else Nothing

abbrev pub reported_event : {C : Type 0} → Context C → Reported → Result (Happening C) Fault
reported_event context (event.CommandComplete allowed opcode returned) =
    completed_event context.controller allowed opcode returned
reported_event context (event.CommandStatus status allowed opcode) =
    status_event context.controller status allowed opcode
reported_event context (event.HardwareError code) = Err (Hardware code)
reported_event context reported = Ok (connection_event_if_ready context reported)

abbrev pub event_or_bad : {C : Type 0} → Context C → Result Reported BadEvent
    → Result (Happening C) Fault
event_or_bad context (Ok reported) = reported_event context reported
event_or_bad context (Err bad) = Err (bad_event bad)

abbrev pub frame_own : BasicFrame → Option Own
frame_own frame =
    if frame.cid == ATT then Some (Asks frame.payload)
    else if frame.cid == LE_SIGNALLING || frame.cid == SECURITY_MANAGER
    then Some (OtherChannel frame.cid frame.payload)
    else None

abbrev pub of_frame : Result BasicFrame Skip → Option Own
of_frame (Ok frame) = frame_own frame
of_frame (Err skip) = None

abbrev pub of_octets : Option Octets → Option Own
of_octets None = None
of_octets (Some octets) = of_frame (frame_of octets)

abbrev pub frame_event : {C : Type 0} → C → Option Own → Happening C
frame_event connection None = Nothing
frame_event connection (Some own) = Of connection own

-- The frame that a fragment completes, if it completes one.
abbrev pub Recombination : Type 0
Recombination = Fragment → Option Octets

-- Data of a connection that does not serve is ignored.
abbrev pub fragment_event : {C : Type 0} → C → Recombination → Option Fragment → Happening C
fragment_event connection recombination None = Nothing
fragment_event connection recombination (Some fragment) =
    frame_event connection (of_octets (recombination fragment))

abbrev pub data_event : {C : Type 0} → (C → Recombination) → Option C → Option Fragment
    → Happening C
data_event recombinations None fragment = Nothing
data_event recombinations (Some connection) fragment =
    fragment_event connection (recombinations connection) fragment

-- The meaning of a packet, or why the host stops.
abbrev pub packet_meaning : {C : Type 0} → Context C → (C → Recombination) → Packet
    → Result (Happening C) Fault
packet_meaning context recombinations (EventPacket octets) = event_or_bad context (event_of octets)
packet_meaning context recombinations (AclPacket handle boundary broadcast octets) =
    Ok (data_event recombinations (context.serving handle) (fragment_of boundary broadcast octets))
packet_meaning context recombinations ScoPacket = Ok Nothing

-- The fragments of each connection, the newest first.
abbrev pub Fragments : Type 0
Fragments = Ordinal → List Fragment

abbrev pub recombinations_of : Fragments → Ordinal → Recombination
recombinations_of fragments ordinal fragment = frame_at (fragment ∷ fragments ordinal)

unfoldable pub packet_event : State → Fragments → Packet → Result Event Fault
packet_event state fragments packet =
    packet_meaning (context_of state) (recombinations_of fragments) packet

-- The connection whose fragment a packet is, if it is one.
abbrev pub Arrival : Type 0
Arrival = Option (Ordinal × Fragment)

abbrev pub arrival_of : Option Ordinal → Option Fragment → Arrival
arrival_of (Some ordinal) (Some fragment) = Some (ordinal, fragment)
arrival_of _ _ = None

abbrev pub arrival : State → Packet → Arrival
arrival state (AclPacket handle boundary broadcast octets) =
    arrival_of (serving state handle) (fragment_of boundary broadcast octets)
arrival state (EventPacket octets) = None
arrival state ScoPacket = None

abbrev pub with_arrival : Fragments → Arrival → Fragments
with_arrival fragments None = fragments
with_arrival fragments (Some arrived) =
    λ ordinal. if ordinal == arrived.0 then arrived.1 ∷ fragments ordinal else fragments ordinal

-- When each connection was last heard.
abbrev pub Heard : Type 0
Heard = Ordinal → ℕ

-- The connection that a packet comes from: the one that serves by its handle, whatever it contains,
-- or the one that its event makes (this profile's own). (P-ALL-4)
abbrev pub connection_heard : State → Packet → Event → Option Ordinal
connection_heard state (AclPacket handle boundary broadcast octets) event = serving state handle
connection_heard state packet (Of ordinal (Connected handle peer)) = Some ordinal
connection_heard state packet event = None

abbrev pub with_heard : ℕ → Heard → Option Ordinal → Heard
with_heard time heard None = heard
with_heard time heard (Some own) = λ ordinal. if ordinal == own then time else heard ordinal
