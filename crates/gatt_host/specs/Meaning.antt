-- The meaning of packets and calls to a host.
use Rattle.std.specs.Prelude.{◌≡◌, ℕ, List, set, get_or, None, IfSome}
use Rattle.gatt_host.specs.ServerState.{ServerState, ServesRequest, after_ask_key, after_authorize, after_connection_complete, server_after_packets_completed, server_after_command_complete, after_disconnect, after_disconnection_complete, after_link, after_no_change, after_replacing, server_after_other_channel, server_after_tick, after_update, server_slot_at}
use Rattle.gatt_laws.specs.machine.Context.{Context}
use Rattle.gatt_laws.specs.machine.Event.{Own, Connected, Disconnected, KeyAsked, Encrypted, Refreshed, Asks, OtherChannel, Authorized, Ended, Happening, Of, Completed, Credit, Update, Tick, Replaced, Nothing}
use Rattle.gatt_laws.specs.machine.Packets.{Recombination}
use Rattle.host_connections.specs.Arrivals.{with_accepted}
use Rattle.host_connections.specs.declared.arrivals.Arrivals.{Arrivals}
use Rattle.host_connections.specs.OfTable.{AreOfTable}
use Rattle.host_connections.specs.Slots.{Place, place_free, place_holding, place_serving}
use Rattle.le_acl.specs.Fragment.{Fragment, Beginning, Continuation}
use Rattle.le_acl.specs.Reassembler.{Assembly, no_assembly, assembled_of, with_continuation}
use Rattle.le_security.specs.Link.{Encryption, Refresh}

-- The host's context: each connection is named by the place of its slot.
abbrev pub context_in : ServerState → Context Place
context_in server = record {
  controller = server.controller;
  attributes = server.table.attributes;
  changer = server.changer;
  time = server.time;
  serving = place_serving server.slots;
  holding = place_holding server.slots;
  next_free = place_free server.slots;
}

abbrev pub IsAfterOwn : Place → Own → ServerState → ServerState → Type 0
IsAfterOwn place (Connected handle peer) old new =
    new ≡ after_connection_complete place handle peer old
IsAfterOwn place Disconnected old new = new ≡ after_disconnection_complete place old
IsAfterOwn place (KeyAsked random_number diversifier) old new =
    new ≡ after_ask_key place random_number diversifier old
IsAfterOwn place (Encrypted status enabled) old new =
    new ≡ after_link place (Encryption status enabled) old
IsAfterOwn place (Refreshed status) old new = new ≡ after_link place (Refresh status) old
IsAfterOwn place (Asks pdu) old new =
    IfSome (server_slot_at old place) (λ slot_state. ServesRequest place pdu slot_state old new)
IsAfterOwn place (OtherChannel channel payload) old new =
    new ≡ server_after_other_channel place channel payload old
IsAfterOwn place (Authorized until) old new = new ≡ after_authorize place until old
IsAfterOwn place Ended old new = new ≡ after_disconnect place old

abbrev pub IsAfter : Happening Place → ServerState → ServerState → Type 0
IsAfter (Of place own) old new = IsAfterOwn place own old new
IsAfter (Completed entries) old new = new ≡ server_after_packets_completed entries old
IsAfter (Credit allowed opcode status following) old new =
    new ≡ server_after_command_complete allowed opcode status following old
IsAfter (Update handle value) old new = new ≡ after_update handle value old
IsAfter (Tick time) old new = new ≡ server_after_tick time old
IsAfter (Replaced table) old new = new ≡ after_replacing table old
IsAfter Nothing old new = new ≡ after_no_change old

abbrev pub Assemblies : Type 0
Assemblies = List Assembly

-- The incoming frames of the connections, slot by slot, and when each connection came.
pub record IncomingFrames : Type 0 where
  pub assembled : Assemblies
  pub arrivals : Arrivals

-- The incoming frames after an event: a new connection has no frame and is counted.
abbrev pub frames_after : ℕ → Happening Place → IncomingFrames → IncomingFrames
frames_after time (Of place (Connected handle peer)) frames = record {
  assembled = set frames.assembled place no_assembly;
  arrivals = with_accepted place time frames.arrivals;
}
frames_after time happening frames = frames

abbrev pub with_fragment : Assembly → Fragment → Assembly
with_fragment assembly (Beginning octets) = assembled_of octets
with_fragment assembly (Continuation octets) = with_continuation assembly octets

-- A frame that was handled is dropped; an unfinished one is retained.
abbrev pub once_heard : Assembly → Assembly
once_heard assembly = record { unfinished = assembly.unfinished; frame = None }

-- The frame that a fragment completes, after those before it.
abbrev pub recombination : Assembly → Recombination
recombination earlier fragment = (with_fragment earlier fragment).frame

abbrev pub recombinations_in : IncomingFrames → Place → Recombination
recombinations_in frames place = recombination (get_or frames.assembled place no_assembly)

-- All rows and pending indications are of the table.
abbrev pub IsOfItsTable : ServerState → Type 0
IsOfItsTable server = AreOfTable server.table.attributes server.rows server.slots
