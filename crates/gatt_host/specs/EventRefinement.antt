-- The host and the state machine change alike at each event, except for the names of connections.
use Rattle.std.specs.Prelude.{◌≡◌, ℕ, ◌≤◌, [], length, get_or, slice_get, Some}
use Rattle.gatt_host.specs.ServerState.{ServerState}
use Rattle.gatt_host.specs.Meaning.{Assemblies, context_in, IsAfter, once_heard}
use Rattle.gatt_host.specs.Packet.{assembled_with}
use Rattle.gatt_host.specs.StateRefinement.{IsSound, RefinesStep, RefinesState, place_of_connection}
use Rattle.gatt_laws.specs.laws.Possible.{IsMeant}
use Rattle.gatt_laws.specs.laws.Renaming.{AreAlike, renamed}
use Rattle.gatt_laws.specs.machine.Context.{context_of}
use Rattle.gatt_laws.specs.machine.Event.{Ordinal, Event}
use Rattle.gatt_laws.specs.machine.Packets.{Fragments, arrival, with_arrival}
use Rattle.gatt_laws.specs.machine.State.{State}
use Rattle.host_connections.specs.Slots.{Place, place_serving}
use Rattle.le_acl.specs.Fragment.{fragment_of}
use Rattle.le_acl.specs.Reassembler.{no_assembly, assembly_after}
use Rattle.le_h4.specs.Packet.{AclPacket}
use Rattle.octet_io.specs.Number.{Octets}

-- A connection's name at the host is the place of its slot.
abbrev pub KnowsTheSame : Type 0
KnowsTheSame = (state : State) (server : ServerState) → IsSound state → RefinesState state [] server
    →
    AreAlike Ordinal Place (place_of_connection state) (context_of state) (context_in server)

abbrev pub EventsAreRefined : Type 0
EventsAreRefined = (state : State) (server new : ServerState) (event : Event) → IsSound state →
    RefinesState state [] server → IsMeant (λ table. Unit) state event →
    IsAfter (renamed (place_of_connection state) event) server new → RefinesStep state event new

-- The frame of each slot is assembled from its connection's fragments.
abbrev pub HoldsFrames : State → Fragments → Assemblies → Type 0
HoldsFrames state fragments assembled =
    (place : ℕ) (ordinal : Ordinal) → slice_get state.slots place ≡ Some (Some ordinal) →
    get_or assembled place no_assembly ≡ once_heard (assembly_after (fragments ordinal))

abbrev pub FramesFollow : Type 0
FramesFollow =
    (state : State) (server : ServerState) (fragments : Fragments) (assembled : Assemblies)
    (handle boundary broadcast : ℕ) (octets : Octets) →
    IsSound state → RefinesState state [] server → length state.slots ≤ length assembled →
    HoldsFrames state fragments assembled →
    HoldsFrames state
    (with_arrival fragments (arrival state (AclPacket handle boundary broadcast octets)))
    (assembled_with (place_serving server.slots handle) (fragment_of boundary broadcast octets)
    assembled)
