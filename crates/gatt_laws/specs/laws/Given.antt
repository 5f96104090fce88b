-- The packets that are given to a connection are a prefix of what was queued for it.
use Rattle.std.specs.Prelude.{◌≡◌, true, List, [], ◌∷◌, ◌++◌, map, take, Option, Some, None}
use Rattle.std.specs.List.{flat_map}
use Rattle.gatt_laws.specs.machine.Event.{Ordinal, Event}
use Rattle.gatt_laws.specs.machine.Input.{Item, run}
use Rattle.gatt_laws.specs.machine.ConnectionState.{ConnectionState, is_there}
use Rattle.gatt_laws.specs.machine.SharedState.{fragment_size_of}
use Rattle.gatt_laws.specs.laws.Runs.{events_of}
use Rattle.gatt_laws.specs.machine.Start.{Start, state_at}
use Rattle.gatt_laws.specs.machine.State.{State, before_commands, commands_out, out, slot_out, step}
use Rattle.le_acl.specs.Outgoing.{acl_octets}
use Rattle.le_acl.specs.Packets.{packets_of}
use Rattle.le_hci.specs.declared.buffers.Buffers.{Buffers}
use Rattle.octet_io.specs.Number.{Octets}

abbrev pub packets_in : (State → Event → List Octets) → State → List Event → List Octets
packets_in given state [] = []
packets_in given state (event ∷ events) =
    given state event ++ packets_in given (step state event) events

abbrev pub packets_at : Ordinal → State → Event → List Octets
packets_at ordinal state event = slot_out state (before_commands state event) (Some ordinal)

abbrev pub packets_given_in_order : Ordinal → State → List Event → List Octets
packets_given_in_order ordinal = packets_in (packets_at ordinal)

abbrev pub packets_to : Ordinal → Start → List Item → List Octets
packets_to ordinal start input =
    packets_given_in_order ordinal (state_at start) (events_of start input)

-- An event sends commands, then the packets that it gives to each connection that has a slot.
abbrev pub packets_by_slot : State → Event → Option Ordinal → List Octets
packets_by_slot state event None = []
packets_by_slot state event (Some ordinal) = packets_at ordinal state event

abbrev pub BringsWhatItGives : Type 0
BringsWhatItGives = (state : State) (event : Event) →
    let new = before_commands state event in
    out state event ≡ commands_out new ++ flat_map (packets_by_slot state event) new.slots

abbrev pub packets_given_by_now : Option Buffers → ConnectionState → List Octets
packets_given_by_now buffers connection =
    map (acl_octets connection.handle)
    (take connection.given (packets_of (fragment_size_of buffers) connection.pdus))

-- A connection that is there was given the packets of its queue that count as given.
abbrev pub IsGivenTheFront : Type 0
IsGivenTheFront = (start : Start) (ordinal : Ordinal) (input : List Item) →
    let state : State = (run start input).intake.state in
    is_there (state.connections ordinal).mark ≡ true
    → packets_to ordinal start input
    ≡ packets_given_by_now state.shared.buffers (state.connections ordinal)
