-- The packets given to a connection, even if it has disconnected, are a prefix of what was queued
-- for it.
use Rattle.std.specs.Prelude.{◌≡◌, if◌then◌else◌, List, [], ◌∷◌}
use Rattle.gatt_laws.specs.laws.Given.{packets_given_by_now, packets_to}
use Rattle.gatt_laws.specs.laws.Runs.{events_of}
use Rattle.gatt_laws.specs.machine.Event.{Ordinal, Event}
use Rattle.gatt_laws.specs.machine.Input.{Item}
use Rattle.gatt_laws.specs.machine.ConnectionState.{is_there}
use Rattle.gatt_laws.specs.machine.Start.{Start, state_at}
use Rattle.gatt_laws.specs.machine.State.{State, step}
use Rattle.octet_io.specs.Number.{Octets}

-- The packets of the queue that count as given, when the connection was there last.
abbrev pub front_after : Ordinal → List Octets → State → List Octets
front_after ordinal front state =
    if is_there (state.connections ordinal).mark
    then packets_given_by_now state.shared.buffers (state.connections ordinal) else front

abbrev pub front_in : Ordinal → List Octets → State → List Event → List Octets
front_in ordinal front state [] = front
front_in ordinal front state (event ∷ events) =
    front_in ordinal (front_after ordinal front (step state event)) (step state event) events

abbrev pub front_of : Ordinal → Start → List Item → List Octets
front_of ordinal start input = front_in ordinal [] (state_at start) (events_of start input)

abbrev pub IsAlwaysGivenTheFront : Type 0
IsAlwaysGivenTheFront =
    (start : Start) (ordinal : Ordinal) (input : List Item) → packets_to ordinal start input
    ≡ front_of ordinal start input
