-- The events of an input, and the states to which they lead.
use Rattle.std.specs.Prelude.{◌≡◌, List, [], ◌∷◌, ◌++◌}
use Rattle.std.specs.Option.{option_to_list}
use Rattle.att_table.specs.Table.{Contents}
use Rattle.gatt_laws.specs.laws.Possible.{Possible, AllTables}
use Rattle.gatt_laws.specs.machine.Event.{Event}
use Rattle.gatt_laws.specs.machine.Input.{Item, Run, after_item, run_at_start, run}
use Rattle.gatt_laws.specs.machine.ItemEvents.{event_at}
use Rattle.gatt_laws.specs.machine.Start.{Start, first_out, state_at}
use Rattle.gatt_laws.specs.machine.State.{State, out, step}
use Rattle.octet_io.specs.Number.{Octets}

abbrev pub after_events : State → List Event → State
after_events state [] = state
after_events state (event ∷ events) = after_events (step state event) events

-- The events that items mean: none after a fault.
abbrev pub events_in : Run → List Item → List Event
events_in run [] = []
events_in run (item ∷ items) =
    option_to_list (event_at run.intake item) ++ events_in (after_item run item) items

unfoldable pub events_of : Start → List Item → List Event
events_of start input = events_in (run_at_start start) input

-- An input leads to the state to which its events lead.
abbrev pub IsAfterItsEvents : Type 0
IsAfterItsEvents = (start : Start) (input : List Item) →
    (run start input).intake.state ≡ after_events (state_at start) (events_of start input)

-- The packets sent are the first output, then those of the events in their order.
abbrev pub out_in : State → List Event → List Octets
out_in state [] = []
out_in state (event ∷ events) = out state event ++ out_in (step state event) events

abbrev pub HasSentByEvents : Type 0
HasSentByEvents = (start : Start) (input : List Item) →
    (run start input).sent ≡ first_out start ++ out_in (state_at start) (events_of start input)

-- Each event may come in the state to which those before it lead.
abbrev pub ArePossible : (Contents → Type 0) → State → List Event → Type 0
ArePossible Fine state [] = Unit
ArePossible Fine state (event ∷ events) =
    Possible Fine state event × ArePossible Fine (step state event) events

abbrev pub MeansPossibleEvents : (Contents → Type 0) → Type 0
MeansPossibleEvents Fine = (start : Start) (input : List Item) → AllTables Fine input
    → ArePossible Fine (state_at start) (events_of start input)
