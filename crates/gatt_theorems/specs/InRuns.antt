-- The laws of the policy and of isolation, for one run.
use Rattle.std.specs.Prelude.{◌≡◌, ◌<◌, List, [], ◌∷◌}
use Rattle.att_numbers.specs.Types.{Handle}
use Rattle.att_table.specs.Table.{value_at}
use Rattle.gatt_laws.specs.laws.Given.{packets_to}
use Rattle.gatt_laws.specs.laws.NothingCrosses.{Agree, SparedIn, packets_given_by}
use Rattle.gatt_laws.specs.laws.Possible.{AllTables}
use Rattle.gatt_laws.specs.laws.Runs.{events_of}
use Rattle.gatt_laws.specs.machine.Event.{Ordinal, Event}
use Rattle.gatt_laws.specs.machine.Input.{Item, run_at_start}
use Rattle.gatt_laws.specs.machine.Start.{Start, state_at}
use Rattle.gatt_laws.specs.machine.State.{State, step}
use Rattle.gatt_theorems.specs.Changed.{ChangesAValue}
use Rattle.gatt_theorems.specs.Crossing.{HasHandles}
use Rattle.gatt_theorems.specs.Front.{front_of}
use Rattle.gatt_theorems.specs.Gained.{Gains}
use Rattle.gatt_theorems.specs.Promise.{KeepsConnectionsApart, KeepsThePolicy}
use Rattle.le_hci.specs.declared.peer.Peer.{Peer}

-- Each event does what the law says, in the state to which those before it lead.
abbrev pub AtEachEvent : (State → Event → Type 0) → State → List Event → Type 0
AtEachEvent Law state [] = Unit
AtEachEvent Law state (event ∷ events) = Law state event × AtEachEvent Law (step state event) events

abbrev pub EachGainsWhatIsDue : State → Event → Type 0
EachGainsWhatIsDue state event = (ordinal : Ordinal) → Gains state event (step state event) ordinal

abbrev pub EachValueChangesByRight : State → Event → Type 0
EachValueChangesByRight state event = (attribute : Handle) → 0 < attribute
    → (value_at (step state event).shared.table.values attribute
    ≡ value_at state.shared.table.values attribute → ⊥)
    → ChangesAValue state event attribute

-- The laws hold. In this run, at each event the queues gain only what is due and values change only
-- by right, and each connection was given a prefix of what was queued for it.
pub record KeepsThePolicyIn (start : Start) (input : List Item) : Type 0 where
  pub laws : KeepsThePolicy
  pub gains : AtEachEvent EachGainsWhatIsDue (state_at start) (events_of start input)
  pub values : AtEachEvent EachValueChangesByRight (state_at start) (events_of start input)
  pub gives : (ordinal : Ordinal) → packets_to ordinal start input ≡ front_of ordinal start input

-- The laws hold. A run from another start and input that agree with these for a peer gives its
-- connections the same packets, unless a connection of another peer is ended because its queue is
-- full.
pub record KeepsConnectionsApartIn (start : Start) (input : List Item) : Type 0 where
  pub laws : KeepsConnectionsApart
  pub crosses : (peer : Peer) (other : Start) (its : List Item) → HasHandles start.table
      → AllTables HasHandles input →
      Agree peer start other input its → SparedIn peer (run_at_start start) input
      → SparedIn peer (run_at_start other) its →
      (ordinal : Ordinal) → packets_given_by peer ordinal (run_at_start start) input
      ≡ packets_given_by peer ordinal (run_at_start other) its
