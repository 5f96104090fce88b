-- The slots and the connections that have them, in every state.
use Rattle.std.specs.Prelude.{◌≡◌, ◌<◌, Bool, false, ◌==◌, List, [], ◌∷◌, Option, Some, None}
use Rattle.std.specs.List.{list_any}
use Rattle.gatt_laws.specs.machine.Controller.{Slots, is_ready}
use Rattle.gatt_laws.specs.machine.Event.{Ordinal}
use Rattle.gatt_laws.specs.machine.Input.{Item, run}
use Rattle.gatt_laws.specs.machine.ConnectionState.{no_connection}
use Rattle.gatt_laws.specs.machine.Start.{Start}
use Rattle.gatt_laws.specs.machine.State.{State}

abbrev pub is_slot_of : Ordinal → Option Ordinal → Bool
is_slot_of ordinal None = false
is_slot_of ordinal (Some other) = other == ordinal

abbrev pub has_slot : Ordinal → Slots → Bool
has_slot ordinal slots = list_any (is_slot_of ordinal) slots

-- Each connection has at most one slot, and its ordinal is below the next.
abbrev pub HaveOneSlotEach : Ordinal → Slots → Type 0
HaveOneSlotEach next [] = Unit
HaveOneSlotEach next (None ∷ slots) = HaveOneSlotEach next slots
HaveOneSlotEach next (Some ordinal ∷ slots) =
    (ordinal < next) × (has_slot ordinal slots ≡ false) × HaveOneSlotEach next slots

-- There are no slots before initialisation, and nothing is retained of a connection without a slot.
pub record IsSettled (state : State) : Type 0 where
  pub early : is_ready state.controller ≡ false → state.slots ≡ []
  pub slots : HaveOneSlotEach state.next state.slots
  pub absent : (ordinal : Ordinal) → has_slot ordinal state.slots ≡ false
      → state.connections ordinal ≡ no_connection

abbrev pub IsAlwaysSettled : Type 0
IsAlwaysSettled = (start : Start) (input : List Item) → IsSettled (run start input).intake.state
