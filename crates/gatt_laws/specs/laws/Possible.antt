-- The events that may come in a state, because a packet or call means them.
use Rattle.std.specs.Prelude.{◌≡◌, ℕ, ◌≤◌, true, false, List, [], ◌∷◌, length, Some, None}
use Rattle.att_numbers.specs.Types.{Handle}
use Rattle.att_attributes.specs.declared.attr.Attr.{Attr}
use Rattle.att_attributes.specs.Attributes.{attribute_at}
use Rattle.att_table.specs.Table.{Contents}
use Rattle.gatt_laws.specs.laws.Settled.{has_slot}
use Rattle.gatt_laws.specs.machine.Calls.{has_length}
use Rattle.gatt_laws.specs.machine.Context.{holding}
use Rattle.gatt_laws.specs.machine.Controller.{Slots, has_free, is_ready}
use Rattle.gatt_laws.specs.machine.Event.{Ordinal, Own, Event, Connected, Disconnected, Of, Completed}
use Rattle.gatt_laws.specs.machine.Event.{Credit, Update, Tick, Replaced, Nothing}
use Rattle.gatt_laws.specs.machine.Input.{Item, AnOctet, APacket, ACall, ATable, TheEnd}
use Rattle.gatt_laws.specs.machine.ConnectionState.{is_live}
use Rattle.gatt_laws.specs.machine.State.{State}
use Rattle.octet_io.specs.Number.{Octets}

pub record MayConnect (state : State) (ordinal : Ordinal) : Type 0 where
  pub next : ordinal ≡ state.next
  pub free : has_free state.slots ≡ true

abbrev pub OwnIsPossible : State → Ordinal → Own → Type 0
OwnIsPossible state ordinal (Connected handle peer) = MayConnect state ordinal
OwnIsPossible state ordinal own = Unit

pub record MayBeUpdated (state : State) (handle : Handle) (value : Octets) : Type 0 where
  pub attr : Attr
  pub there : attribute_at state.shared.table.attributes handle ≡ Some attr
  pub fits : has_length attr (length value) ≡ true

-- Initialisation continues only before the controller is initialised. `Fine` is a property of all
-- tables that are handed in.
abbrev pub Possible : (Contents → Type 0) → State → Event → Type 0
Possible Fine state (Of ordinal own) = OwnIsPossible state ordinal own
Possible Fine state (Completed entries) = Unit
Possible Fine state (Credit allowed opcode status (Some init)) = is_ready state.controller ≡ false
Possible Fine state (Credit allowed opcode status None) = Unit
Possible Fine state (Update handle value) = MayBeUpdated state handle value
Possible Fine state (Tick time) = state.shared.time ≤ time
Possible Fine state (Replaced table) = Fine table
Possible Fine state Nothing = Unit

-- An event that is meant is more than possible. A new connection has an unused handle; one that
-- disconnects has a slot; all else happens to connections that serve. Packets complete of
-- connections with slots, once the controller is initialised.
pub record ConnectsUnusedNext (state : State) (ordinal : Ordinal) (handle : ℕ) : Type 0 where
  pub may : MayConnect state ordinal
  pub unused : holding state handle ≡ None

pub record ServesInASlot (state : State) (ordinal : Ordinal) : Type 0 where
  pub has : has_slot ordinal state.slots ≡ true
  pub live : is_live (state.connections ordinal).mark ≡ true

abbrev pub OwnIsMeant : State → Ordinal → Own → Type 0
OwnIsMeant state ordinal (Connected handle peer) = ConnectsUnusedNext state ordinal handle
OwnIsMeant state ordinal Disconnected = has_slot ordinal state.slots ≡ true
OwnIsMeant state ordinal own = ServesInASlot state ordinal

abbrev pub HaveSlots : Slots → List (Ordinal × ℕ) → Type 0
HaveSlots slots [] = Unit
HaveSlots slots (entry ∷ entries) = (has_slot entry.0 slots ≡ true) × HaveSlots slots entries

abbrev pub IsMeant : (Contents → Type 0) → State → Event → Type 0
IsMeant Fine state (Of ordinal own) = OwnIsMeant state ordinal own
IsMeant Fine state (Completed entries) =
    (is_ready state.controller ≡ true) × HaveSlots state.slots entries
IsMeant Fine state event = Possible Fine state event

-- `Fine` holds of the table of an item, and of all tables of an input.
abbrev pub IsFine : (Contents → Type 0) → Item → Type 0
IsFine Fine (ATable table) = Fine table
IsFine Fine item = Unit

abbrev pub AllTables : (Contents → Type 0) → List Item → Type 0
AllTables Fine [] = Unit
AllTables Fine (AnOctet octet ∷ items) = AllTables Fine items
AllTables Fine (APacket packet ∷ items) = AllTables Fine items
AllTables Fine (ACall call ∷ items) = AllTables Fine items
AllTables Fine (ATable table ∷ items) = Fine table × AllTables Fine items
AllTables Fine (TheEnd ∷ items) = AllTables Fine items
