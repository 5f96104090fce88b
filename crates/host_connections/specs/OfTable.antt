-- Slots are of the table, so that there is space for each value that waits.
use Rattle.std.specs.Prelude.{◌≡◌, ℕ, true, List, [], ◌∷◌, Option, IfSome}
use Rattle.att_numbers.specs.Types.{Handle}
use Rattle.att_attributes.specs.declared.attr.Attr.{Attr}
use Rattle.att_table.specs.ConfigRow.{IsRowOf}
use Rattle.gatt_laws.specs.laws.WaitingOfTheTable.{AreConfigured}
use Rattle.host_connections.specs.SlotState.{SlotState}
use Rattle.host_connections.specs.Slots.{SlotStates, slot_state_at}
use Rattle.gatt_subs.specs.Rows.{Subscriptions, row_of}
use Rattle.le_hci.specs.declared.peer.Peer.{Peer}

-- On a connection that serves, each waiting value has a configuration.
pub record IsOfTable (attributes : List Attr) (slot_state : SlotState) : Type 0 where
  pub row : IsRowOf attributes slot_state.row
  pub waiting : slot_state.live ≡ true → AreConfigured attributes slot_state.pending.waiting

abbrev pub SlotIsOfTable : List Attr → Option SlotState → Type 0
SlotIsOfTable attributes slot =
    IfSome slot (λ (slot_state : SlotState). IsOfTable attributes slot_state)

abbrev pub HasBondsOfTable : List Attr → Subscriptions → Type 0
HasBondsOfTable attributes rows =
    (peer : Peer) → IfSome (row_of rows peer) (λ row. IsRowOf attributes row)

pub record AreOfTable (attributes : List Attr) (rows : Subscriptions) (slots : SlotStates) : Type 0
  where
    pub bonds : HasBondsOfTable attributes rows
    pub each : (place : ℕ) → SlotIsOfTable attributes (slot_state_at slots place)

-- If no values are notified, none comes to wait.
abbrev pub AreOfTableIfAny : List Handle → List Attr → Subscriptions → SlotStates → Type 0
AreOfTableIfAny [] attributes rows slots = Unit
AreOfTableIfAny (handle ∷ handles) attributes rows slots = AreOfTable attributes rows slots
