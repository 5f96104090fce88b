-- Values that wait to be indicated are of the current table.
use Rattle.std.specs.Prelude.{◌≡◌, ◌+◌, All, Bool, true, false, List, []}
use Rattle.att_numbers.specs.Types.{Handle}
use Rattle.att_attributes.specs.declared.attr.Attr.{Attr}
use Rattle.att_attributes.specs.Attributes.{is_configuration_at}
use Rattle.att_table.specs.ConfigRow.{IsRowOf}
use Rattle.gatt_laws.specs.laws.RowsOfTheTable.{HasRowsOfItsTable}
use Rattle.gatt_laws.specs.machine.ConnectionState.{ConnectionState, is_live}
use Rattle.gatt_laws.specs.machine.Event.{Ordinal, Event}
use Rattle.gatt_laws.specs.machine.Input.{Item, run}
use Rattle.gatt_laws.specs.machine.Start.{Start}
use Rattle.gatt_laws.specs.machine.State.{State, step}
use Rattle.le_hci.specs.declared.peer.Peer.{Peer}

-- A value has a configuration, which follows it.
abbrev pub HasConfiguration : List Attr → Handle → Type 0
HasConfiguration attributes handle = is_configuration_at attributes (handle + 1) ≡ true

abbrev pub AreConfigured : List Attr → List Handle → Type 0
AreConfigured attributes handles = All (HasConfiguration attributes) handles

-- On a connection that serves, values with a configuration may wait; on any other, nothing.
abbrev pub MayWait : List Attr → Bool → List Handle → Type 0
MayWait attributes true waiting = AreConfigured attributes waiting
MayWait attributes false waiting = waiting ≡ []

abbrev pub WaitsForItsTable : List Attr → ConnectionState → Type 0
WaitsForItsTable attributes connection =
    MayWait attributes (is_live connection.mark) connection.pending.waiting

abbrev pub HasWaitingOfItsTable : State → Type 0
HasWaitingOfItsTable state =
    (ordinal : Ordinal) → WaitsForItsTable state.shared.table.attributes (state.connections ordinal)

-- Each event preserves this, if rows are of the table.
abbrev pub KeepsWaitingOfItsTable : Type 0
KeepsWaitingOfItsTable =
    (state : State) (event : Event) → HasRowsOfItsTable state → HasWaitingOfItsTable state
    → HasWaitingOfItsTable (step state event)

-- It holds in every state, if the host is opened with rows of its table. Since each value waits
-- once, no more wait on a connection than the table has configurations.
abbrev pub AlwaysHasWaitingOfItsTable : Type 0
AlwaysHasWaitingOfItsTable = (start : Start) (input : List Item) →
    ((peer : Peer) → IsRowOf start.table.attributes (start.bonds peer))
    → HasWaitingOfItsTable (run start input).intake.state
