-- The configurations of peers and connections are of the current table.
use Rattle.std.specs.Prelude.{List}
use Rattle.att_table.specs.ConfigRow.{IsRowOf}
use Rattle.gatt_laws.specs.machine.Event.{Ordinal, Event}
use Rattle.gatt_laws.specs.machine.Input.{Item, run}
use Rattle.gatt_laws.specs.machine.Start.{Start}
use Rattle.gatt_laws.specs.machine.State.{State, step}
use Rattle.le_hci.specs.declared.peer.Peer.{Peer}

pub record HasRowsOfItsTable (state : State) : Type 0 where
  pub bonds : (peer : Peer) → IsRowOf state.shared.table.attributes (state.bonds peer)
  pub own : (ordinal : Ordinal)
      → IsRowOf state.shared.table.attributes (state.connections ordinal).row

-- Each event preserves this.
abbrev pub KeepsRowsOfItsTable : Type 0
KeepsRowsOfItsTable =
    (state : State) (event : Event) → HasRowsOfItsTable state → HasRowsOfItsTable (step state event)

-- Each state has such rows, if the host is opened with rows of its table.
abbrev pub AlwaysHasRowsOfItsTable : Type 0
AlwaysHasRowsOfItsTable = (start : Start) (input : List Item) →
    ((peer : Peer) → IsRowOf start.table.attributes (start.bonds peer))
    → HasRowsOfItsTable (run start input).intake.state
