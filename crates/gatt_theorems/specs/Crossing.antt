-- Nothing crosses, for any tables whose handles count from 1.
use Rattle.std.specs.Prelude.{◌≡◌, List}
use Rattle.att_attributes.specs.Attributes.{HaveHandlesFrom}
use Rattle.att_table.specs.Table.{Contents}
use Rattle.gatt_laws.specs.laws.NothingCrosses.{Agree, SparedIn, packets_given_by}
use Rattle.gatt_laws.specs.laws.Possible.{AllTables}
use Rattle.gatt_laws.specs.machine.Event.{Ordinal}
use Rattle.gatt_laws.specs.machine.Input.{Item, run_at_start}
use Rattle.gatt_laws.specs.machine.Start.{Start}
use Rattle.le_hci.specs.declared.peer.Peer.{Peer}

abbrev pub HasHandles : Contents → Type 0
HasHandles table = HaveHandlesFrom 1 table.attributes

abbrev pub NothingCrossesOfAny : Type 0
NothingCrossesOfAny =
    (peer : Peer) (one other : Start) (input its : List Item) → HasHandles one.table
    → AllTables HasHandles input →
    Agree peer one other input its → SparedIn peer (run_at_start one) input
    → SparedIn peer (run_at_start other) its →
    (ordinal : Ordinal) → packets_given_by peer ordinal (run_at_start one) input
    ≡ packets_given_by peer ordinal (run_at_start other) its
