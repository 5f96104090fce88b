-- No current value is longer than its largest length, and a fixed one has that length.
use Rattle.std.specs.Prelude.{List}
use Rattle.att_table.specs.Facts.{IsTable}
use Rattle.gatt_laws.specs.machine.Input.{Item, run}
use Rattle.gatt_laws.specs.laws.Possible.{AllTables}
use Rattle.gatt_laws.specs.machine.Start.{Start}

-- Each state has a table, if each one that is handed in is a table.
abbrev pub AlwaysHasATable : Type 0
AlwaysHasATable =
    (start : Start) (input : List Item) → IsTable start.table → AllTables IsTable input
    → IsTable (run start input).intake.state.shared.table
