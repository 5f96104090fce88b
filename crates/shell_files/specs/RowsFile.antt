-- The faults of subscriptions files.
use Rattle.std.specs.Prelude.{◌≡◌, ◌≢◌, ℕ, Result, Ok, Err}
use Rattle.gatt_subs.specs.declared.rows_fault.RowsFault.{RowsFault}
use Rattle.gatt_subs.specs.declared.rows_fault.RowsFault.TheVariants.{OutOfMemory}
use Rattle.gatt_subs.specs.Rows.{Subscriptions}
use Rattle.gatt_subs.specs.RowsFault.{rows_fault_number}
pub use Rattle.gatt_subs.specs.Rows.{rows_in}
use Rattle.octet_io.specs.Number.{Octets}
use Rattle.shell_files.specs.declared.fault.ShellFault.{ShellFault}
use Rattle.shell_files.specs.declared.fault.ShellFault.TheVariants.{Rows, Unreadable, Memory}

-- The number of a subscriptions file for which memory was refused.
abbrev pub rows_out_of_memory : ℕ
rows_out_of_memory = rows_fault_number OutOfMemory

abbrev pub RowsAreRefusedAs : ℕ → Result Subscriptions RowsFault → Type 0
RowsAreRefusedAs number (Ok rows) = ⊥
RowsAreRefusedAs number (Err fault) = number ≡ rows_fault_number fault

-- A subscriptions file is refused for its first fault or for refused memory.
abbrev pub IsRowsRefusal : Octets → ShellFault → Type 0
IsRowsRefusal octets (Rows number) =
    number ≢ rows_out_of_memory → RowsAreRefusedAs number (rows_in octets)
IsRowsRefusal octets _ = ⊥

abbrev pub IsRowsFileFault : ShellFault → Type 0
IsRowsFileFault (Rows number) = Unit {0}
IsRowsFileFault Unreadable = Unit {0}
IsRowsFileFault Memory = Unit {0}
IsRowsFileFault _ = ⊥
