-- The faults of table files.
use Rattle.std.specs.Prelude.{◌≡◌, ◌≢◌, ℕ, Option, Some, None, Result, Ok, Err, IfSome}
use Rattle.att_table.specs.declared.table_fault.TableFault.{TableFault}
use Rattle.att_table.specs.declared.table_fault.TableFault.TheVariants.{OutOfMemory}
use Rattle.att_table.specs.Table.{Contents}
use Rattle.att_table.specs.TableFault.{table_fault_number}
pub use Rattle.att_table.specs.file.TableFile.{table_in}
use Rattle.octet_io.specs.Number.{Octets}
use Rattle.shell_files.specs.declared.fault.ShellFault.{ShellFault}
use Rattle.shell_files.specs.declared.fault.ShellFault.TheVariants.{Table, Next, Unreadable, Memory}

-- The number of a table file for which memory was refused.
abbrev pub table_out_of_memory : ℕ
table_out_of_memory = table_fault_number OutOfMemory

abbrev pub TableIsRefusedAs : ℕ → Result Contents TableFault → Type 0
TableIsRefusedAs number (Ok table) = ⊥
TableIsRefusedAs number (Err fault) = number ≡ table_fault_number fault

-- A table file is refused for its first fault or for refused memory.
abbrev pub IsTableRefusal : Octets → ShellFault → Type 0
IsTableRefusal octets (Table number) =
    number ≢ table_out_of_memory → TableIsRefusedAs number (table_in octets)
IsTableRefusal octets _ = ⊥

abbrev pub IsTableFileFault : ShellFault → Type 0
IsTableFileFault (Table number) = Unit {0}
IsTableFileFault Unreadable = Unit {0}
IsTableFileFault Memory = Unit {0}
IsTableFileFault _ = ⊥

-- The fault `Table` is `Next` if the file replaces another.
abbrev pub next_fault_of : ShellFault → ShellFault
next_fault_of (Table number) = Next number
next_fault_of fault = fault

-- A next table exists if its file does, and is that of the file, if known.
abbrev pub HasNextTable : Option (Option Octets) → Option Contents → Type 0
HasNextTable None None = Unit {0}
HasNextTable (Some file) (Some table) = IfSome file (λ octets. table_in octets ≡ Ok table)
HasNextTable _ _ = ⊥

abbrev pub IsNextFileFault : ShellFault → Type 0
IsNextFileFault (Next number) = Unit {0}
IsNextFileFault Unreadable = Unit {0}
IsNextFileFault Memory = Unit {0}
IsNextFileFault _ = ⊥
