-- The order in which a run checks its files (this profile's own).
use Rattle.std.specs.Prelude.{ℕ, ◌<◌, Result, Ok, Err}
use Rattle.shell_files.specs.declared.fault.ShellFault.{ShellFault}
use Rattle.shell_files.specs.declared.fault.ShellFault.TheVariants.{Table, Keys, Rows, Next, Script, Host, Controller, TooLong, Unwritten, Listen}

-- The run begins after these checks.
pub data Turn : Type 0 where
  OfTable : Turn
  OfNext : Turn
  OfKeys : Turn
  OfRows : Turn
  OfScript : Turn

abbrev pub turn_place : Turn → ℕ
turn_place OfTable = 1
turn_place OfNext = 2
turn_place OfKeys = 3
turn_place OfRows = 4
turn_place OfScript = 5

-- The place of a fault in that order; `Unreadable` and `Memory` may occur anywhere (0).
abbrev pub place_of_fault : ShellFault → ℕ
place_of_fault (Table _) = 1
place_of_fault (Next _) = 2
place_of_fault (Keys _) = 3
place_of_fault (Rows _) = 4
place_of_fault (Script _) = 5
place_of_fault (Host _) = 6
place_of_fault (Controller _) = 6
place_of_fault TooLong = 6
place_of_fault Unwritten = 6
place_of_fault Listen = 6
place_of_fault _ = 0

-- The command got past the check of a file.
abbrev pub IsPast : Turn → Result Unit ShellFault → Type 0
IsPast turn (Ok _) = Unit {0}
IsPast turn (Err fault) = turn_place turn < place_of_fault fault
