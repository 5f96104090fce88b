-- The text and the exit status of each fault (this profile's own).
use Rattle.std.specs.Prelude.{ℕ, ◌++◌, codes}
use Rattle.std.specs.Fmt.{decimal}
use Rattle.octet_io.specs.Number.{Octets}
use Rattle.shell_files.specs.declared.fault.ShellFault.{ShellFault}
use Rattle.shell_files.specs.declared.fault.ShellFault.TheVariants.{Table, Keys, Rows, Next, Script, Host, Controller, TooLong, NotHex, Unreadable, Unwritten, Listen, Memory}

-- The text has no line feed.
abbrev pub fault_text : ShellFault → Octets
fault_text (Table number) = codes "table: fault " ++ decimal number
fault_text (Keys number) = codes "keys: fault " ++ decimal number
fault_text (Rows number) = codes "rows: fault " ++ decimal number
fault_text (Next number) = codes "next: fault " ++ decimal number
fault_text (Script line) = codes "script: line " ++ decimal line
fault_text (Host number) = codes "host: fault " ++ decimal number
fault_text (Controller number) = codes "controller: fault " ++ decimal number
fault_text TooLong = codes "exchange: too long"
fault_text (NotHex line) = codes "line " ++ decimal line ++ codes ": not hex"
fault_text Unreadable = codes "file: unreadable"
fault_text Unwritten = codes "file: unwritten"
fault_text Listen = codes "listen: failed"
fault_text Memory = codes "memory: refused"

-- The exit status is 1 for a file and 2 for a fault in a run.
abbrev pub exit_status_of : ShellFault → ℕ
exit_status_of (Table _) = 1
exit_status_of (Keys _) = 1
exit_status_of (Rows _) = 1
exit_status_of (Next _) = 1
exit_status_of (Script _) = 1
exit_status_of (Host _) = 2
exit_status_of (Controller _) = 2
exit_status_of TooLong = 2
exit_status_of (NotHex _) = 2
exit_status_of Unreadable = 1
exit_status_of Unwritten = 1
exit_status_of Listen = 2
exit_status_of Memory = 2

-- A fault of a table or key file, or of reading and printing.
abbrev pub IsTableOrKeysFault : ShellFault → Type 0
IsTableOrKeysFault (Table number) = Unit {0}
IsTableOrKeysFault (Keys number) = Unit {0}
IsTableOrKeysFault Unreadable = Unit {0}
IsTableOrKeysFault Unwritten = Unit {0}
IsTableOrKeysFault Memory = Unit {0}
IsTableOrKeysFault _ = ⊥
