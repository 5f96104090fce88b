-- The faults of key files.
use Rattle.std.specs.Prelude.{◌≡◌, ◌≢◌, ℕ, List, Result, Ok, Err}
pub use Rattle.le_security.specs.KeyFile.{keys_in}
use Rattle.le_security.specs.declared.entry.Entry.{Entry}
use Rattle.le_security.specs.declared.key_fault.KeyFault.{KeyFault}
use Rattle.le_security.specs.declared.key_fault.KeyFault.TheVariants.{OutOfMemory}
use Rattle.le_security.specs.KeyFault.{key_fault_number}
use Rattle.octet_io.specs.Number.{Octets}
use Rattle.shell_files.specs.declared.fault.ShellFault.{ShellFault}
use Rattle.shell_files.specs.declared.fault.ShellFault.TheVariants.{Keys, Unreadable, Memory}

-- The number of a key file for which memory was refused.
abbrev pub keys_out_of_memory : ℕ
keys_out_of_memory = key_fault_number OutOfMemory

abbrev pub KeysAreRefusedAs : ℕ → Result (List Entry) KeyFault → Type 0
KeysAreRefusedAs number (Ok keys) = ⊥
KeysAreRefusedAs number (Err fault) = number ≡ key_fault_number fault

-- A key file is refused for its first fault or for refused memory.
abbrev pub IsKeyRefusal : Octets → ShellFault → Type 0
IsKeyRefusal octets (Keys number) =
    number ≢ keys_out_of_memory → KeysAreRefusedAs number (keys_in octets)
IsKeyRefusal octets _ = ⊥

abbrev pub IsKeyFileFault : ShellFault → Type 0
IsKeyFileFault (Keys number) = Unit {0}
IsKeyFileFault Unreadable = Unit {0}
IsKeyFileFault Memory = Unit {0}
IsKeyFileFault _ = ⊥
