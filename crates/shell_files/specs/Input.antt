-- The faults of reading an input to its end.
use Rattle.std.specs.Prelude.{}
use Rattle.shell_files.specs.declared.fault.ShellFault.{ShellFault}
use Rattle.shell_files.specs.declared.fault.ShellFault.TheVariants.{Unreadable, Memory}

abbrev pub IsInputFault : ShellFault → Type 0
IsInputFault Unreadable = Unit {0}
IsInputFault Memory = Unit {0}
IsInputFault _ = ⊥
