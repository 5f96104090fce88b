-- The faults that end a run (this profile's own).
use Rattle.shell_files.specs.declared.fault.ShellFault.{ShellFault}
use Rattle.shell_files.specs.declared.fault.ShellFault.TheVariants.{Table, Next, Keys, Rows, Script, Host, Controller, TooLong, Unreadable, Unwritten, Memory}

abbrev pub IsExchangeFault : ShellFault → Type 0
IsExchangeFault (Host number) = Unit {0}
IsExchangeFault (Controller number) = Unit {0}
IsExchangeFault TooLong = Unit {0}
IsExchangeFault _ = ⊥

abbrev pub IsRunFault : ShellFault → Type 0
IsRunFault Unwritten = Unit {0}
IsRunFault Memory = Unit {0}
IsRunFault fault = IsExchangeFault fault

-- The faults from the script on.
abbrev pub IsScriptRunFault : ShellFault → Type 0
IsScriptRunFault (Script line) = Unit {0}
IsScriptRunFault Unreadable = Unit {0}
IsScriptRunFault fault = IsRunFault fault

-- The faults from the first file on.
abbrev pub IsRunCommandFault : ShellFault → Type 0
IsRunCommandFault (Table number) = Unit {0}
IsRunCommandFault (Next number) = Unit {0}
IsRunCommandFault (Keys number) = Unit {0}
IsRunCommandFault (Rows number) = Unit {0}
IsRunCommandFault fault = IsScriptRunFault fault
