-- The serving of a controller, and its faults (this profile's own).
use Rattle.std.specs.Prelude.{◌≡◌, Bool, true, false, IfErr, List, Option, Some, None, Result, Ok, Err}
use Rattle.std.specs.Result.{result_err}
use Rattle.gatt_host.specs.declared.host_fault.HostFault.{HostFault}
use Rattle.gatt_host.specs.declared.serving.End.{End}
use Rattle.gatt_host.specs.Numbers.{number_of_fault}
use Rattle.gatt_host.specs.HostModel.{HostModel}
use Rattle.gatt_host.specs.Serving.{Serves}
use Rattle.octet_io.specs.Number.{Octets}
use Rattle.shell_files.specs.declared.fault.ShellFault.{ShellFault}
use Rattle.shell_files.specs.declared.fault.ShellFault.TheVariants.{Table, Keys, Rows, Host, Unreadable, Unwritten, Listen, Memory}
use Rattle.shell_files.specs.Saving.{Save, Saves}
use Rattle.gatt_commands.specs.declared.serve.TheConstants.{TURNS}

-- The host serves at most `TURNS` reads, until the stream ends or a fault occurs.
pub record ServesStream (old new : HostModel) (remaining left before after : Option Octets) : Type 0
  where
    pub ended : Result End HostFault
    pub serves : Serves ended TURNS old new remaining left before after
    pub refines : new.fault ≡ result_err ended

abbrev pub fault_told_of : Option HostFault → Result (Unit {0}) ShellFault
fault_told_of None = Ok tt
fault_told_of (Some fault) = Err (Host (number_of_fault fault))

-- A fault of the host is reported, and otherwise only a failed saving.
abbrev pub IsOutcomeOf : Option HostFault → Result (Unit {0}) ShellFault → Type 0
IsOutcomeOf (Some fault) result = result ≡ Err (Host (number_of_fault fault))
IsOutcomeOf None result = IfErr result (λ fault. fault ≡ Unwritten)

-- The store saved the text on success, and failed on `Unwritten`; after a host fault it did either.
abbrev pub SavesBy : Result (Unit {0}) ShellFault → Octets → Option (List Save) → Option (List Save)
    → Type 0
SavesBy (Ok done) text before after = Saves text true before after
SavesBy (Err Unwritten) text before after = Saves text false before after
SavesBy (Err fault) text before after = (is_done : Bool) × Saves text is_done before after

-- The faults before the host is open.
abbrev pub IsOpeningFault : ShellFault → Type 0
IsOpeningFault (Table number) = Unit {0}
IsOpeningFault (Keys number) = Unit {0}
IsOpeningFault (Rows number) = Unit {0}
IsOpeningFault Unreadable = Unit {0}
IsOpeningFault Memory = Unit {0}
IsOpeningFault _ = ⊥

-- The faults after the host is open.
abbrev pub IsServedFault : ShellFault → Type 0
IsServedFault (Host number) = Unit {0}
IsServedFault Unwritten = Unit {0}
IsServedFault Listen = Unit {0}
IsServedFault _ = ⊥

abbrev pub IsServeFault : ShellFault → Type 0
IsServeFault (Table number) = Unit {0}
IsServeFault (Keys number) = Unit {0}
IsServeFault (Rows number) = Unit {0}
IsServeFault Unreadable = Unit {0}
IsServeFault Memory = Unit {0}
IsServeFault fault = IsServedFault fault
