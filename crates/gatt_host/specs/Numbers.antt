-- The numbers of a host's faults, which this profile defines.
use Rattle.std.specs.Prelude.{ℕ}
use Rattle.gatt_host.specs.declared.host_fault.HostFault.{HostFault}
use Rattle.gatt_host.specs.declared.host_fault.HostFault.TheVariants.{Desync, BadEvent, Init, Hardware, Read, Write, Turns}

abbrev pub number_of_fault : HostFault → ℕ
number_of_fault (Desync indicator) = 1
number_of_fault (BadEvent code) = 2
number_of_fault (Init fault) = 3
number_of_fault (Hardware code) = 4
number_of_fault Read = 5
number_of_fault Write = 6
number_of_fault Turns = 7
