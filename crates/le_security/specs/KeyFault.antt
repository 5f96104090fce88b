-- The numbers of the faults of a key file (this profile's own).
use Rattle.std.specs.Prelude.{ℕ}
use Rattle.le_security.specs.declared.key_fault.KeyFault.{KeyFault}
use Rattle.le_security.specs.declared.key_fault.KeyFault.TheVariants.{NotToml, Missing, BadAddress, BadHex, BadSize, Twice, TooMany, OutOfMemory, Shape, NotZero}

abbrev pub key_fault_number : KeyFault → ℕ
key_fault_number NotToml = 1
key_fault_number Missing = 2
key_fault_number BadAddress = 3
key_fault_number BadHex = 4
key_fault_number BadSize = 5
key_fault_number Twice = 6
key_fault_number TooMany = 7
key_fault_number OutOfMemory = 8
key_fault_number Shape = 9
key_fault_number NotZero = 10
