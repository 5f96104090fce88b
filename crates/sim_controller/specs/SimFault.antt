-- The numbers of the faults of a simulated controller (this profile's own).
use Rattle.std.specs.Prelude.{ℕ}
use Rattle.sim_controller.specs.declared.fault.SimFault.{SimFault}
use Rattle.sim_controller.specs.declared.fault.SimFault.TheVariants.{NotHere, AlreadyHere, NotAdvertising, Full, BadPacket, OutOfMemory}

abbrev pub sim_fault_number : SimFault → ℕ
sim_fault_number NotHere = 1
sim_fault_number AlreadyHere = 2
sim_fault_number NotAdvertising = 3
sim_fault_number Full = 4
sim_fault_number BadPacket = 5
sim_fault_number OutOfMemory = 6
