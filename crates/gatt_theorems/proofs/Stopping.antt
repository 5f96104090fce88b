-- Data of a connection is taken in.
use Rattle.std.proofs.Common.{refl}
use Rattle.gatt_laws.specs.machine.Packets.{packet_event}
use Rattle.gatt_theorems.specs.Stopping.{TakesAllData}

pub takes_all_data : TakesAllData
unfolding packet_event
takes_all_data state fragments handle boundary broadcast octets = refl
