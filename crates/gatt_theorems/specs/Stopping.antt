-- No client stops the host: it accepts any data of a connection.
use Rattle.std.specs.Prelude.{◌≡◌, ℕ, Ok}
use Rattle.gatt_laws.specs.machine.Context.{serving}
use Rattle.gatt_laws.specs.machine.Packets.{Fragments, data_event, recombinations_of, packet_event}
use Rattle.gatt_laws.specs.machine.State.{State}
use Rattle.le_acl.specs.Fragment.{fragment_of}
use Rattle.le_h4.specs.Packet.{AclPacket}
use Rattle.octet_io.specs.Number.{Octets}

abbrev pub TakesAllData : Type 0
TakesAllData =
    (state : State) (fragments : Fragments) (handle boundary broadcast : ℕ) (octets : Octets) →
    let packet = AclPacket handle boundary broadcast octets in
    packet_event state fragments packet
    ≡ Ok (data_event (recombinations_of fragments) (serving state handle)
    (fragment_of boundary broadcast octets))
