-- The packets from a controller to a host (Core 5.0, Vol 4 Part A, 2, and Vol 2 Part E, 5.4).
use Rattle.std.specs.Prelude.{ℕ, ◌+◌, ◌*◌, ◌^◌, [], ◌∷◌, ◌++◌, length}
use Rattle.octet_io.specs.Number.{Octets, two_octets}
use Rattle.le_h4.specs.Packet.{Packet, AclPacket, EventPacket}
use Rattle.le_hci.specs.declared.peer.Peer.{Peer}
use Rattle.le_hci.specs.Event.{Reported, DisconnectionComplete, EncryptionChange, CommandComplete, CommandStatus, NumberOfCompletedPackets, ConnectionComplete, LongTermKeyRequest}
use Rattle.le_hci.specs.EventPacket.{event_packet, event_code, fields_of}
use Rattle.sim_controller.specs.Phones.{handle_of_phone}
use Rattle.sim_controller.specs.declared.told.Told.{Told}
use Rattle.sim_controller.specs.declared.told.Told.TheVariants as variant

-- A packet: an event, or data of a connection with their packet boundary flag.
pub data Sent : Type 0 where
  Event : (report : Reported) → Sent
  Data : (handle boundary : ℕ) (octets : Octets) → Sent

-- The interval is 30 milliseconds, the latency none, the timeout 720 milliseconds, the role 1
-- (peripheral), and the clock accuracy 500 parts in a million (this profile's own, by Vol 2 Part E,
-- 7.7.65.1).
abbrev pub connection_sent : ℕ → Peer → Sent
connection_sent phone peer =
    Event (ConnectionComplete 0x00 (handle_of_phone phone) 0x01 peer 24 0 72 0x00)

abbrev pub key_request_sent : ℕ → Octets → ℕ → Sent
key_request_sent phone random_number diversifier =
    Event (LongTermKeyRequest (handle_of_phone phone) random_number diversifier)

-- The status is success, one command is allowed at a time, and the flag is binary 10 at the
-- beginning of a frame, then 01.
abbrev pub sent_of : Told → Sent
sent_of (variant.CommandComplete opcode parameters) =
    Event (CommandComplete 1 opcode parameters.items)
sent_of (variant.CommandStatus opcode) = Event (CommandStatus 0x00 1 opcode)
sent_of (variant.ConnectionComplete phone peer) = connection_sent phone peer
sent_of (variant.DisconnectionComplete phone reason) =
    Event (DisconnectionComplete 0x00 (handle_of_phone phone) reason)
sent_of (variant.EncryptionChange phone enabled) =
    Event (EncryptionChange 0x00 (handle_of_phone phone) enabled)
sent_of (variant.LongTermKeyRequest phone random_number diversifier) =
    key_request_sent phone random_number diversifier
sent_of (variant.CompletedPackets phone packets) =
    Event (NumberOfCompletedPackets
    (record { handle = handle_of_phone phone; packets = packets } ∷ []))
sent_of (variant.Beginning phone octets) = Data (handle_of_phone phone) 2 octets.items
sent_of (variant.Continuation phone octets) = Data (handle_of_phone phone) 1 octets.items

abbrev pub event_octets : ℕ → Octets → Octets
event_octets code parameters = 0x04 ∷ event_packet code parameters

abbrev pub sent_octets : Sent → Octets
sent_octets (Event report) = event_octets (event_code report) (fields_of report)
sent_octets (Data handle boundary octets) =
    0x02 ∷ two_octets (handle + 2 ^ 12 * boundary) ++ two_octets (length octets) ++ octets

abbrev pub sent_packet : Sent → Packet
sent_packet (Event report) = EventPacket (event_packet (event_code report) (fields_of report))
sent_packet (Data handle boundary octets) = AclPacket handle boundary 0 octets
