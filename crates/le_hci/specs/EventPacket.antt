-- The octets of events (Core 5.0, Vol 2 Part E, 5.4.4 and 7.7).
use Rattle.std.specs.Prelude.{◌≡◌, ◌≢◌, ℕ, ◌%◌, [], ◌∷◌, ◌++◌, length, map, ⊤}
use Rattle.std.specs.List.{flat_map}
use Rattle.le_hci.specs.declared.event.CompletedPackets.{CompletedPackets}
use Rattle.le_hci.specs.Event.{Reported, DisconnectionComplete, EncryptionChange, CommandComplete, CommandStatus, HardwareError, NumberOfCompletedPackets, EncryptionKeyRefreshComplete, ConnectionComplete, LongTermKeyRequest, Other}
use Rattle.octet_io.specs.Number.{Octets, two_octets}
use Rattle.le_hci.specs.declared.event_code.TheConstants.{DISCONNECTION_COMPLETE, ENCRYPTION_CHANGE, COMMAND_COMPLETE, COMMAND_STATUS, HARDWARE_ERROR, NUMBER_OF_COMPLETED_PACKETS, ENCRYPTION_KEY_REFRESH_COMPLETE, LE_META, LE_CONNECTION_COMPLETE, LE_LONG_TERM_KEY_REQUEST}

-- An event packet: code, length of the parameters, parameters.
abbrev pub event_packet : ℕ → Octets → Octets
event_packet code parameters = code ∷ length parameters ∷ parameters

-- The code of an event; the last two are LE Meta subevents.
abbrev pub event_code : Reported → ℕ
event_code (DisconnectionComplete status handle reason) = DISCONNECTION_COMPLETE
event_code (EncryptionChange status handle enabled) = ENCRYPTION_CHANGE
event_code (CommandComplete allowed opcode parameters) = COMMAND_COMPLETE
event_code (CommandStatus status allowed opcode) = COMMAND_STATUS
event_code (HardwareError code) = HARDWARE_ERROR
event_code (NumberOfCompletedPackets entries) = NUMBER_OF_COMPLETED_PACKETS
event_code (EncryptionKeyRefreshComplete status handle) = ENCRYPTION_KEY_REFRESH_COMPLETE
event_code (ConnectionComplete status handle role peer interval latency timeout clock_accuracy) =
    LE_META
event_code (LongTermKeyRequest handle random_number diversifier) = LE_META
event_code Other = 0x00

abbrev pub entry_fields : CompletedPackets → Octets
entry_fields entry = two_octets entry.handle ++ two_octets entry.packets

abbrev pub fields_of : Reported → Octets
fields_of (DisconnectionComplete status handle reason) = status ∷ two_octets handle ++ reason ∷ []
fields_of (EncryptionChange status handle enabled) = status ∷ two_octets handle ++ enabled ∷ []
fields_of (CommandComplete allowed opcode parameters) = allowed ∷ two_octets opcode ++ parameters
fields_of (CommandStatus status allowed opcode) = status ∷ allowed ∷ two_octets opcode
fields_of (HardwareError code) = code ∷ []
fields_of (NumberOfCompletedPackets entries) = length entries ∷ flat_map entry_fields entries
fields_of (EncryptionKeyRefreshComplete status handle) = status ∷ two_octets handle
fields_of (ConnectionComplete status handle role peer interval latency timeout clock_accuracy) =
    LE_CONNECTION_COMPLETE ∷ status ∷ two_octets handle ++ role ∷ peer.kind ∷ peer.address
    ++ two_octets interval ++ two_octets latency ++ two_octets timeout ++ clock_accuracy ∷ []
fields_of (LongTermKeyRequest handle random_number diversifier) =
    LE_LONG_TERM_KEY_REQUEST ∷ two_octets handle ++ random_number ++ two_octets diversifier
fields_of Other = []

-- Addresses have 6 octets and random numbers 8, return parameters leave no extra octets, and
-- `Other` has no fields.
abbrev pub HasFields : Reported → Octets → Type 0
HasFields (CommandComplete allowed opcode parameters) extra = extra ≡ []
HasFields (ConnectionComplete status handle role peer interval latency timeout clock_accuracy)
    extra = length peer.address ≡ 6
HasFields (LongTermKeyRequest handle random_number diversifier) extra = length random_number ≡ 8
HasFields Other extra = ⊥
HasFields _ extra = ⊤

-- The event without the upper four bits of its handles, which are ignored.
abbrev pub entry_told : CompletedPackets → CompletedPackets
entry_told entry = record { handle = entry.handle % 4096; packets = entry.packets }

abbrev pub report_read : Reported → Reported
report_read (DisconnectionComplete status handle reason) =
    DisconnectionComplete status (handle % 4096) reason
report_read (EncryptionChange status handle enabled) =
    EncryptionChange status (handle % 4096) enabled
report_read (CommandComplete allowed opcode parameters) = CommandComplete allowed opcode parameters
report_read (CommandStatus status allowed opcode) = CommandStatus status allowed opcode
report_read (HardwareError code) = HardwareError code
report_read (NumberOfCompletedPackets entries) = NumberOfCompletedPackets (map entry_told entries)
report_read (EncryptionKeyRefreshComplete status handle) =
    EncryptionKeyRefreshComplete status (handle % 4096)
report_read (ConnectionComplete status handle role peer interval latency timeout clock_accuracy) =
    ConnectionComplete status (handle % 4096) role peer interval latency timeout clock_accuracy
report_read (LongTermKeyRequest handle random_number diversifier) =
    LongTermKeyRequest (handle % 4096) random_number diversifier
report_read Other = Other

-- The octets are those of an event that is read as this one, with extra octets.
pub record IsSentAs (event : Reported) (octets : Octets) : Type 0 where
  pub sent : Reported
  pub extra : Octets
  pub spelled : octets ≡ event_packet (event_code sent) (fields_of sent ++ extra)
  pub same : report_read sent ≡ event

-- Each event that is read, except `Other`, was sent as these octets.
abbrev pub IsRead : Reported → Octets → Type 0
IsRead event octets = event ≢ Other → IsSentAs event octets
