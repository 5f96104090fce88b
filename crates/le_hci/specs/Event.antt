-- The events of a controller, read from octets (Core 5.0, Vol 2 Part E, 5.4.4 and 7.7).
use Rattle.std.specs.Prelude.{ℕ, zero, suc, ◌%◌, ◌==◌, nat_le, if◌then◌else◌, List, [], ◌∷◌, length, take, drop, map, Option, Some, None, Result, Ok, Err}
use Rattle.std.specs.Option.{option_map, option_and_then}
use Rattle.le_hci.specs.declared.peer.Peer.{Peer}
use Rattle.le_hci.specs.declared.event.CompletedPackets.{CompletedPackets}
use Rattle.le_hci.specs.declared.event.BadEvent.{BadEvent}
use Rattle.le_hci.specs.declared.event.Event.{Event}
use Rattle.le_hci.specs.declared.event.Event.TheVariants as variant
use Rattle.octet_io.specs.Number.{Octets, from_two}
use Rattle.le_hci.specs.declared.event_code.TheConstants.{DISCONNECTION_COMPLETE, ENCRYPTION_CHANGE, COMMAND_COMPLETE, COMMAND_STATUS, HARDWARE_ERROR, NUMBER_OF_COMPLETED_PACKETS, ENCRYPTION_KEY_REFRESH_COMPLETE, LE_META, LE_CONNECTION_COMPLETE, LE_LONG_TERM_KEY_REQUEST}

pub data Reported : Type 0 where
  DisconnectionComplete : (status handle reason : ℕ) → Reported
  EncryptionChange : (status handle enabled : ℕ) → Reported
  CommandComplete : (allowed opcode : ℕ) (parameters : Octets) → Reported
  CommandStatus : (status allowed opcode : ℕ) → Reported
  HardwareError : (code : ℕ) → Reported
  NumberOfCompletedPackets : (entries : List CompletedPackets) → Reported
  EncryptionKeyRefreshComplete : (status handle : ℕ) → Reported
  ConnectionComplete : (status handle role : ℕ) (peer : Peer)
      (interval latency timeout clock_accuracy : ℕ) → Reported
  LongTermKeyRequest : (handle : ℕ) (random_number : Octets) (diversifier : ℕ) → Reported
  Other : Reported

-- The handle in two octets, without the upper four bits (this profile's own). (P-WIRE-2)
abbrev pub handle_of : ℕ → ℕ → ℕ
handle_of low high = from_two low high % 4096

-- An entry of Number Of Completed Packets (7.7.19).
abbrev pub completed_packets_of : Octets → CompletedPackets
completed_packets_of (handle_low ∷ handle_high ∷ packets_low ∷ packets_high ∷ []) =
    record {
      handle = handle_of handle_low handle_high;
      packets = from_two packets_low packets_high;
    }
completed_packets_of _ = record { handle = 0; packets = 0 }

abbrev pub report_of : Event → Reported
report_of (variant.DisconnectionComplete status handle reason) =
    DisconnectionComplete status handle reason
report_of (variant.EncryptionChange status handle enabled) = EncryptionChange status handle enabled
report_of (variant.CommandComplete allowed opcode parameters) =
    CommandComplete allowed opcode parameters.now
report_of (variant.CommandStatus status allowed opcode) = CommandStatus status allowed opcode
report_of (variant.HardwareError code) = HardwareError code
report_of (variant.NumberOfCompletedPackets entries) =
    NumberOfCompletedPackets (map completed_packets_of entries.now)
report_of (variant.EncryptionKeyRefreshComplete status handle) =
    EncryptionKeyRefreshComplete status handle
report_of
    (variant.ConnectionComplete status handle role peer interval latency timeout clock_accuracy) =
    ConnectionComplete status handle role peer interval latency timeout clock_accuracy
report_of (variant.LongTermKeyRequest handle random_number diversifier) =
    LongTermKeyRequest handle random_number diversifier
report_of variant.Other = Other

-- The parameters of events: none if octets are missing; octets after the fields are ignored.
abbrev pub disconnection_complete : Octets → Option Reported
disconnection_complete (status ∷ low ∷ high ∷ reason ∷ _) =
    Some (DisconnectionComplete status (handle_of low high) reason)
disconnection_complete _ = None

abbrev pub encryption_change : Octets → Option Reported
encryption_change (status ∷ low ∷ high ∷ enabled ∷ _) =
    Some (EncryptionChange status (handle_of low high) enabled)
encryption_change _ = None

abbrev pub command_complete : Octets → Option Reported
command_complete (allowed ∷ low ∷ high ∷ parameters) =
    Some (CommandComplete allowed (from_two low high) parameters)
command_complete _ = None

abbrev pub command_status : Octets → Option Reported
command_status (status ∷ allowed ∷ low ∷ high ∷ _) =
    Some (CommandStatus status allowed (from_two low high))
command_status _ = None

abbrev pub hardware_error : Octets → Option Reported
hardware_error (code ∷ _) = Some (HardwareError code)
hardware_error _ = None

abbrev pub completed_entries : ℕ → Octets → Option (List CompletedPackets)
completed_entries zero _ = Some []
completed_entries (suc n) (handle_low ∷ handle_high ∷ packets_low ∷ packets_high ∷ rest) =
    option_map
    (λ entries. completed_packets_of (handle_low ∷ handle_high ∷ packets_low ∷ packets_high ∷ [])
    ∷ entries)
    (completed_entries n rest)
completed_entries (suc n) _ = None

abbrev pub number_of_completed_packets : Octets → Option Reported
number_of_completed_packets (count ∷ rest) =
    option_map NumberOfCompletedPackets (completed_entries count rest)
number_of_completed_packets _ = None

abbrev pub encryption_key_refresh_complete : Octets → Option Reported
encryption_key_refresh_complete (status ∷ low ∷ high ∷ _) =
    Some (EncryptionKeyRefreshComplete status (handle_of low high))
encryption_key_refresh_complete _ = None

-- Fields of these sizes in order, or none if octets are missing.
abbrev pub fields : List ℕ → Octets → Option (List Octets)
fields [] octets = Some []
fields (size ∷ sizes) octets =
    if nat_le size (length octets)
    then option_map (λ others. take size octets ∷ others) (fields sizes (drop size octets))
    else None

abbrev pub number_in : Octets → ℕ
number_in [] = 0
number_in (octet ∷ []) = octet
number_in (low ∷ high ∷ _) = from_two low high

abbrev pub handle_in : Octets → ℕ
handle_in field = number_in field % 4096

abbrev pub connection_complete_of : List Octets → Option Reported
connection_complete_of
    (status ∷ handle ∷ role ∷ kind ∷ address ∷ interval ∷ latency ∷ timeout ∷ clock_accuracy ∷ []) =
    let peer : Peer = record { kind = number_in kind; address = address } in
    Some (ConnectionComplete (number_in status) (handle_in handle) (number_in role) peer
    (number_in interval) (number_in latency) (number_in timeout) (number_in clock_accuracy))
connection_complete_of _ = None

abbrev pub connection_complete : Octets → Option Reported
connection_complete octets =
    option_and_then connection_complete_of (fields (1 ∷ 2 ∷ 1 ∷ 1 ∷ 6 ∷ 2 ∷ 2 ∷ 2 ∷ 1 ∷ []) octets)

abbrev pub key_request_of : List Octets → Option Reported
key_request_of (handle ∷ random_number ∷ diversifier ∷ []) =
    Some (LongTermKeyRequest (handle_in handle) random_number (number_in diversifier))
key_request_of _ = None

abbrev pub long_term_key_request : Octets → Option Reported
long_term_key_request octets = option_and_then key_request_of (fields (2 ∷ 8 ∷ 2 ∷ []) octets)

-- The event by its code; unknown events may have any parameters. (P-WIRE-3)
abbrev pub subevent_form : ℕ → Octets → Option Reported
subevent_form code parameters =
    if code == LE_CONNECTION_COMPLETE then connection_complete parameters
    else if code == LE_LONG_TERM_KEY_REQUEST then long_term_key_request parameters
    else Some Other

abbrev pub le_meta_form : Octets → Option Reported
le_meta_form (code ∷ parameters) = subevent_form code parameters
le_meta_form [] = None

-- (P-WIRE-3)
abbrev pub reported_form : ℕ → Octets → Option Reported
reported_form code parameters =
    if code == DISCONNECTION_COMPLETE then disconnection_complete parameters
    else if code == ENCRYPTION_CHANGE then encryption_change parameters
    else if code == COMMAND_COMPLETE then command_complete parameters
    else if code == COMMAND_STATUS then command_status parameters
    else if code == HARDWARE_ERROR then hardware_error parameters
    else if code == NUMBER_OF_COMPLETED_PACKETS then number_of_completed_packets parameters
    else if code == ENCRYPTION_KEY_REFRESH_COMPLETE then encryption_key_refresh_complete parameters
    else if code == LE_META then le_meta_form parameters
    else Some Other

-- The event in an event packet, or the code of a bad event.
abbrev pub read_or_bad : ℕ → Option Reported → Result Reported BadEvent
read_or_bad code None = Err (record { 0 = code })
read_or_bad code (Some event) = Ok event

-- (P-WIRE-2)
abbrev pub event_of : Octets → Result Reported BadEvent
event_of [] = Err (record { 0 = 0 })
event_of (code ∷ []) = Err (record { 0 = code })
event_of (code ∷ stated ∷ parameters) =
    read_or_bad code (if length parameters == stated then reported_form code parameters else None)
