-- The packets of a host (Core 5.0, Vol 4 Part A, 2, and Vol 2 Part E, 5.4).
use Rattle.std.specs.Prelude.{ℕ, ◌/◌, ◌%◌, ◌^◌, ◌==◌, if◌then◌else◌, Bool, [], ◌∷◌, length, Option, Some, None}
use Rattle.std.specs.Option.{option_map}
use Rattle.octet_io.specs.Number.{Octets, from_two}
use Rattle.le_acl.specs.Fragment.{Fragment, Beginning, Continuation}
use Rattle.sim_controller.specs.declared.command.Asked.{Asked}
use Rattle.sim_controller.specs.declared.command.Asked.TheVariants.{Status, ReadBufferSize, LeReadBufferSize, Advertise, Disconnect, GiveKey, RefuseKey}
use Rattle.sim_controller.specs.declared.command.HostPacket.{HostPacket}
use Rattle.sim_controller.specs.declared.command.HostPacket.TheVariants as variant
use Rattle.le_hci.specs.declared.opcode.TheConstants as opcode

pub data Taken : Type 0 where
  Command : (asked : Asked) → Taken
  Data : (handle : ℕ) (fragment : Fragment) → Taken

abbrev pub fragment_that : Bool → Octets → Fragment
fragment_that begins octets = if begins then Beginning octets else Continuation octets

abbrev pub taken_of : HostPacket → Taken
taken_of (variant.Command asked) = Command asked
taken_of (variant.Data handle begins octets) = Data handle (fragment_that begins octets.now)

-- Parameters have exactly the octets of the command's fields.
abbrev pub status_if : Bool → ℕ → Option Asked
status_if fits code = if fits then Some (Status code) else None

abbrev pub alone : Asked → Octets → Option Asked
alone asked [] = Some asked
alone asked _ = None

-- 01 enables, and 00 disables (Vol 2 Part E, 7.8.9).
abbrev pub advertise_by : Octets → Option Asked
advertise_by (enable ∷ []) = Some (Advertise (enable == 1))
advertise_by _ = None

abbrev pub disconnect_by : Octets → Option Asked
disconnect_by (low ∷ high ∷ reason ∷ []) = Some (Disconnect (from_two low high) reason)
disconnect_by _ = None

abbrev pub give_key_by : Octets → Option Asked
give_key_by (low ∷ high ∷ key) =
    if length key == 16 then Some (GiveKey (from_two low high)) else None
give_key_by _ = None

abbrev pub refuse_key_by : Octets → Option Asked
refuse_key_by (low ∷ high ∷ []) = Some (RefuseKey (from_two low high))
refuse_key_by _ = None

abbrev pub asked_by_parameters : ℕ → Octets → Option Asked
asked_by_parameters code parameters =
    if code == opcode.READ_BUFFER_SIZE then alone ReadBufferSize parameters
    else if code == opcode.LE_READ_BUFFER_SIZE then alone LeReadBufferSize parameters
    else if code == opcode.LE_SET_ADVERTISE_ENABLE then advertise_by parameters
    else if code == opcode.DISCONNECT then disconnect_by parameters
    else if code == opcode.LE_LONG_TERM_KEY_REQUEST_REPLY then give_key_by parameters
    else if code == opcode.LE_LONG_TERM_KEY_REQUEST_NEGATIVE_REPLY then refuse_key_by parameters
    else None

-- The controller knows twelve commands.
unfoldable pub asked_by_command : ℕ → Octets → Option Asked
asked_by_command code parameters =
    if code == opcode.RESET then status_if (length parameters == 0) code
    else if code == opcode.SET_EVENT_MASK then status_if (length parameters == 8) code
    else if code == opcode.LE_SET_EVENT_MASK then status_if (length parameters == 8) code
    else if code == opcode.LE_SET_RANDOM_ADDRESS then status_if (length parameters == 6) code
    else if code == opcode.LE_SET_ADVERTISING_PARAMETERS
    then status_if (length parameters == 15) code
    else if code == opcode.LE_SET_ADVERTISING_DATA then status_if (length parameters == 32) code
    else asked_by_parameters code parameters

abbrev pub command_in : Octets → Option Asked
command_in (low ∷ high ∷ size ∷ parameters) =
    if length parameters == size then asked_by_command (from_two low high) parameters else None
command_in _ = None

-- The upper four bits are the boundary and broadcast flags: 00 begins a frame, 01 continues one,
-- and no broadcast is accepted.
abbrev pub data_by : ℕ → Octets → Option Taken
data_by field octets =
    if field / 2 ^ 12 == 0 then Some (Data (field % 2 ^ 12) (Beginning octets))
    else if field / 2 ^ 12 == 1 then Some (Data (field % 2 ^ 12) (Continuation octets))
    else None

abbrev pub data_in : Octets → Option Taken
data_in (low ∷ high ∷ size_low ∷ size_high ∷ octets) =
    if length octets == from_two size_low size_high then data_by (from_two low high) octets
    else None
data_in _ = None

abbrev pub host_packet_of : Octets → Option Taken
host_packet_of [] = None
host_packet_of (indicator ∷ octets) =
    if indicator == 0x01 then option_map Command (command_in octets)
    else if indicator == 0x02 then data_in octets
    else None
