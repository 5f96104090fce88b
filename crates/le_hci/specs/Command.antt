-- The commands of a host and their octets (Core 5.0, Vol 2 Part E, 5.4.1 and 7).
use Rattle.std.specs.Prelude.{ℕ, ◌+◌, ◌-◌, ◌*◌, [], ◌∷◌, ◌++◌, length, replicate}
use Rattle.std.specs.Int.{to_le_bytes, w64}
use Rattle.le_hci.specs.declared.command.Command.{Command}
use Rattle.le_hci.specs.declared.command.Command.TheVariants as variant
use Rattle.le_hci.specs.declared.command.TheConstants.{MAX_ADVERTISING_DATA}
use Rattle.octet_io.specs.Number.{Octets, two_octets}

pub data Commanded : Type 0 where
  Reset : Commanded
  SetEventMask : (mask : ℕ) → Commanded
  ReadBufferSize : Commanded
  Disconnect : (handle reason : ℕ) → Commanded
  LeSetEventMask : (mask : ℕ) → Commanded
  LeReadBufferSize : Commanded
  LeSetRandomAddress : (address : Octets) → Commanded
  LeSetAdvertisingParameters : (own_address_type : ℕ) → Commanded
  LeSetAdvertisingData : (advertising : Octets) → Commanded
  LeSetAdvertiseEnable : Commanded
  LeLongTermKeyRequestReply : (handle : ℕ) (key : Octets) → Commanded
  LeLongTermKeyRequestNegativeReply : (handle : ℕ) → Commanded

abbrev pub command_of : Command → Commanded
command_of variant.Reset = Reset
command_of (variant.SetEventMask mask) = SetEventMask mask
command_of variant.ReadBufferSize = ReadBufferSize
command_of (variant.Disconnect handle reason) = Disconnect handle reason
command_of (variant.LeSetEventMask mask) = LeSetEventMask mask
command_of variant.LeReadBufferSize = LeReadBufferSize
command_of (variant.LeSetRandomAddress address) = LeSetRandomAddress address
command_of (variant.LeSetAdvertisingParameters own_address_type) =
    LeSetAdvertisingParameters own_address_type
command_of (variant.LeSetAdvertisingData advertising) = LeSetAdvertisingData advertising.now.items
command_of variant.LeSetAdvertiseEnable = LeSetAdvertiseEnable
command_of (variant.LeLongTermKeyRequestReply handle key) = LeLongTermKeyRequestReply handle key
command_of (variant.LeLongTermKeyRequestNegativeReply handle) =
    LeLongTermKeyRequestNegativeReply handle

-- An opcode has the group (OGF) in the upper 6 bits and the command (OCF) in the lower 10.
abbrev pub opcode : ℕ → ℕ → ℕ
opcode group command = 1024 * group + command

abbrev pub opcode_of : Commanded → ℕ
opcode_of Reset = opcode 0x03 0x0003
opcode_of (SetEventMask mask) = opcode 0x03 0x0001
opcode_of ReadBufferSize = opcode 0x04 0x0005
opcode_of (Disconnect handle reason) = opcode 0x01 0x0006
opcode_of (LeSetEventMask mask) = opcode 0x08 0x0001
opcode_of LeReadBufferSize = opcode 0x08 0x0002
opcode_of (LeSetRandomAddress address) = opcode 0x08 0x0005
opcode_of (LeSetAdvertisingParameters own_address_type) = opcode 0x08 0x0006
opcode_of (LeSetAdvertisingData advertising) = opcode 0x08 0x0008
opcode_of LeSetAdvertiseEnable = opcode 0x08 0x000A
opcode_of (LeLongTermKeyRequestReply handle key) = opcode 0x08 0x001A
opcode_of (LeLongTermKeyRequestNegativeReply handle) = opcode 0x08 0x001B

-- Advertising is connectable, scannable and undirected, every 100 milliseconds, from the own
-- address type, with no peer, all three channels and no filter (7.8.5).
abbrev pub advertising_parameters : ℕ → Octets
advertising_parameters own_address_type =
    two_octets 160 ++ two_octets 160 ++ 0x00 ∷ own_address_type ∷ 0x00 ∷ replicate 6 0x00 ++ 0x07
    ∷ 0x00 ∷ []

-- The length, and the data padded to `MAX_ADVERTISING_DATA` octets (7.8.7).
abbrev pub advertising_data : Octets → Octets
advertising_data advertising =
    length advertising ∷ advertising ++ replicate (MAX_ADVERTISING_DATA - length advertising) 0x00

-- The handle and the key (7.8.25).
abbrev pub key_reply : ℕ → Octets → Octets
key_reply handle key = two_octets handle ++ key

abbrev pub parameters_of : Commanded → Octets
parameters_of Reset = []
parameters_of (SetEventMask mask) = to_le_bytes w64 mask
parameters_of ReadBufferSize = []
parameters_of (Disconnect handle reason) = two_octets handle ++ reason ∷ []
parameters_of (LeSetEventMask mask) = to_le_bytes w64 mask
parameters_of LeReadBufferSize = []
parameters_of (LeSetRandomAddress address) = address
parameters_of (LeSetAdvertisingParameters own_address_type) =
    advertising_parameters own_address_type
parameters_of (LeSetAdvertisingData advertising) = advertising_data advertising
parameters_of LeSetAdvertiseEnable = 0x01 ∷ []
parameters_of (LeLongTermKeyRequestReply handle key) = key_reply handle key
parameters_of (LeLongTermKeyRequestNegativeReply handle) = two_octets handle

-- A command packet: opcode, length of the parameters, parameters.
abbrev pub command_packet : ℕ → Octets → Octets
command_packet code parameters = two_octets code ++ length parameters ∷ parameters

abbrev pub packet_of : Commanded → Octets
packet_of command = command_packet (opcode_of command) (parameters_of command)
