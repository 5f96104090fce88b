-- The command that each state of initialisation waits for, and the next state (this profile's own).
use Rattle.std.specs.Prelude.{ℕ, ◌+◌, ◌^◌, ◌==◌, if◌then◌else◌, [], ◌∷◌, Option, Some, None, Result, Ok, Err}
use Rattle.std.specs.Option.{option_map}
use Rattle.octet_io.specs.Number.{Octets}
use Rattle.arrayvec.specs.ArrayVec.{ArrayVec}
use Rattle.le_hci.specs.declared.buffers.Buffers.{Buffers}
use Rattle.le_hci.specs.declared.init.Settings.{Settings}
use Rattle.le_hci.specs.declared.init.Init.{Init}
use Rattle.le_hci.specs.declared.init.Init.TheVariants.{Resetting, Masking, LeMasking, Sizing, SharedSizing, Addressing, Describing, Filling, Enabling, Ready}
use Rattle.le_hci.specs.declared.init.InitFault.{InitFault}
use Rattle.le_hci.specs.declared.init.InitFault.TheVariants.{Refused, Short}
use Rattle.le_hci.specs.Buffers.{le_buffers_of, shared_buffers_of}
use Rattle.le_hci.specs.Command.{Commanded, Reset, SetEventMask, ReadBufferSize, LeSetEventMask, LeReadBufferSize, LeSetRandomAddress, LeSetAdvertisingParameters, LeSetAdvertisingData, LeSetAdvertiseEnable, opcode_of}
use Rattle.le_hci.specs.declared.peer.TheConstants.{PUBLIC_ADDRESS, RANDOM_ADDRESS}

-- The default mask, Encryption Key Refresh Complete (bit 47) and LE Meta (bit 61) (Core 5.0, Vol 2
-- Part E, 7.3.1).
abbrev pub event_mask : ℕ
event_mask = 0x00001FFFFFFFFFFF + 2 ^ 47 + 2 ^ 61

-- The default mask of LE Meta subevents (Core 5.0, Vol 2 Part E, 7.8.1).
abbrev pub le_event_mask : ℕ
le_event_mask = 0x1F

abbrev pub command_awaited : Init → Option Commanded
command_awaited (Resetting settings) = Some Reset
command_awaited (Masking settings) = Some (SetEventMask event_mask)
command_awaited (LeMasking settings) = Some (LeSetEventMask le_event_mask)
command_awaited (Sizing settings) = Some LeReadBufferSize
command_awaited (SharedSizing settings) = Some ReadBufferSize
command_awaited (Addressing address advertising buffers) = Some (LeSetRandomAddress address)
command_awaited (Describing own_address_type advertising buffers) =
    Some (LeSetAdvertisingParameters own_address_type)
command_awaited (Filling advertising buffers) = Some (LeSetAdvertisingData advertising.items)
command_awaited (Enabling buffers) = Some LeSetAdvertiseEnable
command_awaited (Ready length packets) = None

abbrev pub opcode_awaited : Init → Option ℕ
opcode_awaited state = option_map opcode_of (command_awaited state)

abbrev pub first_state : Option Octets → ArrayVec ℕ → Init
first_state address advertising =
    Resetting (record { address = address; advertising = advertising })

-- A random address is set before its first use.
abbrev pub addressed_from : Option Octets → ArrayVec ℕ → Buffers → Init
addressed_from None advertising buffers = Describing PUBLIC_ADDRESS advertising buffers
addressed_from (Some address) advertising buffers = Addressing address advertising buffers

abbrev pub with_buffers : Settings → Buffers → Init
with_buffers settings buffers = addressed_from settings.address settings.advertising buffers

abbrev pub after_sizing : Settings → Result (Option Buffers) InitFault → Result Init InitFault
after_sizing settings (Err fault) = Err fault
after_sizing settings (Ok None) = Ok (SharedSizing settings)
after_sizing settings (Ok (Some buffers)) = Ok (with_buffers settings buffers)

abbrev pub after_shared_sizing : Settings → Result Buffers InitFault → Result Init InitFault
after_shared_sizing settings (Err fault) = Err fault
after_shared_sizing settings (Ok buffers) = Ok (with_buffers settings buffers)

-- The state after a successful command, by its return values.
abbrev pub next : Init → Octets → Result Init InitFault
next (Resetting settings) returned = Ok (Masking settings)
next (Masking settings) returned = Ok (LeMasking settings)
next (LeMasking settings) returned = Ok (Sizing settings)
next (Sizing settings) returned = after_sizing settings (le_buffers_of returned)
next (SharedSizing settings) returned = after_shared_sizing settings (shared_buffers_of returned)
next (Addressing address advertising buffers) returned =
    Ok (Describing RANDOM_ADDRESS advertising buffers)
next (Describing own_address_type advertising buffers) returned = Ok (Filling advertising buffers)
next (Filling advertising buffers) returned = Ok (Enabling buffers)
next (Enabling buffers) returned = Ok (Ready buffers.length buffers.packets)
next (Ready length packets) returned = Ok (Ready length packets)

-- The values after the status, which must be 0.
abbrev pub returned_values : ℕ → Octets → Result Octets InitFault
returned_values opcode [] = Err Short
returned_values opcode (status ∷ values) =
    if status == 0 then Ok values else Err (Refused opcode status)

abbrev pub next_by : Init → Result Octets InitFault → Result Init InitFault
next_by state (Ok values) = next state values
next_by state (Err fault) = Err fault

abbrev pub handed_back : Init → Result Init InitFault → Result Init (InitFault × Init)
handed_back state (Ok following) = Ok following
handed_back state (Err fault) = Err (fault, state)

-- The outcome of return parameters.
abbrev pub outcome_by : Option ℕ → Init → Octets → Result Init (InitFault × Init)
outcome_by None state returned = Ok state
outcome_by (Some opcode) state returned =
    handed_back state (next_by state (returned_values opcode returned))

-- (P-WIRE-4)
abbrev pub init_outcome : Init → Octets → Result Init (InitFault × Init)
init_outcome state = outcome_by (opcode_awaited state) state
