-- The pending command of a slot's connection, and its next packet (Core 5.0, Vol 2 Part E, 4.1.1
-- and 4.4).
use Rattle.std.specs.Prelude.{Bool, false, is_some, if◌then◌else◌, Option, Some, None}
use Rattle.std.specs.Option.{option_map, option_map_or}
use Rattle.gatt_laws.specs.machine.Controller.{disconnect_or, reply_due}
use Rattle.host_connections.specs.SlotState.{SlotState}
use Rattle.le_acl.specs.Outgoing.{acl_octets, after_next, may_give, next_of}
use Rattle.le_hci.specs.Command.{Commanded}
use Rattle.octet_io.specs.Number.{Octets}

-- A Disconnect, else the reply to the request for the key.
abbrev pub command_due : Option SlotState → Option Commanded
command_due None = None
command_due (Some slot_state) =
    disconnect_or slot_state.handle slot_state.reason (reply_due slot_state.handle slot_state.reply)

abbrev pub has_command : Option SlotState → Bool
has_command slot = is_some (command_due slot)

abbrev pub slot_without_command : SlotState → SlotState
slot_without_command slot_state =
    if is_some slot_state.reason then record slot_state { reason = None }
    else record slot_state { reply = None }

abbrev pub gives : Option SlotState → Bool
gives slot = option_map_or (λ (slot_state : SlotState). may_give slot_state.outgoing) slot false

abbrev pub slot_packet : SlotState → Option Octets
slot_packet slot_state =
    option_map (acl_octets slot_state.handle) (next_of slot_state.outgoing.queue)

abbrev pub slot_without_packet : SlotState → SlotState
slot_without_packet slot_state = record slot_state { outgoing = after_next slot_state.outgoing }
