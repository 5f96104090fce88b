-- The next output: a pending command if the controller accepts one (Core 5.0, Vol 2 Part E, 4.4),
-- else a packet of the first slot that may send one (4.1.1). This profile defines their order.
use Rattle.std.specs.Prelude.{nat_lt, Bool, ◌&&◌, not, is_some, is_none, if◌then◌else◌, List, [], ◌∷◌, Option, Some, None}
use Rattle.std.specs.List.{list_any}
use Rattle.std.specs.Option.{option_and_then, option_map, option_map_or, option_or}
use Rattle.gatt_laws.specs.machine.Controller.{Controller, controller_after}
use Rattle.gatt_laws.specs.machine.State.{command_octets}
use Rattle.host_connections.specs.Commands.{command_due, gives, has_command, slot_packet, slot_without_command, slot_without_packet}
use Rattle.host_connections.specs.SlotState.{SlotState}
use Rattle.le_hci.specs.Command.{Commanded, LeSetAdvertiseEnable}
use Rattle.le_hci.specs.Init.{command_awaited}
use Rattle.octet_io.specs.Number.{Octets}

abbrev pub with_first : {A : Type 0} → (A → Bool) → (A → A) → List A → List A
with_first test change [] = []
with_first test change (x ∷ xs) = if test x then change x ∷ xs else x ∷ with_first test change xs

-- The command of initialisation, unless its answer is awaited.
abbrev pub init_command : Controller → Option Commanded
init_command controller = if controller.awaiting then None else command_awaited controller.init

abbrev pub first_slot_command : List (Option SlotState) → Option Commanded
first_slot_command [] = None
first_slot_command (slot ∷ slots) = option_or (command_due slot) (first_slot_command slots)

-- Advertising is enabled if a slot is free, it is off and was not refused.
abbrev pub has_free_slot : List (Option SlotState) → Bool
has_free_slot slots = list_any (λ slot. is_none slot) slots

abbrev pub enabling_command : Controller → List (Option SlotState) → Option Commanded
enabling_command controller slots =
    if has_free_slot slots && not controller.advertising && not controller.refused
    then Some LeSetAdvertiseEnable else None

-- The next pending command, if the controller accepts one.
abbrev pub command_next : Controller → List (Option SlotState) → Option Commanded
command_next controller slots =
    if nat_lt 0 controller.credit
    then option_or (init_command controller)
    (option_or (first_slot_command slots) (enabling_command controller slots)) else None

-- A packet of the first slot that may send one.
abbrev pub first_slot_packet : List (Option SlotState) → Option Octets
first_slot_packet [] = None
first_slot_packet (slot ∷ slots) =
    if gives slot then option_and_then slot_packet slot else first_slot_packet slots

abbrev pub next_out : Controller → List (Option SlotState) → Option Octets
next_out controller slots =
    option_or (option_map command_octets (command_next controller slots)) (first_slot_packet slots)

-- No command can be sent, and no slot may send a packet.
abbrev pub is_drained : Controller → List (Option SlotState) → Bool
is_drained controller slots = is_none (command_next controller slots) && not (list_any gives slots)

-- The controller and the slots after the next output.
abbrev pub controller_then : Controller → List (Option SlotState) → Controller
controller_then controller slots =
    option_map_or (λ command. controller_after controller (command ∷ []))
    (command_next controller slots) controller

abbrev pub slots_commanded : Controller → List (Option SlotState) → List (Option SlotState)
slots_commanded controller slots =
    if is_some (init_command controller) then slots
    else with_first has_command (option_map slot_without_command) slots

abbrev pub slots_then : Controller → List (Option SlotState) → List (Option SlotState)
slots_then controller slots =
    if is_some (command_next controller slots) then slots_commanded controller slots
    else with_first gives (option_map slot_without_packet) slots
