-- Where no command is due, none comes of a packet that goes out.
use Rattle.std.proofs.Common.{◌≡◌, Bool, true, false, List, [], ◌∷◌, Option, Some, None, refl, ap, ◌∙◌}
use Rattle.std.specs.Prelude.{nat_lt, ◌&&◌, ◌||◌, not, is_none, if◌then◌else◌}
use Rattle.std.specs.Option.{option_map, option_or}
use Rattle.gatt_host.specs.GoingOut.{command_next, first_slot_command, has_free_slot, init_command, with_first}
use Rattle.gatt_host.specs.ServerState.{ServerState, OwesPacketsAlone}
use Rattle.gatt_laws.specs.machine.Controller.{Controller}
use Rattle.host_connections.specs.Commands.{command_due, gives, slot_without_packet}
use Rattle.host_connections.specs.SlotState.{SlotState}
use Rattle.le_hci.specs.Command.{Commanded, LeSetAdvertiseEnable}

abbrev without-first : List (Option SlotState) → List (Option SlotState)
without-first slots = with_first gives (option_map slot_without_packet) slots

same-command : (slot : Option SlotState) → command_due (option_map slot_without_packet slot) ≡ command_due slot
same-command None = refl
same-command (Some slot_state) = refl

same-free : (slot : Option SlotState) → is_none (option_map slot_without_packet slot) ≡ is_none slot
same-free None = refl
same-free (Some slot_state) = refl

commands-stay : (slots : List (Option SlotState)) → first_slot_command (without-first slots) ≡ first_slot_command slots
commands-stay [] = refl
commands-stay (slot ∷ slots) =
    elim (gives slot) as (λ (is : Bool). first_slot_command (if is then option_map slot_without_packet slot ∷ slots else slot ∷ without-first slots)
    ≡ first_slot_command (slot ∷ slots)) [
      | true ↦ ap (λ (due : Option Commanded). option_or due (first_slot_command slots)) (same-command slot)
      | false ↦ ap (option_or (command_due slot)) (commands-stay slots)
    ]

free-stays : (slots : List (Option SlotState)) → has_free_slot (without-first slots) ≡ has_free_slot slots
free-stays [] = refl
free-stays (slot ∷ slots) =
    elim (gives slot) as (λ (is : Bool). has_free_slot (if is then option_map slot_without_packet slot ∷ slots else slot ∷ without-first slots)
    ≡ has_free_slot (slot ∷ slots)) [
      | true ↦ ap (λ (free : Bool). free || has_free_slot slots) (same-free slot)
      | false ↦ ap (λ (free : Bool). is_none slot || free) (free-stays slots)
    ]

none-comes : (controller : Controller) (slots : List (Option SlotState)) → command_next controller (without-first slots) ≡ command_next controller slots
none-comes controller slots = λ i.
    if nat_lt 0 controller.credit
    then option_or (init_command controller) (option_or (commands-stay slots i)
    (if free-stays slots i && not controller.advertising && not controller.refused then Some LeSetAdvertiseEnable else None))
    else None

pub alone_still : (server : ServerState) → OwesPacketsAlone server
    → OwesPacketsAlone (record server { slots = with_first gives (option_map slot_without_packet) server.slots })
alone_still server alone = record { ready = alone.ready; commands = none-comes server.controller server.slots ∙ alone.commands }
