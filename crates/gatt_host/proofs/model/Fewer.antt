-- Where something goes out, less may go out before more comes from the controller.
use Rattle.std.proofs.Common.{◌≡◌, ℕ, ◌+◌, ◌<◌, Bool, true, false, IfSome, IsSome, List, [], ◌∷◌, Option, Some, None, refl, sym, ap, subst, ◌∙◌, arith}
use Rattle.std.specs.Prelude.{◌==◌, not, nat_lt, is_some, length, take, if◌then◌else◌}
use Rattle.std.specs.Option.{option_and_then, option_map, option_map_or, option_or}
use Rattle.std.proofs.lemmas.Bool.{ltb-true}
use Rattle.gatt_host.proofs.owing.Nexts.{clash}
use Rattle.gatt_host.proofs.model.Ready.{ready_then}
use Rattle.gatt_host.specs.Credits.{all_packets_out, most_out, packets_out}
use Rattle.gatt_host.specs.GoingOut.{first_slot_command, command_next, controller_then, enabling_command, init_command, next_out, first_slot_packet, slots_commanded, slots_then, with_first}
use Rattle.gatt_host.specs.ServerState.{ServerState, after_out, next_packet_out, open_slots}
use Rattle.gatt_laws.specs.machine.Controller.{Controller, controller_after, is_ready}
use Rattle.gatt_laws.specs.machine.State.{command_octets}
use Rattle.host_connections.specs.Commands.{gives, slot_packet, slot_without_command, slot_without_packet, has_command}
use Rattle.host_connections.specs.SlotState.{SlotState}
use Rattle.le_hci.specs.Command.{Commanded}
use Rattle.octet_io.proofs.Choices.{and_true_right}
use Rattle.octet_io.specs.Number.{Octets}

-- a command takes nothing of the share of its slot
same-kept : (slot_state : SlotState) (disconnects : Bool)
    → packets_out (Some (if disconnects then record slot_state { reason = None } else record slot_state { reply = None })) ≡ packets_out (Some slot_state)
same-kept slot_state true = refl
same-kept slot_state false = refl

same-slot : (slot : Option SlotState) → packets_out (option_map slot_without_command slot) ≡ packets_out slot
same-slot None = refl
same-slot (Some slot_state) = same-kept slot_state (is_some slot_state.reason)

commanded-by : (slot : Option SlotState) (slots then_slots : List (Option SlotState)) (test : Bool) → all_packets_out then_slots ≡ all_packets_out slots
    → all_packets_out (if test then option_map slot_without_command slot ∷ slots else slot ∷ then_slots) ≡ all_packets_out (slot ∷ slots)
commanded-by slot slots then_slots true same = ap (λ (count : ℕ). count + all_packets_out slots) (same-slot slot)
commanded-by slot slots then_slots false same = ap (λ (count : ℕ). packets_out slot + count) same

same-commanded : (slots : List (Option SlotState)) → all_packets_out (with_first has_command (option_map slot_without_command) slots) ≡ all_packets_out slots
same-commanded [] = refl
same-commanded (slot ∷ slots) =
    commanded-by slot slots (with_first has_command (option_map slot_without_command) slots) (has_command slot) (same-commanded slots)

commanded-either : (slots : List (Option SlotState)) (init : Bool)
    → all_packets_out (if init then slots else with_first has_command (option_map slot_without_command) slots) ≡ all_packets_out slots
commanded-either slots true = refl
commanded-either slots false = same-commanded slots

fewer-slot : (slot : Option SlotState) → gives slot ≡ true → packets_out (option_map slot_without_packet slot) < packets_out slot
fewer-slot None is = absurd (clash is)
fewer-slot (Some slot_state) is =
    let outgoing = slot_state.outgoing in
    let less = ltb-true outgoing.outstanding outgoing.share (and_true_right (not (length outgoing.queue == 0)) (nat_lt outgoing.outstanding outgoing.share) is)
    in
    omega (arith, less)

fewer-by-slot : (slot : Option SlotState) (slots then_slots : List (Option SlotState)) (found octets : Option Octets) (test : Bool) → gives slot ≡ test
    → (found ≡ octets → all_packets_out then_slots < all_packets_out slots) → (if test then option_and_then slot_packet slot else found) ≡ octets
    → all_packets_out (if test then option_map slot_without_packet slot ∷ slots else slot ∷ then_slots) < all_packets_out (slot ∷ slots)
fewer-by-slot slot slots then_slots found octets true passes fewer is = omega (arith, fewer-slot slot passes)
fewer-by-slot slot slots then_slots found octets false passes fewer is = omega (arith, fewer is)

fewer-packets : (slots : List (Option SlotState)) (octets : Octets) → first_slot_packet slots ≡ Some octets
    → all_packets_out (with_first gives (option_map slot_without_packet) slots) < all_packets_out slots
fewer-packets [] octets is = absurd (clash (ap is_some is))
fewer-packets (slot ∷ slots) octets is =
    fewer-by-slot slot slots (with_first gives (option_map slot_without_packet) slots) (first_slot_packet slots) (Some octets) (gives slot) refl
    (fewer-packets slots octets) is

-- the credit is not 0 where a command goes out
some-credit : (takes : Bool) (found : Option Commanded) (command : Commanded) → (if takes then found else None) ≡ Some command → takes ≡ true
some-credit true found command is = refl
some-credit false found command is = absurd (clash (ap is_some is))

module _ (controller : Controller) (slots : List (Option SlotState)) where
  -- by the command that goes out, if one does
  abbrev Fewer : Option Commanded → Type 0
  Fewer found =
      (option_map_or (λ command. controller_after controller (command ∷ [])) found controller).credit
      + all_packets_out (if is_some found then slots_commanded controller slots else with_first gives (option_map slot_without_packet) slots)
      < controller.credit + all_packets_out slots

  fewer-by : (found : Option Commanded) (octets : Octets) → command_next controller slots ≡ found
      → option_or (option_map command_octets found) (first_slot_packet slots) ≡ Some octets → Fewer found
  fewer-by (Some command) octets next is =
      let takes =
      some-credit (nat_lt 0 controller.credit)
      (option_or (init_command controller) (option_or (first_slot_command slots) (enabling_command controller slots))) command next in
      omega (arith, ltb-true 0 controller.credit takes, commanded-either slots (is_some (init_command controller)))
  fewer-by None octets next is = omega (arith, fewer-packets slots octets is)

  fewer-then : (octets : Octets) → next_out controller slots ≡ Some octets
      → (controller_then controller slots).credit + all_packets_out (slots_then controller slots) < controller.credit + all_packets_out slots
  fewer-then octets is = fewer-by (command_next controller slots) octets refl is

-- no connection has a slot, before the controller is initialised and then
none-then : (controller : Controller) (none : List (Option SlotState)) → none ≡ [] → slots_then controller none ≡ []
none-then controller none is = ap (slots_then controller) is ∙ by-test (is_some (command_next controller [])) (is_some (init_command controller))
  where
    by-test : (commands init : Bool)
        → let empty : List (Option SlotState) = [] in (if commands then (if init then empty else []) else empty) ≡ empty
    by-test true true = refl
    by-test true false = refl
    by-test false init = refl

open-then : (controller : Controller) (slots : List (Option SlotState)) (ready now : Bool) → now ≡ ready
    → (if now then (if ready then slots_then controller slots else slots) else []) ≡ slots_then controller (if ready then slots else [])
open-then controller slots true now is = ap (λ (test : Bool). if test then slots_then controller slots else []) is
open-then controller slots false now is = ap (λ (test : Bool). if test then slots else []) is ∙ sym (none-then controller [] refl)

pub fewer_out : (server : ServerState) (octets : Octets) → next_packet_out server ≡ Some octets → most_out (after_out server) < most_out server
fewer_out server octets is =
    let then_open : open_slots (after_out server) ≡ slots_then server.controller (open_slots server) =
    open-then server.controller server.slots (is_ready server.controller) (is_ready (controller_then server.controller (open_slots server)))
    (ready_then server.controller (open_slots server)) in
    let credit : ℕ = (controller_then server.controller (open_slots server)).credit in
    subst (λ (slots : List (Option SlotState)). credit + all_packets_out slots < most_out server) (sym then_open)
    (fewer-then server.controller (open_slots server) octets is)

-- the same of a packet at the front of a buffer, by its length
pub fewer_into : (server : ServerState) (count : Option ℕ) (out : Octets) → IfSome count (λ count. next_packet_out server ≡ Some (take count out))
    → IsSome count
    → most_out (after_out server) < most_out server
fewer_into server (Some count) out next some = fewer_out server (take count out) next
fewer_into server None out next some = absurd (clash some)
