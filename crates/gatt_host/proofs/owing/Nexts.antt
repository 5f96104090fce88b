-- What goes out next, by what is due.
use Rattle.std.proofs.Common.{◌≡◌, ℕ, Bool, true, false, List, [], ◌∷◌, Option, Some, None, refl, sym, ap, ◌∙◌}
use Rattle.std.specs.Prelude.{nat_lt, ◌&&◌, not, is_some, if◌then◌else◌}
use Rattle.std.specs.Bool.{OnFalse}
use Rattle.std.specs.Option.{option_map, option_map_or, option_or}
use Rattle.std.proofs.lemmas.Bool.{OnFalse_at}
use Rattle.gatt_laws.specs.machine.Controller.{Controller, controller_after}
use Rattle.gatt_host.specs.GoingOut.{init_command, first_slot_command, has_free_slot, enabling_command, command_next, controller_then, next_out, first_slot_packet, slots_commanded, with_first}
use Rattle.gatt_laws.specs.machine.State.{command_octets}
use Rattle.host_connections.specs.Commands.{has_command, slot_without_command}
use Rattle.host_connections.specs.SlotState.{SlotState}
use Rattle.le_hci.specs.Command.{Commanded, LeSetAdvertiseEnable, opcode_of}

pub is_none_where : {A : Type 0} (found : Option A) → is_some found ≡ false → found ≡ None
is_none_where None lacks = refl
is_none_where (Some x) lacks = cc lacks

-- what is there
pub record There {A : Type 0} (found : Option A) : Type 0 where
  pub x : A
  pub is : found ≡ Some x

pub clash : false ≡ true → ⊥
clash e = cc e

pub there_where : {A : Type 0} (found : Option A) → is_some found ≡ true → There found
there_where (Some x) has = record { x = x; is = refl }
there_where None has = absurd (clash has)

pub some_of : {A : Type 0} (x y : A) → Some x ≡ Some y → x ≡ y
some_of x y e = cc e

-- a command with this opcode is there
pub record ThereWith (found : Option Commanded) (opcode : ℕ) : Type 0 where
  pub x : Commanded
  pub is : found ≡ Some x
  pub opcode_is : opcode ≡ opcode_of x

pub there_with : (found : Option Commanded) (opcode : ℕ) → Some opcode ≡ option_map opcode_of found → ThereWith found opcode
there_with (Some x) opcode is = record { x = x; is = refl; opcode_is = some_of opcode (opcode_of x) is }
there_with None opcode is = absurd (clash (sym (ap is_some is)))

pub none_with : (found : Option Commanded) → None ≡ option_map opcode_of found → found ≡ None
none_with (Some x) is = absurd (clash (ap is_some is))
none_with None is = refl

module _ (controller : Controller) (slots : List (Option SlotState)) where
  abbrev Is : Option Commanded → Type 0
  Is found = command_next controller slots ≡ found

  pub takes_none : nat_lt 0 controller.credit ≡ false → Is None
  takes_none takes = λ i. if takes i then option_or (init_command controller) (option_or (first_slot_command slots) (enabling_command controller slots))
      else None

  pub takes_init : (command : Commanded) → nat_lt 0 controller.credit ≡ true → init_command controller ≡ Some command → Is (Some command)
  takes_init command takes init = λ i. if takes i then option_or (init i) (option_or (first_slot_command slots) (enabling_command controller slots)) else None

  pub takes_slot : (command : Commanded) → nat_lt 0 controller.credit ≡ true → init_command controller ≡ None → first_slot_command slots ≡ Some command
      → Is (Some command)
  takes_slot command takes init slot = λ i. if takes i then option_or (init i) (option_or (slot i) (enabling_command controller slots)) else None

  pub takes_enabling : (due : Bool) → nat_lt 0 controller.credit ≡ true → init_command controller ≡ None → first_slot_command slots ≡ None
      → (has_free_slot slots && not controller.advertising && not controller.refused) ≡ due → Is (if due then Some LeSetAdvertiseEnable else None)
  takes_enabling due takes init slot is = λ i. if takes i then option_or (init i) (option_or (slot i) (if is i then Some LeSetAdvertiseEnable else None))
      else None

  pub then_controller : (found : Option Commanded) → Is found → controller_then controller slots
      ≡ option_map_or (λ command. controller_after controller (command ∷ [])) found controller
  then_controller found is = ap (λ due. option_map_or (λ command. controller_after controller (command ∷ [])) due controller) is

  -- the slots, by whether the command is that of initialisation
  pub commanded_by : (some : Bool) → is_some (init_command controller) ≡ some
      → slots_commanded controller slots ≡ (if some then slots else with_first has_command (option_map slot_without_command) slots)
  commanded_by some is = ap (λ (some : Bool). if some then slots else with_first has_command (option_map slot_without_command) slots) is

pub enabling_some : (due : Bool) → is_some (let found : Option Commanded = if due then Some LeSetAdvertiseEnable else None in found) ≡ due
enabling_some true = refl
enabling_some false = refl

-- what goes out where no command does
pub packet_next : (controller : Controller) (slots : List (Option SlotState)) → command_next controller slots ≡ None → next_out controller slots
    ≡ first_slot_packet slots
packet_next controller slots none = ap (λ due. option_or (option_map command_octets due) (first_slot_packet slots)) none

pub no_command_next : (controller : Controller) (slots : List (Option SlotState)) (goes : Bool) → goes ≡ is_some (command_next controller slots) → goes ≡ false
    → command_next controller slots ≡ None
no_command_next controller slots goes is stays = is_none_where (command_next controller slots) (sym is ∙ stays)

-- before the controller is initialised its command is the next one
pub init_then : (controller new : Controller) (goes : Bool) → nat_lt 0 controller.credit ≡ true → goes ≡ is_some (init_command controller)
    → ((command : Commanded) → init_command controller ≡ Some command → new ≡ controller_after controller (command ∷ []))
    → OnFalse goes (new ≡ controller) → new ≡ controller_then controller []
init_then controller new goes takes is after stays = by (init_command controller) refl
  where
    by : (found : Option Commanded) → init_command controller ≡ found → new ≡ controller_then controller []
    by (Some command) at = after command at ∙ sym (then_controller controller [] (Some command) (takes_init controller [] command takes at))
    by None at = OnFalse_at (is ∙ ap is_some at) stays ∙ sym (then_controller controller [] None (takes_enabling controller [] false takes at refl refl))
