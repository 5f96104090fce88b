-- Nothing goes out where no command is due and no slot gives a packet.
use Rattle.std.proofs.Common.{◌≡◌, Bool, true, false, List, [], Option, None, refl, sym, ap, ◌∙◌}
use Rattle.std.specs.Prelude.{nat_lt, ◌&&◌, not, is_none, is_some, if◌then◌else◌}
use Rattle.std.specs.Bool.{OnFalse}
use Rattle.std.specs.List.{list_any}
use Rattle.std.proofs.lemmas.Bool.{OnFalse_at, or_right}
use Rattle.gatt_host.proofs.owing.Firsts.{any_command}
use Rattle.gatt_host.proofs.owing.Nexts.{is_none_where, takes_enabling, takes_none}
use Rattle.gatt_host.specs.GoingOut.{first_slot_command, command_next, has_free_slot, init_command, is_drained}
use Rattle.gatt_host.specs.ServerState.{ServerState, open_slots}
use Rattle.gatt_host.specs.HostModel.{HostModel, all_out}
use Rattle.gatt_laws.specs.machine.Controller.{Controller, is_ready}
use Rattle.host_connections.specs.Commands.{gives, has_command}
use Rattle.host_connections.specs.SlotState.{SlotState}

closed : (free shared advertising refused : Bool) → OnFalse free (shared ≡ false) → (free && not advertising && not refused) ≡ false
    → (shared && not advertising && not refused) ≡ false
closed true true advertising refused is still = still
closed true false advertising refused is still = refl
closed false shared advertising refused is still = ap (λ there. there && not advertising && not refused) (OnFalse_at refl is)

-- none is, where initialisation has none, no slot has one, and none is to be told to advertise
pub none_due : (controller : Controller) (slots : List (Option SlotState)) (free : Bool) → is_some (init_command controller) ≡ false
    → list_any has_command slots ≡ false
    → OnFalse free (has_free_slot slots ≡ false) → (free && not controller.advertising && not controller.refused) ≡ false → command_next controller slots ≡ None
none_due controller slots free ready idle shared still =
    let init : init_command controller ≡ None = is_none_where (init_command controller) ready in
    let slot : first_slot_command slots ≡ None = is_none_where (first_slot_command slots) (sym (any_command slots) ∙ idle) in
    let quiet = closed free (has_free_slot slots) controller.advertising controller.refused shared still in
    by init slot quiet (nat_lt 0 controller.credit) refl
  where
    by : init_command controller ≡ None → first_slot_command slots ≡ None → (has_free_slot slots && not controller.advertising && not controller.refused)
        ≡ false
        → (takes : Bool) → nat_lt 0 controller.credit ≡ takes → command_next controller slots ≡ None
    by init slot quiet true takes = takes_enabling controller slots false takes init slot quiet
    by init slot quiet false takes = takes_none controller slots takes

-- and nothing is, where no slot gives a packet or_right
pub drained_where : (controller : Controller) (slots : List (Option SlotState)) → command_next controller slots ≡ None → list_any gives slots ≡ false
    → is_drained controller slots ≡ true
drained_where controller slots none idle = λ i. is_none (none i) && not (idle i)

pub open_drained : (server : ServerState) → is_ready server.controller ≡ true → is_drained server.controller server.slots ≡ true
    → is_drained server.controller (open_slots server) ≡ true
open_drained server ready drained = ap (λ (is : Bool). is_drained server.controller (if is then server.slots else [])) ready ∙ drained

pub out_where : (host : HostModel) → is_drained host.server.controller (open_slots host.server) ≡ true → all_out host ≡ true
out_where host drained = or_right (is_some host.fault) (is_drained host.server.controller (open_slots host.server)) drained
