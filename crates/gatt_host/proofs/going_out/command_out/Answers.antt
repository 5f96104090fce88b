use Rattle.std.proofs.Common.{◌≡◌, ℕ, Bool, true, false, List, [], ◌∷◌, Option, None, Some, ap, sym, ◌∙◌}
use Rattle.std.specs.Prelude.{nat_lt, ◌&&◌, not, is_some}
use Rattle.std.specs.Option.{option_map}
use Rattle.std.proofs.lemmas.Bool.{OnFalse_at, OnTrue_at}
use Rattle.gatt_host.proofs.owing.Nexts.{commanded_by, is_none_where, none_with, takes_enabling, takes_init, takes_none, takes_slot, then_controller, there_where, there_with}
use Rattle.gatt_host.specs.contracts.controller.Controller.{the_view}
use Rattle.gatt_host.specs.GoingOut.{command_next, first_slot_command, has_free_slot, init_command}
use Rattle.gatt_laws.specs.machine.Controller.{Controller, controller_after}
use Rattle.gatt_laws.specs.machine.State.{command_octets}
use Rattle.host_connections.specs.SlotState.{SlotState}
use Rattle.le_hci.specs.Command.{LeSetAdvertiseEnable}
use Rattle.gatt_host.proofs.going_out.command_out.Goals as goal

pub returns-then-not-may_have_command-clause-some : goal.returns-then-not-may_have_command-clause-some
returns-then-not-may_have_command-clause-some c = sym (ap is_some (OnFalse_at c.if-not-may_have_command.true c.may_have_command.ensures))

pub returns-then-not-may_have_command-clause-controller : goal.returns-then-not-may_have_command-clause-controller
returns-then-not-may_have_command-clause-controller c =
    sym (then_controller c.args.controller.now c.args.slots.now None (OnFalse_at c.if-not-may_have_command.true c.may_have_command.ensures))

pub returns-then-init_command_out-clause-controller : goal.returns-then-init_command_out-clause-controller
returns-then-init_command_out-clause-controller c =
    let controller = c.args.controller.now in
    let slots = c.args.slots.now in
    let first = there_where (init_command controller) (sym c.init_command_out.ensures.some ∙ c.if-init_command_out.true) in
    c.init_command_out.ensures.after first.x first.is
    ∙ sym (then_controller controller slots (Some first.x) (takes_init controller slots first.x (sym c.takes.ensures ∙ c.if-not-takes.false) first.is))

pub returns-then-not-takes-clause-some : goal.returns-then-not-takes-clause-some
returns-then-not-takes-clause-some c =
    sym (ap is_some (takes_none c.args.controller.now c.args.slots.now (sym c.takes.ensures ∙ c.if-not-takes.true)))

pub returns-then-not-takes-clause-controller : goal.returns-then-not-takes-clause-controller
returns-then-not-takes-clause-controller c =
    let controller = c.args.controller.now in
    let slots = c.args.slots.now in
    sym (then_controller controller slots None (takes_none controller slots (sym c.takes.ensures ∙ c.if-not-takes.true)))

pub returns-then-init_command_out-clause-some : goal.returns-then-init_command_out-clause-some
returns-then-init_command_out-clause-some c =
    let controller = c.args.controller.now in
    let first = there_where (init_command controller) (sym c.init_command_out.ensures.some ∙ c.if-init_command_out.true) in
    sym (ap is_some (takes_init controller c.args.slots.now first.x (sym c.takes.ensures ∙ c.if-not-takes.false) first.is))

pub returns-then-init_command_out-clause-octets : goal.returns-then-init_command_out-clause-octets
returns-then-init_command_out-clause-octets c =
    let controller = c.args.controller.now in
    let first = there_where (init_command controller) (sym c.init_command_out.ensures.some ∙ c.if-init_command_out.true) in
    ap (option_map command_octets) (takes_init controller c.args.slots.now first.x (sym c.takes.ensures ∙ c.if-not-takes.false) first.is ∙ sym first.is)
    ∙ OnTrue_at c.if-init_command_out.true c.init_command_out.ensures.octets

pub returns-then-init_command_out-clause-slots : goal.returns-then-init_command_out-clause-slots
returns-then-init_command_out-clause-slots c =
    sym (commanded_by c.args.controller.now c.args.slots.now true (sym c.init_command_out.ensures.some ∙ c.if-init_command_out.true))

pub returns-in-Some-clause-some : goal.returns-in-Some-clause-some
returns-in-Some-clause-some c =
    let controller = c.args.controller.now in
    let slots = c.args.slots.now in
    let init : init_command controller ≡ None = is_none_where (init_command controller) (sym c.init_command_out.ensures.some ∙ c.if-init_command_out.false) in
    let first = there_with (first_slot_command slots) c.in-Some.opcode (sym c.in-Some.is ∙ c.slot_command_out.ensures.opcode) in
    sym (ap is_some (takes_slot controller slots first.x (sym c.takes.ensures ∙ c.if-not-takes.false) init first.is))

pub returns-in-Some-clause-octets : goal.returns-in-Some-clause-octets
returns-in-Some-clause-octets c =
    let controller = c.args.controller.now in
    let slots = c.args.slots.now in
    let init : init_command controller ≡ None = is_none_where (init_command controller) (sym c.init_command_out.ensures.some ∙ c.if-init_command_out.false) in
    let first = there_with (first_slot_command slots) c.in-Some.opcode (sym c.in-Some.is ∙ c.slot_command_out.ensures.opcode) in
    ap (option_map command_octets) (takes_slot controller slots first.x (sym c.takes.ensures ∙ c.if-not-takes.false) init first.is)
    ∙ ap (λ (octets : List ℕ). Some octets) (sym (c.slot_command_out.ensures.octets first.x first.is))

pub returns-in-Some-clause-controller : goal.returns-in-Some-clause-controller
returns-in-Some-clause-controller c =
    let controller = c.args.controller.now in
    let slots = c.args.slots.now in
    let init : init_command controller ≡ None = is_none_where (init_command controller) (sym c.init_command_out.ensures.some ∙ c.if-init_command_out.false) in
    let first = there_with (first_slot_command slots) c.in-Some.opcode (sym c.in-Some.is ∙ c.slot_command_out.ensures.opcode) in
    c.sent.ensures first.x first.opcode_is
    ∙ ap (λ (now : Controller). controller_after now (first.x ∷ [])) (OnFalse_at c.if-init_command_out.false c.init_command_out.ensures.unchanged)
    ∙ sym (then_controller controller slots (Some first.x) (takes_slot controller slots first.x (sym c.takes.ensures ∙ c.if-not-takes.false) init first.is))

pub returns-in-Some-clause-slots : goal.returns-in-Some-clause-slots
returns-in-Some-clause-slots c =
    c.slot_command_out.ensures.after
    ∙ sym (commanded_by c.args.controller.now c.args.slots.now false (sym c.init_command_out.ensures.some ∙ c.if-init_command_out.false))

-- no slot has room for a connection
no_room : (c : goal.Then-not-has_room) → command_next c.args.controller.now c.args.slots.now ≡ None
no_room c =
    let controller : Controller = c.args.controller.now in
    let slots : List (Option SlotState) = c.args.slots.now in
    let takes : nat_lt 0 controller.credit ≡ true = sym c.takes.ensures ∙ c.if-not-takes.false in
    let init : init_command controller ≡ None = is_none_where (init_command controller) (sym c.init_command_out.ensures.some ∙ c.if-init_command_out.false) in
    let slot : first_slot_command slots ≡ None = none_with (first_slot_command slots) (sym c.in_default.is ∙ c.slot_command_out.ensures.opcode) in
    let free : has_free_slot slots ≡ false =
    ap (λ (slots : List (Option SlotState)). has_free_slot slots) (sym (OnFalse_at (ap is_some c.in_default.is) c.slot_command_out.ensures.unchanged))
    ∙ sym c.has_room.ensures.room ∙ c.if-not-has_room.true in
    takes_enabling controller slots false takes init slot (ap (λ (free : Bool). free && not controller.advertising && not controller.refused) free)

pub returns-then-not-has_room-clause-some : goal.returns-then-not-has_room-clause-some
returns-then-not-has_room-clause-some c = sym (ap is_some (no_room c))

pub returns-then-not-has_room-clause-controller : goal.returns-then-not-has_room-clause-controller
returns-then-not-has_room-clause-controller c =
    OnFalse_at c.if-init_command_out.false c.init_command_out.ensures.unchanged
    ∙ sym (then_controller c.args.controller.now c.args.slots.now None (no_room c))

-- the controller is to advertise
enabling : (c : goal.After-write_enabling) → command_next c.args.controller.now c.args.slots.now ≡ Some LeSetAdvertiseEnable
enabling c =
    let controller : Controller = c.args.controller.now in
    let slots : List (Option SlotState) = c.args.slots.now in
    let takes : nat_lt 0 controller.credit ≡ true = sym c.takes.ensures ∙ c.if-not-takes.false in
    let init : init_command controller ≡ None = is_none_where (init_command controller) (sym c.init_command_out.ensures.some ∙ c.if-init_command_out.false) in
    let slot : first_slot_command slots ≡ None = none_with (first_slot_command slots) (sym c.in_default.is ∙ c.slot_command_out.ensures.opcode) in
    let free : has_free_slot slots ≡ true =
    ap (λ (slots : List (Option SlotState)). has_free_slot slots) (sym (OnFalse_at (ap is_some c.in_default.is) c.slot_command_out.ensures.unchanged))
    ∙ sym c.has_room.ensures.room ∙ c.if-not-has_room.false in
    let same : the_view c.controller.inside ≡ controller = c.controller.view_is ∙ OnFalse_at c.if-init_command_out.false c.init_command_out.ensures.unchanged in
    let advertising : controller.advertising ≡ false = sym (λ i. (same i).advertising) ∙ c.if-controller.false in
    let refused : controller.refused ≡ false = sym (λ i. (same i).refused) ∙ c.if-controller-2.false in
    takes_enabling controller slots true takes init slot (λ i. free i && not (advertising i) && not (refused i))

pub returns-clause-some : goal.returns-clause-some
returns-clause-some c = sym (ap is_some (enabling c))

pub returns-clause-octets : goal.returns-clause-octets
returns-clause-octets c = ap (option_map command_octets) (enabling c) ∙ ap (λ (octets : List ℕ). Some octets) (sym c.write_enabling.ensures.octets)

pub returns-clause-controller : goal.returns-clause-controller
returns-clause-controller c =
    c.write_enabling.ensures.after
    ∙ ap (λ (now : Controller). controller_after now (LeSetAdvertiseEnable ∷ [])) (OnFalse_at c.if-init_command_out.false c.init_command_out.ensures.unchanged)
    ∙ sym (then_controller c.args.controller.now c.args.slots.now (Some LeSetAdvertiseEnable) (enabling c))

pub returns-clause-slots : goal.returns-clause-slots
returns-clause-slots c =
    c.has_room.ensures.unchanged
    ∙ c.slot_command_out.ensures.after
    ∙ sym (commanded_by c.args.controller.now c.args.slots.now false (sym c.init_command_out.ensures.some ∙ c.if-init_command_out.false))
