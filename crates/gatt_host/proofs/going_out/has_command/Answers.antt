use Rattle.std.proofs.Common.{◌≡◌, None, ap, sym, ◌∙◌}
use Rattle.std.specs.Prelude.{◌&&◌, not, is_some}
use Rattle.gatt_host.proofs.owing.Firsts.{any_command}
use Rattle.gatt_host.proofs.owing.Nexts.{enabling_some, is_none_where, takes_enabling, takes_slot, there_where}
use Rattle.gatt_host.specs.GoingOut.{init_command, first_slot_command}
use Rattle.gatt_host.proofs.going_out.has_command.Goals as goal

pub returns-then-has_command : goal.returns-then-has_command
returns-then-has_command c =
    let controller = c.args.controller.now in
    let slots = c.args.slots.now in
    let takes = sym c.takes.ensures ∙ c.if-not-takes.false in
    let init : init_command controller ≡ None = is_none_where (init_command controller) (sym c.has_init_command.ensures ∙ c.if-has_init_command.false) in
    let first = there_where (first_slot_command slots) (sym (any_command slots) ∙ sym c.has_command.ensures ∙ c.if-has_command.true) in
    sym (ap is_some (takes_slot controller slots first.x takes init first.is))

pub returns : goal.returns
returns c =
    let controller = c.args.controller.now in
    let slots = c.args.slots.now in
    let takes = sym c.takes.ensures ∙ c.if-not-takes.false in
    let init : init_command controller ≡ None = is_none_where (init_command controller) (sym c.has_init_command.ensures ∙ c.if-has_init_command.false) in
    let none : first_slot_command slots ≡ None =
    is_none_where (first_slot_command slots) (sym (any_command slots) ∙ sym c.has_command.ensures ∙ c.if-has_command.false) in
    sym (enabling_some c.is_to_advertise.result)
    ∙ sym (ap is_some
    (takes_enabling controller slots c.is_to_advertise.result takes init none
    (sym (c.is_to_advertise.ensures ∙ ap (λ free. free && not controller.advertising && not controller.refused) c.has_free.ensures))))
