use Rattle.std.proofs.Common.{ap, sym, ◌∙◌}
use Rattle.std.specs.Prelude.{is_some}
use Rattle.std.proofs.lemmas.Bool.{OnFalse_at}
use Rattle.gatt_host.proofs.owing.Nexts.{no_command_next, packet_next}
use Rattle.gatt_host.specs.GoingOut.{first_slot_packet}
use Rattle.gatt_host.proofs.going_out.next_into.Goals as goal

pub returns-clause-some : goal.returns-clause-some
returns-clause-some c =
    let controller = c.args.controller.now in
    let slots = c.args.slots.now in
    let none = no_command_next controller slots c.command_out.result c.command_out.ensures.some c.if-command_out.false in
    c.packet_into.ensures.some
    ∙ ap (λ server. is_some (first_slot_packet server)) (OnFalse_at c.if-command_out.false c.command_out.ensures.unchanged)
    ∙ sym (ap is_some (packet_next controller slots none))
