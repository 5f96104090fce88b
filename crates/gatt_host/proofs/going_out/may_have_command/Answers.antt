use Rattle.std.proofs.Common.{sym, ◌∙◌}
use Rattle.std.proofs.lemmas.Bool.{OnFalse_at, OnFalse_from}
use Rattle.gatt_host.proofs.owing.Lacking.{none_due}
use Rattle.gatt_host.proofs.going_out.may_have_command.Goals as goal

pub returns : goal.returns
returns c = OnFalse_from _ _ (λ still.
    none_due c.args.controller.now c.args.slots.now c.may_have_room.result (sym c.has_init_command.ensures ∙ c.if-has_init_command.false)
    (OnFalse_at c.if-may_have_command.false c.may_have_command.ensures) c.may_have_room.ensures
    (sym c.is_to_advertise.ensures ∙ still))
