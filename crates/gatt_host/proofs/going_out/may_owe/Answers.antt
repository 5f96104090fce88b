use Rattle.std.proofs.lemmas.Bool.{OnFalse_at, OnFalse_from}
use Rattle.gatt_host.proofs.owing.Lacking.{drained_where}
use Rattle.gatt_host.proofs.going_out.may_owe.Goals as goal

pub returns : goal.returns
returns c = OnFalse_from _ _ (λ still.
    drained_where c.args.controller.now c.args.slots.now (OnFalse_at c.if-may_have_command.false c.may_have_command.ensures)
    (OnFalse_at still c.may_give.ensures))
