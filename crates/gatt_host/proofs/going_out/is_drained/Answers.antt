use Rattle.std.proofs.Common.{sym, ◌∙◌}
use Rattle.std.proofs.lemmas.Bool.{OnFalse_from, OnTrue_from}
use Rattle.gatt_host.proofs.owing.Owing.{drained_is_done, some_is_owed}
use Rattle.gatt_host.proofs.going_out.is_drained.Goals as goal

pub returns-clause-done : goal.returns-clause-done
returns-clause-done c = λ final owed owing. OnTrue_from _ _ (λ is.
    drained_is_done final owed c.args.controller.now c.args.slots.now owing (sym c.none_waits.ensures ∙ is))

pub returns-clause-owing : goal.returns-clause-owing
returns-clause-owing c = λ final owed owing. OnFalse_from _ _ (λ is.
    some_is_owed final owed c.args.controller.now c.args.slots.now owing (sym c.none_waits.ensures ∙ is))
