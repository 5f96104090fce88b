use Rattle.std.proofs.Common.{sym, ◌∙◌}
use Rattle.std.proofs.lemmas.Bool.{OnFalse_from, OnTrue_at, OnTrue_from}
use Rattle.gatt_host.proofs.owing.Owing.{none_is_owed, rest_is_owed}
use Rattle.gatt_host.proofs.going_out.next_out.Goals as goal

pub returns-clause-first : goal.returns-clause-first
returns-clause-first c = λ final owed owing. OnTrue_from _ _ (λ goes.
    rest_is_owed final owed c.either_out.new.out c.args.controller.now c.either_out.new.controller c.args.slots.now c.either_out.new.slots owing
    (OnTrue_at goes c.either_out.ensures.octets) c.either_out.ensures.controller c.either_out.ensures.slots)

pub returns-clause-done : goal.returns-clause-done
returns-clause-done c = λ final owed owing. OnFalse_from _ _ (λ stays.
    none_is_owed final owed c.args.controller.now c.args.slots.now owing (sym c.either_out.ensures.some ∙ stays))
