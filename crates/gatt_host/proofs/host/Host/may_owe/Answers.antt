use Rattle.std.proofs.Common.{◌≡◌, true, subst}
use Rattle.std.specs.Bool.{OnFalse}
use Rattle.std.proofs.lemmas.Bool.{OnFalse_at, OnFalse_from}
use Rattle.gatt_host.proofs.owing.Lacking.{out_where}
use Rattle.gatt_host.specs.contracts.host.Host.{the_view}
use Rattle.gatt_host.specs.HostModel.{HostModel, all_out}
use Rattle.gatt_host.proofs.host.Host.may_owe.Goals as goal

pub returns : goal.returns
returns c =
    subst (λ (host : HostModel). OnFalse c.may_owe.result (all_out host ≡ true)) c.self.view_is
    (OnFalse_from _ _ (λ none. out_where (the_view c.self.inside) (OnFalse_at none c.may_owe.ensures)))
