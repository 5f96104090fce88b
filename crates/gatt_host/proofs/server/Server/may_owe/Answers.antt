use Rattle.std.proofs.Common.{◌≡◌, true, sym, subst, ◌∙◌}
use Rattle.std.specs.Bool.{OnFalse}
use Rattle.std.proofs.lemmas.Bool.{OnFalse_at, OnFalse_from}
use Rattle.gatt_host.proofs.owing.Lacking.{open_drained}
use Rattle.gatt_host.specs.contracts.server.Server.{the_view}
use Rattle.gatt_host.specs.GoingOut.{is_drained}
use Rattle.gatt_host.specs.ServerState.{ServerState, open_slots}
use Rattle.gatt_host.proofs.server.Server.may_owe.Goals as goal

pub returns : goal.returns
returns c =
    subst (λ (server : ServerState). OnFalse c.may_owe.result (is_drained server.controller (open_slots server) ≡ true)) c.self.view_is
    (OnFalse_from _ _ (λ none. open_drained (the_view c.self.inside) (sym c.is_ready.ensures ∙ c.if-not-is_ready.false) (OnFalse_at none c.may_owe.ensures)))
