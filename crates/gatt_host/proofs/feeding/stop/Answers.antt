use Rattle.std.proofs.Common.{◌≡◌, [], Some, None, sym, subst}
use Rattle.gatt_host.proofs.model.Items.{leads_stopped, reached_by}
use Rattle.gatt_host.specs.contracts.host.Host.{the_view}
use Rattle.gatt_host.specs.HostModel.{HostModel}
use Rattle.gatt_host.proofs.feeding.stop.Goals as goal

pub invariant_of-host : goal.invariant_of-host
invariant_of-host g c =
    let old : HostModel = the_view c.host.inside in
    reached_by [] [] old (record old { fault = Some c.args.fault }) c.host.invariant
    (leads_stopped old c.args.fault (subst (λ (host : HostModel). host.fault ≡ None) (sym c.host.view_is) c.requires.none) c.requires.own)
