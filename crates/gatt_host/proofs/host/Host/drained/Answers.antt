use Rattle.std.proofs.Common.{◌≡◌, true, sym, subst, ◌∙◌}
use Rattle.std.proofs.lemmas.Bool.{OnTrue_from}
use Rattle.gatt_host.proofs.meaning.Drained.{all_sent}
use Rattle.gatt_host.proofs.model.Items.{drained_where}
use Rattle.gatt_host.specs.HostModel.{HostModel, all_out}
use Rattle.gatt_laws.specs.machine.Input.{run}
use Rattle.gatt_host.proofs.host.Host.drained.Goals as goal

pub returns-clause-all : goal.returns-clause-all
returns-clause-all c = λ start input sent is none. OnTrue_from _ _ (λ out.
    let host : HostModel = c.args.self.now in
    all_sent (run start input) sent host.server host.frames is.refines
    (drained_where host none (subst (λ (host : HostModel). all_out host ≡ true) c.self.view_is (sym c.is_out.ensures ∙ out))))
