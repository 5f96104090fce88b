use Rattle.std.proofs.Common.{ap, ◌∙◌}
use Rattle.gatt_host.proofs.host.Host.rows.Goals as goal
use Rattle.gatt_host.proofs.model.Rows.{rows_where}
use Rattle.gatt_host.specs.declared.host.Host.TheInside.{Inside}
use Rattle.gatt_host.specs.HostModel.{HostModel}
use Rattle.gatt_laws.specs.machine.Input.{run}

pub returns-clause-run : goal.returns-clause-run
returns-clause-run c = λ start input sent is.
    ap (λ (inside : Inside). inside.server.rows) c.self-inside.view_is
    ∙ ap (λ (host : HostModel). host.server.rows) c.self.view_is ∙ rows_where (run start input) sent c.args.self.now is
