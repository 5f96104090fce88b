use Rattle.std.proofs.Common.{ap, ◌∙◌}
use Rattle.gatt_host.proofs.host.Host.connections.Goals as goal
use Rattle.gatt_host.proofs.model.Seen.{seen_where}
use Rattle.gatt_host.specs.Connections.{connections_in}
use Rattle.gatt_host.specs.declared.host.Host.TheInside.{Inside}
use Rattle.gatt_laws.specs.machine.Input.{run}
use Rattle.host_connections.specs.Connections.{connections_left}

pub returns-clause-run : goal.returns-clause-run
returns-clause-run c = λ start input sent is.
    ap (λ (inside : Inside). connections_left inside.server.slots inside.frames.arrivals 0) c.self-inside.view_is
    ∙ ap connections_in c.self.view_is ∙ seen_where (run start input) sent c.args.self.now is
