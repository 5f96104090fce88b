use Rattle.std.proofs.Common.{ap, ◌∙◌}
use Rattle.gatt_host.proofs.host.Host.deadline.Goals as goal
use Rattle.gatt_host.proofs.model.Deadlines.{deadline_where}
use Rattle.gatt_host.specs.declared.host.Host.TheInside.{Inside}
use Rattle.gatt_host.specs.HostModel.{HostModel}
use Rattle.gatt_laws.proofs.notices.QuietTicks.{is_quiet_before_the_deadline}
use Rattle.gatt_laws.specs.machine.Input.{run}
use Rattle.host_connections.specs.Slots.{slots_deadline}

pub returns-clause-run : goal.returns-clause-run
returns-clause-run c = λ start input sent is.
    c.deadline.ensures
    ∙ ap (λ (inside : Inside). slots_deadline inside.server.time inside.server.slots) c.self-inside.view_is
    ∙ ap (λ (host : HostModel). slots_deadline host.server.time host.server.slots) c.self.view_is ∙ deadline_where (run start input) sent c.args.self.now is

pub returns-clause-quiet : goal.returns-clause-quiet
returns-clause-quiet c = is_quiet_before_the_deadline
