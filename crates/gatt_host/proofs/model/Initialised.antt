-- Whether the controller is initialised, wherever a host stands.
use Rattle.std.proofs.Common.{◌≡◌, List, ap, ◌∙◌}
use Rattle.gatt_host.specs.HostModel.{RefinesRun, HostModel}
use Rattle.gatt_laws.specs.machine.Controller.{is_ready}
use Rattle.gatt_laws.specs.machine.Input.{Run}
use Rattle.gatt_laws.specs.machine.State.{State}
use Rattle.octet_io.specs.Number.{Octets}

-- commands that are sent leave what is known of its initialisation
pub initialised_where : (run : Run) (gone : List Octets) (host : HostModel) → RefinesRun run gone host
    → is_ready host.server.controller ≡ is_ready run.intake.state.controller
initialised_where run gone host is =
    ap is_ready is.refines.refines.owing.controller_is
    ∙ ap (λ (state : State). is_ready state.controller) is.refines.refines.owing.arrives
