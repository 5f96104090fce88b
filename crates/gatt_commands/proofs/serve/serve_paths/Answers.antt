use Rattle.gatt_commands.proofs.ServeFaults.{opening_at_all, served_at_all}
use Rattle.gatt_commands.proofs.serve.serve_paths.Goals as goal

pub returns : goal.returns
returns g c = served_at_all c.serve_at-served.result c.serve_at-served.ensures

pub returns-in_err-host : goal.returns-in_err-host
returns-in_err-host g c =
    opening_at_all c.from_residual.result c.in_err-host.field-0.0 c.from_residual.ensures.1 c.in_err-host.ensures.faults
