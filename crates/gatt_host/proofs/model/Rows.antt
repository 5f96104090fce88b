-- The rows and the table of a host, wherever it stands.
use Rattle.std.proofs.Common.{◌≡◌, List}
use Rattle.gatt_host.specs.StateRefinement.{bond_in, rows_of}
use Rattle.gatt_host.specs.HostModel.{RefinesRun, HostModel}
use Rattle.gatt_laws.specs.machine.Input.{Run}
use Rattle.gatt_subs.proofs.Listed.{rows_are_listed}
use Rattle.octet_io.specs.Number.{Octets}

pub rows_where : (run : Run) (sent : List Octets) (host : HostModel) → RefinesRun run sent host → host.server.rows ≡ rows_of run.intake.state
rows_where run sent host is =
    let state = run.intake.state in
    let bonds = is.refines.refines.rows in
    rows_are_listed state.shared.keys host.server.rows (bond_in state.bonds state.owed) bonds.listed bonds.known
