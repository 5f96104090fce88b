use Rattle.std.proofs.Common.{◌≡◌}
use Rattle.gatt_host.proofs.host.Host.connection.Given as goal
use Rattle.gatt_host.specs.Connections.{connection_with, connections_in}

abbrev pub invariant-loop-connection : goal.invariant-loop-connection
invariant-loop-connection l = record {
  left : connection_with l.fn.handle (connections_in l.fn.self) ≡ connection_with l.fn.handle l.connection-iterator;
}
