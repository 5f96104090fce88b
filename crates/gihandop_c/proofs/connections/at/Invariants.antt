use Rattle.std.proofs.Common.{◌≡◌, slice_get}
use Rattle.gatt_host.specs.Connections.{connections_in}
use Rattle.gihandop_c.proofs.connections.at.Given as goal

abbrev pub invariant-loop-connection : goal.invariant-loop-connection
invariant-loop-connection l = record {
  there : slice_get (connections_in l.fn.host) l.fn.place ≡ slice_get l.connection-iterator l.left;
}
