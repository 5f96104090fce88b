use Rattle.std.proofs.Common.{◌≡◌}
use Rattle.host_connections.specs.Connections.{connections_left}
use Rattle.host_connections.proofs.connection.next_connection.Given as goal

-- there was none in the slots before
abbrev pub invariant-loop-place : goal.invariant-loop-place
invariant-loop-place l = connections_left l.slots l.arrivals l.from ≡ connections_left l.slots l.arrivals l.place
