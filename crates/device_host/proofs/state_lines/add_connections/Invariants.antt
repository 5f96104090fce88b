use Rattle.std.proofs.Common.{◌≡◌, ◌++◌}
use Rattle.std.specs.List.{flat_map}
use Rattle.gatt_host.specs.Connections.{connections_in}
use Rattle.device_host.proofs.state_lines.add_connections.Given as goal
use Rattle.app_lines.specs.Told.{lines_of_connection}

-- what is told of those that the iterator still has is what is missing
abbrev pub invariant-loop-connection : goal.invariant-loop-connection
invariant-loop-connection l = record {
  told : l.text.items ++ flat_map (lines_of_connection l.fn.names.named) l.connection-iterator
      ≡ l.fn.text.items ++ flat_map (lines_of_connection l.fn.names.named) (connections_in l.fn.host);
}
