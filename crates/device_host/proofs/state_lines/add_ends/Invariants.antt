use Rattle.std.proofs.Common.{◌≡◌, ◌++◌}
use Rattle.std.specs.List.{flat_map}
use Rattle.gatt_host.specs.Connections.{connections_in}
use Rattle.device_host.specs.Answers.{end_line}
use Rattle.device_host.proofs.state_lines.add_ends.Given as goal

-- The lines so far and those of the connections that the iterator still has are all.
abbrev pub invariant-loop-connection : goal.invariant-loop-connection
invariant-loop-connection l = record {
  told : l.text.items ++ flat_map (end_line l.fn.names.named) l.connection-iterator
      ≡ l.fn.text.items ++ flat_map (end_line l.fn.names.named) (connections_in l.fn.host);
}
