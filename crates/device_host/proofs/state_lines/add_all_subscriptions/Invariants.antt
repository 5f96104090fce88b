use Rattle.std.proofs.Common.{◌≡◌, ◌++◌}
use Rattle.std.specs.List.{flat_map}
use Rattle.gatt_host.specs.Connections.{connections_in}
use Rattle.device_host.specs.Answers.{lines_of_subscriptions}
use Rattle.device_host.proofs.state_lines.add_all_subscriptions.Given as goal

-- The lines so far and those of the connections that the iterator still has are all.
abbrev pub invariant-loop-connection : goal.invariant-loop-connection
invariant-loop-connection l = record {
  told : l.text.items ++ flat_map (lines_of_subscriptions l.fn.names.named l.fn.host) l.connection-iterator
      ≡ l.fn.text.items ++ flat_map (lines_of_subscriptions l.fn.names.named l.fn.host) (connections_in l.fn.host);
}
