use Rattle.std.proofs.Common.{None, ap, sym, ◌∙◌}
use Rattle.gatt_host.proofs.host.Host.connection.Goals as goal
use Rattle.gatt_host.proofs.model.Seen.{found_here, found_later, found_where}
use Rattle.gatt_host.specs.Connections.{connection_with}

pub loop-connection-init : goal.loop-connection-init
loop-connection-init c = record {
  left = ap (connection_with c.args.handle) (sym (c.into_iter-connection-iterator.ensures.into_iter_gives ∙ c.connections-connection-items.ensures.server));
}

pub returns-then-connection-handle-clause-server : goal.returns-then-connection-handle-clause-server
returns-then-connection-handle-clause-server c =
    found_here c.args.handle c.in-Some.connection c.loop-connection.connection-iterator c.next.new.self c.in-Some.ensures.steps c.if-connection-handle.true
    ∙ sym c.loop-connection.invariant.left

pub returns-then-connection-handle-clause-run : goal.returns-then-connection-handle-clause-run
returns-then-connection-handle-clause-run c =
    found_where c.args.handle c.args.self.now _ (returns-then-connection-handle-clause-server c)

pub loop-connection-preserved : goal.loop-connection-preserved
loop-connection-preserved c = record {
  left = c.loop-connection.invariant.left
      ∙ found_later c.args.handle c.in-Some.connection c.loop-connection.connection-iterator c.next.new.self c.in-Some.ensures.steps
      c.if-connection-handle.false;
}

pub returns-clause-server : goal.returns-clause-server
returns-clause-server c = sym (c.loop-connection.invariant.left ∙ ap (connection_with c.args.handle) c.in-None.ensures.steps.0)

pub returns-clause-run : goal.returns-clause-run
returns-clause-run c = found_where c.args.handle c.args.self.now None (returns-clause-server c)
