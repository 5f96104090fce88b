use Rattle.gatt_host.proofs.listener.deliver_each.Given as goal
use Rattle.gatt_host.proofs.model.Hearing.{HasToldSome}
use Rattle.gatt_host.specs.Telling.{received_told}
use Rattle.gatt_laws.specs.machine.Notice.{received_with}
use Rattle.std.specs.Prelude.{◌≡◌, map}

abbrev pub invariant-loop-notice : goal.invariant-loop-notice
invariant-loop-notice g l = record {
  told : HasToldSome (received_told l.fn.host) (map (received_with l.notice-iterator.table) l.notice-iterator.notices)
      (g.L.Listener.heard l.fn.listener) (g.L.Listener.heard l.listener);
  table : l.notice-iterator.table ≡ l.fn.host.server.table;
}
