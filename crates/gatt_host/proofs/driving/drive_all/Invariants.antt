use Rattle.std.proofs.Common.{◌≡◌, ◌≤◌, true, None, drop}
use Rattle.gatt_host.proofs.driving.drive_all.Given as goal
use Rattle.gatt_host.proofs.model.Driving.{HasDriven}
use Rattle.gatt_host.proofs.model.HearingTurns.{HasDrivenTo}
use Rattle.gatt_host.specs.HostModel.{all_out}
use Rattle.octet_io.specs.Stream.{CountsNone}

abbrev pub invariant-loop-input : goal.invariant-loop-input
invariant-loop-input g l = record {
  driven : HasDriven l.refused l.inputs (drop l.input-index l.inputs) l.fn.host l.host (g.W.Sink.contents l.fn.out) (g.W.Sink.contents l.out);
  few : l.refused ≤ l.input-index;
  none : l.host.fault ≡ None;
  drained : all_out l.host ≡ true;
  failures : CountsNone (g.W.Sink.failures l.fn.out) (g.W.Sink.failures l.out);
  heard : HasDrivenTo l.refused l.inputs (drop l.input-index l.inputs) l.fn.host l.host (g.W.Sink.contents l.fn.out) (g.W.Sink.contents l.out)
      (g.L.Listener.heard l.fn.listener) (g.L.Listener.heard l.listener);
}
