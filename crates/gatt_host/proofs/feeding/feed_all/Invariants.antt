use Rattle.std.proofs.Common.{◌≡◌, true, None, length}
use Rattle.gatt_host.proofs.feeding.feed_all.Given as goal
use Rattle.gatt_host.proofs.model.Feeds.{HasTaken}
use Rattle.gatt_host.proofs.model.Hearing.{HasHeard}
use Rattle.gatt_host.specs.HostModel.{all_out}
use Rattle.octet_io.specs.Stream.{CountsNone}

abbrev pub invariant-loop-rest : goal.invariant-loop-rest
invariant-loop-rest g l = record {
  takes : HasTaken l.fn.octets l.rest l.fn.host l.host (g.W.Sink.contents l.fn.out) (g.W.Sink.contents l.out);
  none : l.host.fault ≡ None;
  drained : all_out l.host ≡ true;
  failures : CountsNone (g.W.Sink.failures l.fn.out) (g.W.Sink.failures l.out);
  heard : HasHeard l.fn.octets l.rest l.fn.host l.host (g.W.Sink.contents l.fn.out) (g.W.Sink.contents l.out) (g.L.Listener.heard l.fn.listener)
      (g.L.Listener.heard l.listener);
}

abbrev pub decreases-loop-rest : goal.decreases-loop-rest
decreases-loop-rest g l = length l.rest
