use Rattle.std.proofs.Common.{◌≡◌, false, []}
use Rattle.std.specs.Prelude.{◌==◌, not}
use Rattle.gatt_host.proofs.feeding.write_packets.Given as goal
use Rattle.gatt_host.specs.Credits.{most_out}
use Rattle.gatt_host.specs.Feeding.{TakesAll}
use Rattle.gatt_host.specs.Meaning.{IncomingFrames}
use Rattle.gatt_host.specs.ServerState.{OwesPacketsAlone}
use Rattle.gatt_host.specs.HostModel.{going, IsStateOfOne}
use Rattle.le_h4.specs.Deframer.{Deframing}
use Rattle.octet_io.specs.Stream.{CountsNone}

abbrev pub invariant-loop-packet : goal.invariant-loop-packet
invariant-loop-packet g l = record {
  takes : (frames : IncomingFrames) (stream : Deframing)
      → TakesAll [] (going l.fn.server frames stream) (going l.server frames stream) (g.W.Sink.contents l.fn.out) (g.W.Sink.contents l.out);
  server : IsStateOfOne l.server;
  packets : not (g.row.COMMANDS == 0) ≡ false → OwesPacketsAlone l.server;
  failures : CountsNone (g.W.Sink.failures l.fn.out) (g.W.Sink.failures l.out);
}

abbrev pub decreases-loop-packet : goal.decreases-loop-packet
decreases-loop-packet g l = most_out l.server
