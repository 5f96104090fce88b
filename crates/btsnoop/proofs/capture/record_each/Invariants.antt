use Rattle.std.proofs.Common.{◌+◌, ◌*◌, length}
use Rattle.octet_io.specs.Stream.{CountsNone}
use Rattle.btsnoop.proofs.Capturing.{SoFar}
use Rattle.btsnoop.proofs.capture.record_each.Given as goal

abbrev pub invariant-packets : goal.invariant-packets
invariant-packets g l = record {
  so_far : SoFar l.direction l.time l.fn.begun l.octets l.begun l.rest (g.C.Sink.contents l.fn.sink) (g.C.Sink.contents l.sink);
  failures : CountsNone (g.C.Sink.failures l.fn.sink) (g.C.Sink.failures l.sink);
}

abbrev pub decreases-packets : goal.decreases-packets
decreases-packets g l = 2 * length l.rest + length l.begun
