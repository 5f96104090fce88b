use Rattle.std.proofs.Common.{length}
use Rattle.octet_io.specs.Stream.{CountsNone}
use Rattle.octet_io.proofs.Writing.{HasWritten}
use Rattle.octet_io.proofs.stream.write_all.Given as goal

abbrev pub invariant-loop-rest : goal.invariant-loop-rest
invariant-loop-rest g l = record {
  written : HasWritten l.fn.octets l.rest (g.W.Sink.contents l.fn.sink) (g.W.Sink.contents l.sink);
  failures : CountsNone (g.W.Sink.failures l.fn.sink) (g.W.Sink.failures l.sink);
}

abbrev pub decreases-loop-rest : goal.decreases-loop-rest
decreases-loop-rest g l = length l.rest
