use Rattle.std.specs.Io.KnownBytes.{Keeps}
use Rattle.octet_io.proofs.stream.write_uninterrupted.Given as goal

abbrev pub invariant-loop-attempt : goal.invariant-loop-attempt
invariant-loop-attempt g l = Keeps (g.W.Write.contents l.fn.writer) (g.W.Write.contents l.writer)
