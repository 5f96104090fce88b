use Rattle.std.specs.Io.KnownBytes.{Keeps}
use Rattle.octet_io.proofs.stream.read_uninterrupted.Given as goal

abbrev pub invariant-loop-attempt : goal.invariant-loop-attempt
invariant-loop-attempt g l = Keeps (g.R.Read.remaining l.fn.reader) (g.R.Read.remaining l.reader)
