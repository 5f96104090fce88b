use Rattle.std.proofs.Common.{length}
use Rattle.octet_io.proofs.Writing.{HasWritten}
use Rattle.att_words.proofs.sending.write_whole.Given as goal

abbrev pub invariant-loop-rest : goal.invariant-loop-rest
invariant-loop-rest g l = HasWritten l.fn.text l.rest (g.W.Write.contents l.fn.writer) (g.W.Write.contents l.writer)

abbrev pub decreases-loop-rest : goal.decreases-loop-rest
decreases-loop-rest g l = length l.rest
