use Rattle.std.proofs.Common.{length}
use Rattle.att_words.specs.Inner.{inner_of}
use Rattle.att_words.proofs.Wording.{HasWorded}
use Rattle.att_words.proofs.copying.put_all.Given as goal

abbrev pub invariant-loop-rest : goal.invariant-loop-rest
invariant-loop-rest g l = HasWorded l.fn.octets l.rest (g.W.Write.contents (inner_of l.fn.worded)) (g.W.Write.contents (inner_of l.worded))

abbrev pub decreases-loop-rest : goal.decreases-loop-rest
decreases-loop-rest g l = length l.rest
