use Rattle.att_words.specs.Inner.{inner_of}
use Rattle.att_words.proofs.Wording.{HasCopied}
use Rattle.att_words.proofs.copying.copy.Given as goal

abbrev pub invariant-loop-read : goal.invariant-loop-read
invariant-loop-read g l =
    HasCopied (g.R.Read.remaining l.fn.reader) (g.R.Read.remaining l.reader)
    (g.W.Write.contents (inner_of l.fn.worded)) (g.W.Write.contents (inner_of l.worded))
