use Rattle.std.proofs.Common.{sym, subst}
use Rattle.octet_io.specs.Number.{Octets}
use Rattle.att_words.specs.Inner.{inner_of}
use Rattle.att_words.proofs.Wording.{HasWorded, worded_more, worded_none}
use Rattle.att_words.proofs.copying.put_all.Goals as goal

pub loop-rest-init : goal.loop-rest-init
loop-rest-init g c = worded_none _ _

pub loop-rest-preserved : goal.loop-rest-preserved
loop-rest-preserved g c =
    subst (λ (rest : Octets). HasWorded c.args.octets.now rest (g.W.Write.contents (inner_of c.args.worded.now)) (g.W.Write.contents (inner_of c.put.new.self)))
    (sym c.split_at.ensures.back)
    (worded_more _ _ _ _ _ _ c.loop-rest.invariant c.in-Ok.ensures.worded)
