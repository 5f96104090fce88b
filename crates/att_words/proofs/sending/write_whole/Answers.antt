use Rattle.std.proofs.Common.{sym, subst}
use Rattle.octet_io.specs.Number.{Octets}
use Rattle.octet_io.proofs.Writing.{HasWritten, written_count}
use Rattle.att_words.proofs.sending.write_whole.Goals as goal

pub loop-rest-preserved : goal.loop-rest-preserved
loop-rest-preserved g c =
    subst (λ (rest : Octets). HasWritten c.args.text.now rest (g.W.Write.contents c.args.writer.now) (g.W.Write.contents c.write_uninterrupted.new.writer))
    (sym c.split_at.ensures.back)
    (written_count _ _ _ _ _ _ c.loop-rest.invariant c.in_ok-count.ensures.octets)
