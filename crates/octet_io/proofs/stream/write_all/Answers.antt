use Rattle.std.proofs.Common.{sym, subst}
use Rattle.octet_io.specs.Number.{Octets}
use Rattle.octet_io.proofs.Writing.{HasWritten, written_count, counts_none}
use Rattle.octet_io.proofs.stream.write_all.Goals as goal

pub loop-rest-preserved : goal.loop-rest-preserved
loop-rest-preserved g c = record {
  written =
      subst (λ (rest : Octets). HasWritten c.args.octets.now rest (g.W.Sink.contents c.args.sink.now) (g.W.Sink.contents c.write.new.self))
      (sym c.split_at.ensures.back)
      (written_count _ _ _ _ _ _ c.loop-rest.invariant.written c.in_ok-count.ensures.octets);
  failures = counts_none _ _ _ c.loop-rest.invariant.failures c.in_ok-count.ensures.failures;
}
