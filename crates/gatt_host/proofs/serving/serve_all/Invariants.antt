use Rattle.std.proofs.Common.{◌≡◌, ◌≤◌, true, None}
use Rattle.gatt_host.proofs.serving.serve_all.Given as goal
use Rattle.gatt_host.proofs.model.HearingTurns.{HasServedTo}
use Rattle.gatt_host.proofs.model.Serving.{HasServed}
use Rattle.gatt_host.specs.HostModel.{all_out}
use Rattle.octet_io.specs.Stream.{CountsMany, CountsNone}

abbrev pub invariant-loop-turn : goal.invariant-loop-turn
invariant-loop-turn g l = record {
  served : HasServed l.turn l.fn.host l.host (g.R.Source.remaining l.fn.reader) (g.R.Source.remaining l.reader) (g.W.Sink.contents l.fn.writer)
      (g.W.Sink.contents l.writer);
  few : l.turn ≤ l.turns;
  none : l.host.fault ≡ None;
  drained : all_out l.host ≡ true;
  reads : CountsMany l.turn (g.R.Source.reads l.fn.reader) (g.R.Source.reads l.reader);
  ends : CountsNone (g.R.Source.ends l.fn.reader) (g.R.Source.ends l.reader);
  read_failures : CountsNone (g.R.Source.failures l.fn.reader) (g.R.Source.failures l.reader);
  write_failures : CountsNone (g.W.Sink.failures l.fn.writer) (g.W.Sink.failures l.writer);
  heard : HasServedTo l.turn l.fn.host l.host (g.R.Source.remaining l.fn.reader) (g.R.Source.remaining l.reader) (g.W.Sink.contents l.fn.writer)
      (g.W.Sink.contents l.writer)
      (g.L.Listener.heard l.fn.listener) (g.L.Listener.heard l.listener);
}
