use Rattle.std.proofs.Common.{◌≡◌, ◌≤◌, true, None}
use Rattle.device_loop.proofs.serving.serve_turns.Given as goal
use Rattle.device_loop.proofs.Happened.{HasServed}
use Rattle.device_loop.specs.Serving.{known}
use Rattle.gatt_host.specs.HostModel.{all_out}
use Rattle.octet_io.specs.Stream.{CountsNone}

abbrev pub invariant-loop-turn : goal.invariant-loop-turn
invariant-loop-turn g l = record {
  served : HasServed l._turn l.fn.host l.host
      (known (g.H.Happenings.octets l.fn.happenings) (g.H.Happenings.calls l.fn.happenings) (g.H.Happenings.history l.fn.happenings))
      (known (g.H.Happenings.octets l.happenings) (g.H.Happenings.calls l.happenings) (g.H.Happenings.history l.happenings))
      (g.W.Sink.contents l.fn.out) (g.W.Sink.contents l.out) (g.L.Listener.heard l.fn.listener) (g.L.Listener.heard l.listener);
  began : l.fn.host.fault ≡ None;
  few : l._turn ≤ l.turns;
  none : l.host.fault ≡ None;
  drained : all_out l.host ≡ true;
  failures : CountsNone (g.W.Sink.failures l.fn.out) (g.W.Sink.failures l.out);
}
