use Rattle.std.proofs.Common.{List, sym, subst}
use Rattle.device_loop.specs.Happenings.{HistoryEntry}
use Rattle.device_loop.specs.Turn.{SavedFirst}
use Rattle.host_tests.proofs.recorded.serve_each.Goals as goal
use Rattle.host_tests.proofs.Reaching.{nothing_sent, turned}

pub loop-turn-init : goal.loop-turn-init
loop-turn-init g c = record {
  run = c.requires.run;
  order = subst (λ (entries : List HistoryEntry). SavedFirst entries) (sym c.requires.begins) nothing_sent;
}

pub loop-turn-preserved : goal.loop-turn-preserved
loop-turn-preserved g c =
    let is = c.loop-turn.invariant.run in
    record {
      run = turned c.serve_turn.result _ _ _ _ _ _ _ _ c.serve_turn.ensures.turn c.serve_turn.ensures.stopped is;
      order = c.serve_turn.ensures.order is.start is.input is.sent is.refines c.loop-turn.invariant.order;
    }
