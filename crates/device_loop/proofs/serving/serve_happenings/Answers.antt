use Rattle.device_loop.proofs.serving.serve_happenings.Goals as goal
use Rattle.device_loop.proofs.Order.{events_ordered}
use Rattle.device_loop.proofs.Time.{keeps_the_time}
use Rattle.std.proofs.Common.{ap}

pub returns-clause-order : goal.returns-clause-order
returns-clause-order g c =
    events_ordered c.serve_turns.result c.args.turns c.args.host.now c.serve_turns.new.host _ _ _ _ _ _ c.serve_turns.ensures.serves
    (λ stopped. ap g.H.Happenings.history (c.serve_turns.ensures.happenings_stopped stopped))

pub returns-clause-time : goal.returns-clause-time
returns-clause-time g c = keeps_the_time
