use Rattle.std.proofs.Common.{◌≡◌, [], ◌∷◌, Option, None, subst, ◌∙◌}
use Rattle.device_loop.proofs.serving.take_call.Goals as goal
use Rattle.device_loop.specs.Happenings.{Answered, Records}
use Rattle.gatt_host.proofs.model.Driving.{call_feeds}
use Rattle.gatt_host.proofs.model.Hearing.{hears_received, listens_then}
use Rattle.gatt_host.proofs.model.HearingTurns.{nothing_heard}
use Rattle.gatt_host.proofs.model.Received.{call_received}
use Rattle.gatt_host.specs.Calls.{call_of}
use Rattle.gatt_laws.specs.machine.Calls.{Refused}
use Rattle.gatt_laws.specs.machine.Input.{ACall}

pub returns-clause-processes : goal.returns-clause-processes
returns-clause-processes g c =
    let going : c.app-answer.new.self.fault ≡ None = c.app-answer.ensures.fault ∙ c.requires.none in
    record {
      feeds = call_feeds (ACall (call_of c.args.call)) c.args.host.now c.app-answer.new.self c.feed.new.host (g.W.Sink.contents c.args.out.now)
          (g.W.Sink.contents c.feed.new.out)
          c.feed.new.host.fault (c.app-answer.ensures.takes c.requires.none) (c.feed.ensures.processes going).feeds;
      feeding = (c.feed.ensures.processes going).feeding;
      settles = (c.feed.ensures.processes going).settles;
    }

pub returns-clause-heard : goal.returns-clause-heard
returns-clause-heard g c =
    let going : c.app-answer.new.self.fault ≡ None = c.app-answer.ensures.fault ∙ c.requires.none in
    listens_then (ACall (call_of c.args.call) ∷ []) [] [] c.args.host.now c.app-answer.new.self c.feed.new.host
    (g.L.Listener.heard c.args.listener.now) (g.L.Listener.heard c.deliver_notices.new.listener) (g.L.Listener.heard c.deliver_notices.new.listener)
    c.feed.new.host.fault
    (c.app-answer.ensures.takes c.requires.none)
    (hears_received (ACall (call_of c.args.call) ∷ []) c.args.host.now c.app-answer.new.self (g.L.Listener.heard c.args.listener.now)
    (g.L.Listener.heard c.deliver_notices.new.listener)
    (call_received (ACall (call_of c.args.call)) [] c.args.host.now c.app-answer.new.self c.requires.none going (c.app-answer.ensures.takes c.requires.none)
    c.app-answer.ensures.told)
    c.deliver_notices.ensures.hears)
    (nothing_heard c.app-answer.new.self c.feed.new.host (g.W.Sink.contents c.args.out.now) (g.W.Sink.contents c.feed.new.out)
    (g.L.Listener.heard c.deliver_notices.new.listener)
    c.feed.new.host.fault (c.feed.ensures.processes going).feeds)

pub returns-clause-answer : goal.returns-clause-answer
returns-clause-answer g c = λ start input sent is.
    subst (λ (refusal : Option Refused). Records (Answered refusal ∷ []) (g.H.Happenings.history c.args.happenings.now)
    (g.H.Happenings.history c.answered.new.self))
    (c.app-answer.ensures.refused start input sent is c.requires.none) c.answered.ensures.history
