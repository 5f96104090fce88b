use Rattle.std.proofs.Common.{◌≡◌, List, [], ◌∷◌, Option, Some, None, sym, ap, ◌∙◌}
use Rattle.gatt_host.proofs.calling.call_to.Goals as goal
use Rattle.gatt_host.proofs.model.Calling.{answer_as, call_behind, call_listens, call_refused, error_told, stopped_answers}
use Rattle.gatt_host.proofs.model.Driving.{past_fault}
use Rattle.gatt_host.proofs.model.Due.{feeding_at}
use Rattle.gatt_host.proofs.model.Feeds.{counts_where_going, fault_answered, none_answered, settles_then}
use Rattle.gatt_host.proofs.model.Hearing.{past_heard}
use Rattle.gatt_host.proofs.model.HearingTurns.{nothing_heard}
use Rattle.gatt_host.proofs.model.Stands.{past_going}
use Rattle.gatt_host.proofs.Promises.{writes_apart, writes_by_the_policy}
use Rattle.gatt_host.specs.Calls.{call_of}
use Rattle.gatt_host.specs.Calling.{answer_told}
use Rattle.gatt_host.specs.declared.fault.Fault.TheVariants as told
use Rattle.gatt_host.specs.declared.host_fault.HostFault.{HostFault}
use Rattle.gatt_host.specs.HostModel.{HostModel}
use Rattle.gatt_laws.specs.machine.Input.{ACall}
use Rattle.gatt_laws.specs.machine.Notice.{Received}

pub returns-in_err-feed-clause-processes : goal.returns-in_err-feed-clause-processes
returns-in_err-feed-clause-processes g c = λ none.
    let new : HostModel = c.feed.new.host in
    let is : new.fault ≡ Some c.in_err-feed.field-0.0 = fault_answered new.fault c.in_err-feed.field-0.0 c.in_err-feed.ensures.outcome in
    record {
      feeds = past_fault [] (ACall (call_of c.args.call) ∷ []) c.args.host.now new (g.W.Sink.contents c.args.out.now) (g.W.Sink.contents c.feed.new.out)
          c.in_err-feed.field-0.0 is (feeding_at new.fault c.in_err-feed.field-0.0 is (c.feed.ensures.processes none).feeding)
          (c.feed.ensures.processes none).feeds;
      feeding = (c.feed.ensures.processes none).feeding;
      settles = (c.feed.ensures.processes none).settles;
    }

pub returns-in_err-feed-clause-heard : goal.returns-in_err-feed-clause-heard
returns-in_err-feed-clause-heard g c = λ none.
    let new : HostModel = c.feed.new.host in
    let known : Option (List Received) = g.L.Listener.heard c.args.listener.now in
    past_heard [] (ACall (call_of c.args.call) ∷ []) c.args.host.now new (g.W.Sink.contents c.args.out.now) (g.W.Sink.contents c.feed.new.out) known known
    c.in_err-feed.field-0.0
    (fault_answered new.fault c.in_err-feed.field-0.0 c.in_err-feed.ensures.outcome)
    (feeding_at new.fault c.in_err-feed.field-0.0 (fault_answered new.fault c.in_err-feed.field-0.0 c.in_err-feed.ensures.outcome)
    (c.feed.ensures.processes none).feeding)
    (c.feed.ensures.processes none).feeds
    (nothing_heard c.args.host.now new (g.W.Sink.contents c.args.out.now) (g.W.Sink.contents c.feed.new.out) known new.fault
    (c.feed.ensures.processes none).feeds)

pub returns-in_err-feed-clause-answers : goal.returns-in_err-feed-clause-answers
returns-in_err-feed-clause-answers g c = λ none.
    stopped_answers (call_of c.args.call) c.args.host.now c.feed.new.host.fault c.in_err-feed.field-0.0
    (fault_answered c.feed.new.host.fault c.in_err-feed.field-0.0 c.in_err-feed.ensures.outcome) c.from_residual.result
    (error_told c.from_residual.result (told.Host c.in_err-feed.field-0.0) c.from_residual.ensures.1 (λ found is. is))

pub returns-in_err-do_call-clause-processes : goal.returns-in_err-do_call-clause-processes
returns-in_err-do_call-clause-processes g c = λ none.
    let still : c.feed.new.host.fault ≡ None = none_answered c.feed.new.host.fault c.in_ok-feed.ensures.outcome in
    record {
      feeds = call_behind (call_of c.args.call) c.args.host.now c.feed.new.host c.do_call.new.host (g.W.Sink.contents c.args.out.now)
          (g.W.Sink.contents c.feed.new.out) (g.W.Sink.contents c.do_call.new.out) still (c.feed.ensures.processes none).feeds c.do_call.new.host.fault
          c.do_call.ensures.processes.feeds;
      feeding = c.do_call.ensures.processes.feeding;
      settles = settles_then c.do_call.new.host _ _ _
          (counts_where_going c.feed.new.host.fault _ _ still (c.feed.ensures.processes none).settles.failures) c.do_call.ensures.processes.settles;
    }

pub returns-in_err-do_call-clause-heard : goal.returns-in_err-do_call-clause-heard
returns-in_err-do_call-clause-heard g c = λ none.
    call_listens (call_of c.args.call) c.args.host.now c.feed.new.host c.do_call.new.host (g.W.Sink.contents c.args.out.now) (g.W.Sink.contents c.feed.new.out)
    (g.W.Sink.contents c.do_call.new.out)
    (none_answered c.feed.new.host.fault c.in_ok-feed.ensures.outcome) (c.feed.ensures.processes none).feeds c.do_call.new.host.fault
    (g.L.Listener.heard c.args.listener.now) (g.L.Listener.heard c.do_call.new.listener) c.do_call.ensures.heard

pub returns-in_err-do_call-clause-answers : goal.returns-in_err-do_call-clause-answers
returns-in_err-do_call-clause-answers g c = λ none.
    stopped_answers (call_of c.args.call) c.args.host.now c.do_call.new.host.fault c.in_err-do_call.field-0.0 c.in_err-do_call.ensures.fault
    c.from_residual-in_err-do_call.result
    (error_told c.from_residual-in_err-do_call.result (told.Host c.in_err-do_call.field-0.0) c.from_residual-in_err-do_call.ensures.1 (λ found is. is))

pub returns-clause-processes : goal.returns-clause-processes
returns-clause-processes g c = λ none.
    let still : c.feed.new.host.fault ≡ None = none_answered c.feed.new.host.fault c.in_ok-feed.ensures.outcome in
    record {
      feeds = call_behind (call_of c.args.call) c.args.host.now c.feed.new.host c.do_call.new.host (g.W.Sink.contents c.args.out.now)
          (g.W.Sink.contents c.feed.new.out) (g.W.Sink.contents c.do_call.new.out) still (c.feed.ensures.processes none).feeds c.do_call.new.host.fault
          c.do_call.ensures.processes.feeds;
      feeding = c.do_call.ensures.processes.feeding;
      settles = settles_then c.do_call.new.host _ _ _
          (counts_where_going c.feed.new.host.fault _ _ still (c.feed.ensures.processes none).settles.failures) c.do_call.ensures.processes.settles;
    }

pub returns-clause-heard : goal.returns-clause-heard
returns-clause-heard g c = λ none.
    call_listens (call_of c.args.call) c.args.host.now c.feed.new.host c.do_call.new.host (g.W.Sink.contents c.args.out.now) (g.W.Sink.contents c.feed.new.out)
    (g.W.Sink.contents c.do_call.new.out)
    (none_answered c.feed.new.host.fault c.in_ok-feed.ensures.outcome) (c.feed.ensures.processes none).feeds c.do_call.new.host.fault
    (g.L.Listener.heard c.args.listener.now) (g.L.Listener.heard c.do_call.new.listener) c.do_call.ensures.heard

pub returns-clause-answers : goal.returns-clause-answers
returns-clause-answers g c = λ none. record {
  answer = c.in_ok-do_call.field-0;
  told = answer_as c.in_ok-do_call.field-0 c.map_err.result c.map_err.ensures.cases (λ refused found is. is)
      ∙ ap (λ (found : Option HostFault). answer_told found c.in_ok-do_call.field-0) (sym c.in_ok-do_call.ensures.fault);
  refused = λ still.
      call_refused (call_of c.args.call) c.args.host.now c.feed.new.host c.do_call.new.host (g.W.Sink.contents c.args.out.now)
      (g.W.Sink.contents c.feed.new.out) (g.W.Sink.contents c.do_call.new.out)
      (none_answered c.feed.new.host.fault c.in_ok-feed.ensures.outcome) (c.feed.ensures.processes none).feeds c.in_ok-do_call.field-0
      c.in_ok-do_call.ensures.refused;
}

pub returns-in_err-do_call-clause-stopped : goal.returns-in_err-do_call-clause-stopped
returns-in_err-do_call-clause-stopped g c =
    past_going c.args.host.now c.feed.new.host (none_answered c.feed.new.host.fault c.in_ok-feed.ensures.outcome) c.feed.ensures.stopped

pub returns-in_err-do_call-clause-sink_stopped : goal.returns-in_err-do_call-clause-sink_stopped
returns-in_err-do_call-clause-sink_stopped g c =
    past_going c.args.host.now c.feed.new.host (none_answered c.feed.new.host.fault c.in_ok-feed.ensures.outcome) c.feed.ensures.stopped

pub returns-in_err-do_call-clause-listener_stopped : goal.returns-in_err-do_call-clause-listener_stopped
returns-in_err-do_call-clause-listener_stopped g c =
    past_going c.args.host.now c.feed.new.host (none_answered c.feed.new.host.fault c.in_ok-feed.ensures.outcome) c.feed.ensures.stopped

pub returns-clause-stopped : goal.returns-clause-stopped
returns-clause-stopped g c =
    past_going c.args.host.now c.feed.new.host (none_answered c.feed.new.host.fault c.in_ok-feed.ensures.outcome) c.feed.ensures.stopped

pub returns-clause-sink_stopped : goal.returns-clause-sink_stopped
returns-clause-sink_stopped g c =
    past_going c.args.host.now c.feed.new.host (none_answered c.feed.new.host.fault c.in_ok-feed.ensures.outcome) c.feed.ensures.stopped

pub returns-clause-listener_stopped : goal.returns-clause-listener_stopped
returns-clause-listener_stopped g c =
    past_going c.args.host.now c.feed.new.host (none_answered c.feed.new.host.fault c.in_ok-feed.ensures.outcome) c.feed.ensures.stopped

pub returns-in_err-feed-clause-policy : goal.returns-in_err-feed-clause-policy
returns-in_err-feed-clause-policy g c =
    writes_by_the_policy (ACall (call_of c.args.call) ∷ []) c.args.host.now c.feed.new.host c.feed.ensures.stopped _ _
    (λ some. ap g.W.Sink.contents (c.feed.ensures.sink_stopped some)) (λ none. (returns-in_err-feed-clause-processes g c none).feeds)

pub returns-in_err-feed-clause-apart : goal.returns-in_err-feed-clause-apart
returns-in_err-feed-clause-apart g c =
    writes_apart (ACall (call_of c.args.call) ∷ []) c.args.host.now c.feed.new.host c.feed.ensures.stopped _ _
    (λ some. ap g.W.Sink.contents (c.feed.ensures.sink_stopped some)) (λ none. (returns-in_err-feed-clause-processes g c none).feeds)

pub returns-in_err-do_call-clause-policy : goal.returns-in_err-do_call-clause-policy
returns-in_err-do_call-clause-policy g c =
    writes_by_the_policy (ACall (call_of c.args.call) ∷ []) c.args.host.now c.do_call.new.host (returns-in_err-do_call-clause-stopped g c) _ _
    (λ some. ap g.W.Sink.contents (returns-in_err-do_call-clause-sink_stopped g c some)) (λ none. (returns-in_err-do_call-clause-processes g c none).feeds)

pub returns-in_err-do_call-clause-apart : goal.returns-in_err-do_call-clause-apart
returns-in_err-do_call-clause-apart g c =
    writes_apart (ACall (call_of c.args.call) ∷ []) c.args.host.now c.do_call.new.host (returns-in_err-do_call-clause-stopped g c) _ _
    (λ some. ap g.W.Sink.contents (returns-in_err-do_call-clause-sink_stopped g c some)) (λ none. (returns-in_err-do_call-clause-processes g c none).feeds)

pub returns-clause-policy : goal.returns-clause-policy
returns-clause-policy g c =
    writes_by_the_policy (ACall (call_of c.args.call) ∷ []) c.args.host.now c.do_call.new.host (returns-clause-stopped g c) _ _
    (λ some. ap g.W.Sink.contents (returns-clause-sink_stopped g c some)) (λ none. (returns-clause-processes g c none).feeds)

pub returns-clause-apart : goal.returns-clause-apart
returns-clause-apart g c =
    writes_apart (ACall (call_of c.args.call) ∷ []) c.args.host.now c.do_call.new.host (returns-clause-stopped g c) _ _
    (λ some. ap g.W.Sink.contents (returns-clause-sink_stopped g c some)) (λ none. (returns-clause-processes g c none).feeds)
