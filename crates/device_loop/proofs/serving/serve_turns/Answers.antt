use Rattle.std.proofs.Common.{◌≡◌, ◌+◌, List, [], ◌∷◌, Option, None, ap, arith}
use Rattle.std.proofs.lemmas.Result.{err_from_is_err_and}
use Rattle.device_loop.proofs.Happened.{Goes, call_comes, ended_recorded, failed_recorded, goes_as, known_as, octets_come, served_more, served_none, serves_all, serves_ended, serves_nothing, serves_stopped}
use Rattle.device_loop.proofs.serving.serve_turns.Goals as goal
use Rattle.device_loop.proofs.serving.serve_turns.Goals.{in-Octets+in_ok-feed_to-in-Octets, in-Call+in_ok-take_call-in-Call}
use Rattle.device_loop.specs.declared.serving.End.TheVariants as end
use Rattle.device_loop.specs.Happenings.{Came, Asked}
use Rattle.device_loop.specs.Serving.{Known, known}
use Rattle.gatt_host.proofs.model.Due.{feeding_going}
use Rattle.gatt_host.proofs.model.Feeds.{counts_where_going, going_takes, none_answered, none_before, settles_going, settles_then}
use Rattle.gatt_host.proofs.model.Hearing.{going_hears}
use Rattle.gatt_host.specs.Calls.{call_of}
use Rattle.gatt_host.specs.Feeding.{octet_items}
use Rattle.gatt_host.specs.HostModel.{HostModel}
use Rattle.gatt_laws.specs.machine.Input.{ACall}
use Rattle.gatt_laws.specs.machine.Notice.{Received}
use Rattle.octet_io.proofs.Writing.{counts_none}
use Rattle.octet_io.specs.Number.{Octets}

pub returns-in_err-feed-clause-serves : goal.returns-in_err-feed-clause-serves
returns-in_err-feed-clause-serves g c = λ none.
    let stopped = err_from_is_err_and c.from_residual.result c.from_residual.ensures.1 in
    serves_nothing c.from_residual.result c.args.turns stopped.0 c.args.host.now c.feed.new.host
    (known (g.H.Happenings.octets c.args.happenings.now) (g.H.Happenings.calls c.args.happenings.now) (g.H.Happenings.history c.args.happenings.now))
    (g.W.Sink.contents c.args.out.now) (g.W.Sink.contents c.feed.new.out) (g.L.Listener.heard c.args.listener.now) stopped.1 none
    (c.feed.ensures.processes none).feeds

pub returns-in_err-feed-clause-settles : goal.returns-in_err-feed-clause-settles
returns-in_err-feed-clause-settles g c = λ none. (c.feed.ensures.processes none).settles

pub returns-in_err-feed-clause-feeding : goal.returns-in_err-feed-clause-feeding
returns-in_err-feed-clause-feeding g c = λ none. (c.feed.ensures.processes none).feeding

pub loop-turn-init : goal.loop-turn-init
loop-turn-init g c =
    let old : HostModel = c.args.host.now in
    let new : HostModel = c.feed.new.host in
    let before : Option Octets = g.W.Sink.contents c.args.out.now in
    let after : Option Octets = g.W.Sink.contents c.feed.new.out in
    let still : new.fault ≡ None = none_answered new.fault c.in_ok-feed.ensures.outcome in
    let none : old.fault ≡ None = none_before old new c.in_ok-feed.ensures.stopped still in
    record {
      served = served_none old new
          (known (g.H.Happenings.octets c.args.happenings.now) (g.H.Happenings.calls c.args.happenings.now) (g.H.Happenings.history c.args.happenings.now))
          before after (g.L.Listener.heard c.args.listener.now) (going_takes [] old new before after new.fault still (c.feed.ensures.processes none).feeds);
      began = none;
      few = omega arith;
      none = still;
      drained = (c.feed.ensures.processes none).settles.out;
      failures = counts_where_going new.fault _ _ still (c.feed.ensures.processes none).settles.failures;
    }

pub returns-in_err-feed_to-in-Octets-clause-serves : goal.returns-in_err-feed_to-in-Octets-clause-serves
returns-in_err-feed_to-in-Octets-clause-serves g c = λ none.
    let come : Known =
    known (g.H.Happenings.octets c.args.happenings.now) (g.H.Happenings.calls c.args.happenings.now) (g.H.Happenings.history c.args.happenings.now) in
    let between : Known =
    known (g.H.Happenings.octets c.loop-turn.happenings) (g.H.Happenings.calls c.loop-turn.happenings) (g.H.Happenings.history c.loop-turn.happenings) in
    let comes : Known = known (g.H.Happenings.octets c.next.new.self) (g.H.Happenings.calls c.next.new.self) (g.H.Happenings.history c.next.new.self) in
    let stopped = err_from_is_err_and c.from_residual-in_err-feed_to-in-Octets.result c.from_residual-in_err-feed_to-in-Octets.ensures.1 in
    serves_stopped c.loop-turn._turn c.args.host.now c.loop-turn.host come between (g.W.Sink.contents c.args.out.now) (g.W.Sink.contents c.loop-turn.out)
    (g.L.Listener.heard c.args.listener.now) (g.L.Listener.heard c.loop-turn.listener) c.loop-turn.invariant.served
    c.from_residual-in_err-feed_to-in-Octets.result c.args.turns stopped.0 (Came c.in-Octets.octets.now) c.feed_to.new.host comes
    (g.W.Sink.contents c.feed_to.new.out) (g.L.Listener.heard c.feed_to.new.listener) stopped.1 (omega (arith, c.loop-turn-test.true))
    c.loop-turn.invariant.none
    (octets_come c.in-Octets.octets.now c.deadline.result c.loop-turn.host between comes c.deadline.ensures.run
    c.in-Octets.ensures.octets c.in-Octets.ensures.calls c.in-Octets.ensures.history)
    (c.feed_to.ensures.processes c.loop-turn.invariant.none).feeds (c.feed_to.ensures.heard c.loop-turn.invariant.none)

pub returns-in_err-feed_to-in-Octets-clause-settles : goal.returns-in_err-feed_to-in-Octets-clause-settles
returns-in_err-feed_to-in-Octets-clause-settles g c =
    λ none. settles_then c.feed_to.new.host _ _ _ c.loop-turn.invariant.failures (c.feed_to.ensures.processes c.loop-turn.invariant.none).settles

pub returns-in_err-feed_to-in-Octets-clause-feeding : goal.returns-in_err-feed_to-in-Octets-clause-feeding
returns-in_err-feed_to-in-Octets-clause-feeding g c = λ none. (c.feed_to.ensures.processes c.loop-turn.invariant.none).feeding

pub returns-in_err-take_call-in-Call-clause-serves : goal.returns-in_err-take_call-in-Call-clause-serves
returns-in_err-take_call-in-Call-clause-serves g c = λ none.
    let come : Known =
    known (g.H.Happenings.octets c.args.happenings.now) (g.H.Happenings.calls c.args.happenings.now) (g.H.Happenings.history c.args.happenings.now) in
    let between : Known =
    known (g.H.Happenings.octets c.loop-turn.happenings) (g.H.Happenings.calls c.loop-turn.happenings) (g.H.Happenings.history c.loop-turn.happenings) in
    let asks : Known = known (g.H.Happenings.octets c.next.new.self) (g.H.Happenings.calls c.next.new.self) (g.H.Happenings.history c.next.new.self) in
    let comes : Known =
    known (g.H.Happenings.octets c.take_call.new.happenings) (g.H.Happenings.calls c.take_call.new.happenings)
    (g.H.Happenings.history c.take_call.new.happenings) in
    let stopped = err_from_is_err_and c.from_residual-in_err-take_call-in-Call.result c.from_residual-in_err-take_call-in-Call.ensures.1 in
    serves_stopped c.loop-turn._turn c.args.host.now c.loop-turn.host come between (g.W.Sink.contents c.args.out.now) (g.W.Sink.contents c.loop-turn.out)
    (g.L.Listener.heard c.args.listener.now) (g.L.Listener.heard c.loop-turn.listener) c.loop-turn.invariant.served
    c.from_residual-in_err-take_call-in-Call.result c.args.turns stopped.0 (Asked (call_of c.in-Call.call)) c.take_call.new.host comes
    (g.W.Sink.contents c.take_call.new.out) (g.L.Listener.heard c.take_call.new.listener) stopped.1 (omega (arith, c.loop-turn-test.true))
    c.loop-turn.invariant.none
    (call_comes (call_of c.in-Call.call) c.deadline.result c.loop-turn.host between asks comes c.deadline.ensures.run
    c.in-Call.ensures.octets c.in-Call.ensures.calls c.in-Call.ensures.history c.take_call.ensures.octets c.take_call.ensures.calls c.take_call.ensures.answer)
    c.take_call.ensures.processes.feeds c.take_call.ensures.heard

pub returns-in_err-take_call-in-Call-clause-settles : goal.returns-in_err-take_call-in-Call-clause-settles
returns-in_err-take_call-in-Call-clause-settles g c =
    λ none. settles_then c.take_call.new.host _ _ _ c.loop-turn.invariant.failures c.take_call.ensures.processes.settles

pub returns-in_err-take_call-in-Call-clause-feeding : goal.returns-in_err-take_call-in-Call-clause-feeding
returns-in_err-take_call-in-Call-clause-feeding g c = λ none. c.take_call.ensures.processes.feeding

pub returns-in-Ended-clause-serves : goal.returns-in-Ended-clause-serves
returns-in-Ended-clause-serves g c = λ none.
    let come : Known =
    known (g.H.Happenings.octets c.args.happenings.now) (g.H.Happenings.calls c.args.happenings.now) (g.H.Happenings.history c.args.happenings.now) in
    let between : Known =
    known (g.H.Happenings.octets c.loop-turn.happenings) (g.H.Happenings.calls c.loop-turn.happenings) (g.H.Happenings.history c.loop-turn.happenings) in
    let comes : Known = known (g.H.Happenings.octets c.next.new.self) (g.H.Happenings.calls c.next.new.self) (g.H.Happenings.history c.next.new.self) in
    serves_ended c.loop-turn._turn c.args.host.now c.loop-turn.host come between (g.W.Sink.contents c.args.out.now) (g.W.Sink.contents c.loop-turn.out)
    (g.L.Listener.heard c.args.listener.now) (g.L.Listener.heard c.loop-turn.listener) c.loop-turn.invariant.served
    c.args.turns end.Ended comes c.loop-turn.invariant.none (omega (arith, c.loop-turn-test.true)) c.in-Ended.ensures.octets c.in-Ended.ensures.calls
    (ended_recorded c.deadline.result c.loop-turn.host between.history comes.history comes.history c.deadline.ensures.run c.in-Ended.ensures.history)

pub returns-in-Ended-clause-settles : goal.returns-in-Ended-clause-settles
returns-in-Ended-clause-settles g c =
    λ none. settles_going c.loop-turn.host _ _ c.loop-turn.invariant.none c.loop-turn.invariant.drained c.loop-turn.invariant.failures

pub returns-in-Ended-clause-feeding : goal.returns-in-Ended-clause-feeding
returns-in-Ended-clause-feeding g c = λ none. feeding_going c.loop-turn.host.fault c.loop-turn.invariant.none

pub returns-in-Failed-clause-serves : goal.returns-in-Failed-clause-serves
returns-in-Failed-clause-serves g c = λ none.
    let come : Known =
    known (g.H.Happenings.octets c.args.happenings.now) (g.H.Happenings.calls c.args.happenings.now) (g.H.Happenings.history c.args.happenings.now) in
    let between : Known =
    known (g.H.Happenings.octets c.loop-turn.happenings) (g.H.Happenings.calls c.loop-turn.happenings) (g.H.Happenings.history c.loop-turn.happenings) in
    let comes : Known = known (g.H.Happenings.octets c.next.new.self) (g.H.Happenings.calls c.next.new.self) (g.H.Happenings.history c.next.new.self) in
    serves_ended c.loop-turn._turn c.args.host.now c.loop-turn.host come between (g.W.Sink.contents c.args.out.now) (g.W.Sink.contents c.loop-turn.out)
    (g.L.Listener.heard c.args.listener.now) (g.L.Listener.heard c.loop-turn.listener) c.loop-turn.invariant.served
    c.args.turns end.Failed comes c.loop-turn.invariant.none (omega (arith, c.loop-turn-test.true)) c.in-Failed.ensures.octets c.in-Failed.ensures.calls
    (failed_recorded c.deadline.result c.loop-turn.host between.history comes.history comes.history c.deadline.ensures.run c.in-Failed.ensures.history)

pub returns-in-Failed-clause-settles : goal.returns-in-Failed-clause-settles
returns-in-Failed-clause-settles g c =
    λ none. settles_going c.loop-turn.host _ _ c.loop-turn.invariant.none c.loop-turn.invariant.drained c.loop-turn.invariant.failures

pub returns-in-Failed-clause-feeding : goal.returns-in-Failed-clause-feeding
returns-in-Failed-clause-feeding g c = λ none. feeding_going c.loop-turn.host.fault c.loop-turn.invariant.none

pub loop-turn-preserved : goal.loop-turn-preserved
loop-turn-preserved g c =
    let old : HostModel = c.args.host.now in
    let mid : HostModel = c.loop-turn.host in
    let come : Known =
    known (g.H.Happenings.octets c.args.happenings.now) (g.H.Happenings.calls c.args.happenings.now) (g.H.Happenings.history c.args.happenings.now) in
    let between : Known =
    known (g.H.Happenings.octets c.loop-turn.happenings) (g.H.Happenings.calls c.loop-turn.happenings) (g.H.Happenings.history c.loop-turn.happenings) in
    let asks : Known = known (g.H.Happenings.octets c.next.new.self) (g.H.Happenings.calls c.next.new.self) (g.H.Happenings.history c.next.new.self) in
    let knows : Known =
    known (g.H.Happenings.octets c.match-next.happenings) (g.H.Happenings.calls c.match-next.happenings) (g.H.Happenings.history c.match-next.happenings) in
    let before : Option Octets = g.W.Sink.contents c.args.out.now in
    let written : Option Octets = g.W.Sink.contents c.loop-turn.out in
    let holds : Option Octets = g.W.Sink.contents c.match-next.out in
    let heard : Option (List Received) = g.L.Listener.heard c.args.listener.now in
    let so_far : Option (List Received) = g.L.Listener.heard c.loop-turn.listener in
    let hearing : Option (List Received) = g.L.Listener.heard c.match-next.listener in
    let goes : Goes (c.loop-turn._turn + 1) old c.match-next.host come knows before holds heard hearing (g.W.Sink.failures c.args.out.now)
    (g.W.Sink.failures c.match-next.out) =
    elim c.match-next.branch [
      | in-Octets+in_ok-feed_to-in-Octets w ↦
          let octets : Octets = w.in-Octets.octets.now in
          let new : HostModel = w.feed_to.new.host in
          let after : Option Octets = g.W.Sink.contents w.feed_to.new.out in
          let hears : Option (List Received) = g.L.Listener.heard w.feed_to.new.listener in
          let none : new.fault ≡ None = none_answered new.fault w.in_ok-feed_to-in-Octets.ensures.outcome in
          goes_as (c.loop-turn._turn + 1) old new c.match-next.host come asks knows before after holds heard hears hearing
          (g.W.Sink.failures c.args.out.now) (g.W.Sink.failures w.feed_to.new.out) (g.W.Sink.failures c.match-next.out)
          w.host-is
          (known_as _ _ _ _ _ _ (ap g.H.Happenings.octets w.happenings-is) (ap g.H.Happenings.calls w.happenings-is)
          (ap g.H.Happenings.history w.happenings-is))
          (ap g.W.Sink.contents w.out-is) (ap g.L.Listener.heard w.listener-is) (ap g.W.Sink.failures w.out-is)
          (record {
            served =
                served_more c.loop-turn._turn old mid come between before written heard so_far c.loop-turn.invariant.served (Came octets) new asks after hears
                (octets_come octets c.deadline.result mid between asks c.deadline.ensures.run
                w.in-Octets.ensures.octets w.in-Octets.ensures.calls w.in-Octets.ensures.history)
                (going_takes (octet_items octets) mid new written after new.fault none (w.feed_to.ensures.processes c.loop-turn.invariant.none).feeds)
                (going_hears (octet_items octets) mid new so_far hears new.fault none (w.feed_to.ensures.heard c.loop-turn.invariant.none));
            none = none;
            drained = (w.feed_to.ensures.processes c.loop-turn.invariant.none).settles.out;
            failures =
                counts_none _ _ _ c.loop-turn.invariant.failures
                (counts_where_going new.fault _ _ none (w.feed_to.ensures.processes c.loop-turn.invariant.none).settles.failures);
          })
      | in-Call+in_ok-take_call-in-Call w ↦
          let new : HostModel = w.take_call.new.host in
          let comes : Known =
          known (g.H.Happenings.octets w.take_call.new.happenings) (g.H.Happenings.calls w.take_call.new.happenings)
          (g.H.Happenings.history w.take_call.new.happenings) in
          let after : Option Octets = g.W.Sink.contents w.take_call.new.out in
          let hears : Option (List Received) = g.L.Listener.heard w.take_call.new.listener in
          let none : new.fault ≡ None = none_answered new.fault w.in_ok-take_call-in-Call.ensures.outcome in
          goes_as (c.loop-turn._turn + 1) old new c.match-next.host come comes knows before after holds heard hears hearing
          (g.W.Sink.failures c.args.out.now) (g.W.Sink.failures w.take_call.new.out) (g.W.Sink.failures c.match-next.out)
          w.host-is
          (known_as _ _ _ _ _ _ (ap g.H.Happenings.octets w.happenings-is) (ap g.H.Happenings.calls w.happenings-is)
          (ap g.H.Happenings.history w.happenings-is))
          (ap g.W.Sink.contents w.out-is) (ap g.L.Listener.heard w.listener-is) (ap g.W.Sink.failures w.out-is)
          (record {
            served =
                served_more c.loop-turn._turn old mid come between before written heard so_far c.loop-turn.invariant.served (Asked (call_of w.in-Call.call)) new
                comes after hears
                (call_comes (call_of w.in-Call.call) c.deadline.result mid between asks comes c.deadline.ensures.run
                w.in-Call.ensures.octets w.in-Call.ensures.calls w.in-Call.ensures.history w.take_call.ensures.octets w.take_call.ensures.calls
                w.take_call.ensures.answer)
                (going_takes (ACall (call_of w.in-Call.call) ∷ []) mid new written after new.fault none w.take_call.ensures.processes.feeds)
                (going_hears (ACall (call_of w.in-Call.call) ∷ []) mid new so_far hears new.fault none w.take_call.ensures.heard);
            none = none;
            drained = w.take_call.ensures.processes.settles.out;
            failures = counts_none _ _ _ c.loop-turn.invariant.failures (counts_where_going new.fault _ _ none w.take_call.ensures.processes.settles.failures);
          })
    ] in
    record {
      served = goes.served;
      began = c.loop-turn.invariant.began;
      few = omega (arith, c.loop-turn-test.true);
      none = goes.none;
      drained = goes.drained;
      failures = goes.failures;
    }

pub returns-clause-serves : goal.returns-clause-serves
returns-clause-serves g c = λ none.
    serves_all c.loop-turn._turn c.args.host.now c.loop-turn.host
    (known (g.H.Happenings.octets c.args.happenings.now) (g.H.Happenings.calls c.args.happenings.now) (g.H.Happenings.history c.args.happenings.now))
    (known (g.H.Happenings.octets c.loop-turn.happenings) (g.H.Happenings.calls c.loop-turn.happenings) (g.H.Happenings.history c.loop-turn.happenings))
    (g.W.Sink.contents c.args.out.now) (g.W.Sink.contents c.loop-turn.out)
    (g.L.Listener.heard c.args.listener.now) (g.L.Listener.heard c.loop-turn.listener) c.loop-turn.invariant.served
    c.args.turns c.loop-turn.invariant.none (omega (arith, c.loop-turn.invariant.few, c.loop-turn-test.false))

pub returns-clause-settles : goal.returns-clause-settles
returns-clause-settles g c =
    λ none. settles_going c.loop-turn.host _ _ c.loop-turn.invariant.none c.loop-turn.invariant.drained c.loop-turn.invariant.failures

pub returns-clause-feeding : goal.returns-clause-feeding
returns-clause-feeding g c = λ none. feeding_going c.loop-turn.host.fault c.loop-turn.invariant.none
