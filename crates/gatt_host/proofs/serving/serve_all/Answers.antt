use Rattle.std.proofs.Common.{◌≡◌, ◌+◌, true, List, [], Option, None, Some, Result, Err, refl, sym, subst, ap, arith, ◌∙◌}
use Rattle.std.proofs.KnownBytes.{Consumes-nil, Keeps-refl}
use Rattle.std.proofs.lemmas.Result.{err_from_is_err_and}
use Rattle.std.specs.Io.KnownBytes.{Consumes}
use Rattle.std.specs.Result.{result_err}
use Rattle.gatt_host.proofs.model.Due.{due_in_silence, due_where_held, feeding_at, out_in_silence, out_where_stopped}
use Rattle.gatt_host.proofs.model.Feeds.{counts_where_going, counts_where_written, fault_answered, going_takes, none_answered, settles_then, takes_none, written_at}
use Rattle.gatt_host.proofs.model.Hearing.{going_hears}
use Rattle.gatt_host.proofs.model.HearingTurns.{breaks_serving, ends_serving, nothing_heard, served_to_more, served_to_none, stops_serving}
use Rattle.gatt_host.proofs.model.Serving.{counts_failed, counts_unread, counts_where_none, counts_where_some, empty_where, no_turns, reads_stopped, some_where, kept_where_failed, serves_broken, serves_ended, serves_stopped, served_more, served_none}
use Rattle.gatt_host.specs.declared.host_fault.HostFault.{HostFault}
use Rattle.gatt_host.specs.declared.host_fault.HostFault.TheVariants as stop
use Rattle.gatt_host.specs.declared.serving.End.{End}
use Rattle.gatt_host.specs.Feeding.{is_of_feeding, is_write_fault, TakesAll, octet_items}
use Rattle.gatt_laws.specs.machine.Notice.{Received}
use Rattle.octet_io.specs.Number.{Octets}
use Rattle.gatt_host.specs.HostModel.{HostModel}
use Rattle.octet_io.proofs.Writing.{counts_none, counts_one, counts_same, many_more, many_none}
use Rattle.gatt_host.proofs.serving.serve_all.Goals as goal

pub returns-in_default-clause-serves : goal.returns-in_default-clause-serves
returns-in_default-clause-serves g c =
    serves_stopped c.stop.result stop.Read c.args.turns c.loop-turn.turn c.args.host.now c.loop-turn.host c.stop.new.host
    (g.R.Source.remaining c.args.reader.now) (g.R.Source.remaining c.loop-turn.reader) (g.R.Source.remaining c.read_turn.new.reader)
    (g.W.Sink.contents c.args.writer.now) (g.W.Sink.contents c.loop-turn.writer)
    c.stop.ensures.fault c.loop-turn.invariant.none c.stop.ensures.stopped refl refl
    (kept_where_failed c.read_turn.result c.in_default.not-Ok c.read_turn.ensures.unread) c.loop-turn.invariant.served (λ is. cc is)

pub returns-in_default-clause-reads : goal.returns-in_default-clause-reads
returns-in_default-clause-reads g c =
    reads_stopped c.stop.result stop.Read (c.loop-turn.turn + 1) c.args.turns _ _ _ _ _ _
    c.stop.ensures.fault (many_more c.loop-turn.turn _ _ _ c.loop-turn.invariant.reads c.read_turn.ensures.reads)
    (omega (arith, c.loop-turn-test.true)) (λ is. cc is)
    (counts_none _ _ _ c.loop-turn.invariant.ends (kept_where_failed c.read_turn.result c.in_default.not-Ok c.read_turn.ensures.no_end))
    (counts_one _ _ _ c.loop-turn.invariant.read_failures
    (counts_failed c.read_turn.result _ _ c.in_default.not-Ok c.read_turn.ensures.failures))

pub returns-then-is_empty-clause-serves : goal.returns-then-is_empty-clause-serves
returns-then-is_empty-clause-serves g c =
    let nothing : c.in-Ok.read.now ≡ [] = empty_where c.in-Ok.read.now (sym c.is_empty.ensures ∙ c.if-is_empty.true) in
    serves_ended c.args.turns c.loop-turn.turn c.args.host.now c.loop-turn.host c.end_stream.new.host
    (g.R.Source.remaining c.args.reader.now) (g.R.Source.remaining c.loop-turn.reader) (g.R.Source.remaining c.read_turn.new.reader)
    (g.W.Sink.contents c.args.writer.now) (g.W.Sink.contents c.loop-turn.writer)
    c.end_stream.ensures.fault
    (subst (Consumes (g.R.Source.remaining c.loop-turn.reader) (g.R.Source.remaining c.read_turn.new.reader)) nothing c.in-Ok.ensures.consumed)
    (c.in-Ok.ensures.at_end nothing) c.end_stream.ensures.takes c.loop-turn.invariant.served

pub returns-then-is_empty-clause-reads : goal.returns-then-is_empty-clause-reads
returns-then-is_empty-clause-reads g c = record {
  made = c.loop-turn.turn + 1;
  counted = many_more c.loop-turn.turn _ _ _ c.loop-turn.invariant.reads c.read_turn.ensures.reads;
  most = omega (arith, c.loop-turn-test.true);
  told = refl;
  over = λ is. cc is;
  ends = counts_one _ _ _ c.loop-turn.invariant.ends
      (counts_where_none c.in-Ok.read.now _ _ (sym c.is_empty.ensures ∙ c.if-is_empty.true) c.in-Ok.ensures.ends);
  failures = counts_none _ _ _ c.loop-turn.invariant.read_failures c.in-Ok.ensures.failures;
}

pub returns-clause-reads : goal.returns-clause-reads
returns-clause-reads g c =
    reads_stopped c.stop-2.result stop.Turns c.loop-turn.turn c.args.turns _ _ _ _ _ _
    c.stop-2.ensures.fault c.loop-turn.invariant.reads c.loop-turn.invariant.few
    (λ is. omega (arith, c.loop-turn.invariant.few, c.loop-turn-test.false)) c.loop-turn.invariant.ends c.loop-turn.invariant.read_failures

pub returns-in_err-write_out-clause-reads : goal.returns-in_err-write_out-clause-reads
returns-in_err-write_out-clause-reads g c =
    let stopped = err_from_is_err_and c.from_residual.result c.from_residual.ensures.1 in
    let comes : is_of_feeding c.in_err-write_out.field-0.0 ≡ true = ap is_of_feeding c.in_err-write_out.ensures.write in
    reads_stopped c.from_residual.result c.in_err-write_out.field-0.0 0 c.args.turns _ _ _ _ _ _
    (stopped.1 ∙ ap (λ (why : HostFault). Err why) stopped.2) (many_none _) (omega arith) (no_turns c.in_err-write_out.field-0.0 comes) (counts_same _)
    (counts_unread c.in_err-write_out.field-0.0 _ _ comes (counts_same _))

pub returns-in_err-feed_to-clause-serves : goal.returns-in_err-feed_to-clause-serves
returns-in_err-feed_to-clause-serves g c =
    let stopped = err_from_is_err_and c.from_residual-in_err-feed_to.result c.from_residual-in_err-feed_to.ensures.1 in
    serves_broken c.from_residual-in_err-feed_to.result c.in_err-feed_to.field-0.0 c.args.turns c.loop-turn.turn c.in-Ok.read.now c.args.host.now
    c.loop-turn.host c.feed_to.new.host
    (g.R.Source.remaining c.args.reader.now) (g.R.Source.remaining c.loop-turn.reader) (g.R.Source.remaining c.read_turn.new.reader)
    (g.W.Sink.contents c.args.writer.now) (g.W.Sink.contents c.loop-turn.writer) (g.W.Sink.contents c.feed_to.new.out)
    (stopped.1 ∙ ap (λ (why : HostFault). Err why) stopped.2) (feeding_at c.feed_to.new.host.fault c.in_err-feed_to.field-0.0
    (fault_answered c.feed_to.new.host.fault c.in_err-feed_to.field-0.0 c.in_err-feed_to.ensures.outcome)
    (c.feed_to.ensures.processes c.loop-turn.invariant.none).feeding)
    c.in-Ok.ensures.consumed c.loop-turn.invariant.served (c.feed_to.ensures.processes c.loop-turn.invariant.none).feeds

pub returns-in_err-feed_to-clause-reads : goal.returns-in_err-feed_to-clause-reads
returns-in_err-feed_to-clause-reads g c =
    let stopped = err_from_is_err_and c.from_residual-in_err-feed_to.result c.from_residual-in_err-feed_to.ensures.1 in
    let comes : is_of_feeding c.in_err-feed_to.field-0.0 ≡ true =
    feeding_at c.feed_to.new.host.fault c.in_err-feed_to.field-0.0
    (fault_answered c.feed_to.new.host.fault c.in_err-feed_to.field-0.0 c.in_err-feed_to.ensures.outcome)
    (c.feed_to.ensures.processes c.loop-turn.invariant.none).feeding in
    reads_stopped c.from_residual-in_err-feed_to.result c.in_err-feed_to.field-0.0 (c.loop-turn.turn + 1) c.args.turns _ _ _ _ _ _
    (stopped.1 ∙ ap (λ (why : HostFault). Err why) stopped.2) (many_more c.loop-turn.turn _ _ _ c.loop-turn.invariant.reads c.read_turn.ensures.reads)
    (omega (arith, c.loop-turn-test.true)) (no_turns c.in_err-feed_to.field-0.0 comes)
    (counts_none _ _ _ c.loop-turn.invariant.ends
    (counts_where_some c.in-Ok.read.now _ _ (sym c.is_empty.ensures ∙ c.if-is_empty.false) c.in-Ok.ensures.ends))
    (counts_unread c.in_err-feed_to.field-0.0 _ _ comes (counts_none _ _ _ c.loop-turn.invariant.read_failures c.in-Ok.ensures.failures))

pub loop-turn-preserved : goal.loop-turn-preserved
loop-turn-preserved g c =
    let mid : HostModel = c.loop-turn.host in
    let new : HostModel = c.feed_to.new.host in
    let none : new.fault ≡ None = none_answered new.fault c.in_ok-feed_to.ensures.outcome in
    record {
      served = served_more c.loop-turn.turn c.in-Ok.read.now c.args.host.now mid new
          (g.R.Source.remaining c.args.reader.now) (g.R.Source.remaining c.loop-turn.reader) (g.R.Source.remaining c.read_turn.new.reader)
          (g.W.Sink.contents c.args.writer.now) (g.W.Sink.contents c.loop-turn.writer) (g.W.Sink.contents c.feed_to.new.out)
          c.loop-turn.invariant.served c.in-Ok.ensures.consumed (some_where c.in-Ok.read.now (sym c.is_empty.ensures ∙ c.if-is_empty.false))
          c.in-Ok.ensures.within
          (going_takes (octet_items c.in-Ok.read.now) mid new (g.W.Sink.contents c.loop-turn.writer) (g.W.Sink.contents c.feed_to.new.out) new.fault none
          (c.feed_to.ensures.processes c.loop-turn.invariant.none).feeds);
      few = omega (arith, c.loop-turn-test.true);
      none = none;
      drained = (c.feed_to.ensures.processes c.loop-turn.invariant.none).settles.out;
      reads = many_more c.loop-turn.turn _ _ _ c.loop-turn.invariant.reads c.read_turn.ensures.reads;
      ends = counts_none _ _ _ c.loop-turn.invariant.ends
          (counts_where_some c.in-Ok.read.now _ _ (sym c.is_empty.ensures ∙ c.if-is_empty.false) c.in-Ok.ensures.ends);
      read_failures = counts_none _ _ _ c.loop-turn.invariant.read_failures c.in-Ok.ensures.failures;
      write_failures =
          counts_none _ _ _ c.loop-turn.invariant.write_failures
          (counts_where_going new.fault _ _ none (c.feed_to.ensures.processes c.loop-turn.invariant.none).settles.failures);
      heard = served_to_more c.loop-turn.turn c.in-Ok.read.now c.args.host.now mid new
          (g.R.Source.remaining c.args.reader.now) (g.R.Source.remaining c.loop-turn.reader) (g.R.Source.remaining c.read_turn.new.reader)
          (g.W.Sink.contents c.args.writer.now) (g.W.Sink.contents c.loop-turn.writer) (g.W.Sink.contents c.feed_to.new.out)
          (g.L.Listener.heard c.args.listener.now) (g.L.Listener.heard c.loop-turn.listener) (g.L.Listener.heard c.feed_to.new.listener)
          c.loop-turn.invariant.heard c.in-Ok.ensures.consumed (some_where c.in-Ok.read.now (sym c.is_empty.ensures ∙ c.if-is_empty.false))
          c.in-Ok.ensures.within
          (going_takes (octet_items c.in-Ok.read.now) mid new (g.W.Sink.contents c.loop-turn.writer) (g.W.Sink.contents c.feed_to.new.out) new.fault none
          (c.feed_to.ensures.processes c.loop-turn.invariant.none).feeds)
          (going_hears (octet_items c.in-Ok.read.now) mid new (g.L.Listener.heard c.loop-turn.listener) (g.L.Listener.heard c.feed_to.new.listener) new.fault
          none
          (c.feed_to.ensures.heard c.loop-turn.invariant.none));
    }

pub returns-clause-serves : goal.returns-clause-serves
returns-clause-serves g c =
    serves_stopped c.stop-2.result stop.Turns c.args.turns c.loop-turn.turn c.args.host.now c.loop-turn.host c.stop-2.new.host
    (g.R.Source.remaining c.args.reader.now) (g.R.Source.remaining c.loop-turn.reader) (g.R.Source.remaining c.loop-turn.reader)
    (g.W.Sink.contents c.args.writer.now) (g.W.Sink.contents c.loop-turn.writer)
    c.stop-2.ensures.fault c.loop-turn.invariant.none c.stop-2.ensures.stopped refl refl (Keeps-refl (g.R.Source.remaining c.loop-turn.reader))
    c.loop-turn.invariant.served
    (λ is. omega (arith, c.loop-turn.invariant.few, c.loop-turn-test.false))

pub returns-in_default-clause-settles : goal.returns-in_default-clause-settles
returns-in_default-clause-settles g c =
    let is : c.stop.new.host.fault ≡ Some stop.Read = ap (λ (host : HostModel). host.fault) c.stop.ensures.stopped in
    record {
      out = out_where_stopped c.stop.new.host stop.Read is;
      due = due_where_held c.loop-turn.host c.stop.new.host c.stop.new.host.fault c.loop-turn.invariant.none c.loop-turn.invariant.drained
          (ap (λ (host : HostModel). host.server) c.stop.ensures.stopped);
      failures =
          counts_where_written c.stop.new.host.fault _ _ (written_at c.stop.new.host.fault stop.Read is refl) c.loop-turn.invariant.write_failures;
    }

pub returns-in_default-clause-outcome : goal.returns-in_default-clause-outcome
returns-in_default-clause-outcome g c =
    ap (λ (host : HostModel). host.fault) c.stop.ensures.stopped ∙ sym (ap (λ (result : Result End HostFault). result_err result) c.stop.ensures.fault)

pub returns-in_err-write_out-clause-settles : goal.returns-in_err-write_out-clause-settles
returns-in_err-write_out-clause-settles g c = c.write_out.ensures.settles

pub returns-in_err-write_out-clause-outcome : goal.returns-in_err-write_out-clause-outcome
returns-in_err-write_out-clause-outcome g c =
    let stopped = err_from_is_err_and c.from_residual.result c.from_residual.ensures.1 in
    fault_answered c.write_out.new.host.fault c.in_err-write_out.field-0.0 c.in_err-write_out.ensures.fault
    ∙ sym (ap (λ (result : Result End HostFault). result_err result) (stopped.1 ∙ ap (λ (why : HostFault). Err why) stopped.2))

pub returns-in_err-feed_to-clause-settles : goal.returns-in_err-feed_to-clause-settles
returns-in_err-feed_to-clause-settles g c =
    settles_then c.feed_to.new.host _ _ _ c.loop-turn.invariant.write_failures (c.feed_to.ensures.processes c.loop-turn.invariant.none).settles

pub returns-in_err-feed_to-clause-outcome : goal.returns-in_err-feed_to-clause-outcome
returns-in_err-feed_to-clause-outcome g c =
    let stopped = err_from_is_err_and c.from_residual-in_err-feed_to.result c.from_residual-in_err-feed_to.ensures.1 in
    fault_answered c.feed_to.new.host.fault c.in_err-feed_to.field-0.0 c.in_err-feed_to.ensures.outcome
    ∙ sym (ap (λ (result : Result End HostFault). result_err result) (stopped.1 ∙ ap (λ (why : HostFault). Err why) stopped.2))

pub returns-then-is_empty-clause-settles : goal.returns-then-is_empty-clause-settles
returns-then-is_empty-clause-settles g c = record {
  out = out_in_silence c.loop-turn.host c.end_stream.new.host c.loop-turn.invariant.none c.end_stream.ensures.fault c.loop-turn.invariant.drained
      c.end_stream.ensures.server;
  due = due_in_silence c.loop-turn.host c.end_stream.new.host c.end_stream.new.host.fault c.loop-turn.invariant.none c.loop-turn.invariant.drained
      c.end_stream.ensures.server;
  failures =
      counts_where_written c.end_stream.new.host.fault _ _ (ap is_write_fault c.end_stream.ensures.fault) c.loop-turn.invariant.write_failures;
}

pub returns-clause-settles : goal.returns-clause-settles
returns-clause-settles g c =
    let is : c.stop-2.new.host.fault ≡ Some stop.Turns = ap (λ (host : HostModel). host.fault) c.stop-2.ensures.stopped in
    record {
      out = out_where_stopped c.stop-2.new.host stop.Turns is;
      due = due_where_held c.loop-turn.host c.stop-2.new.host c.stop-2.new.host.fault c.loop-turn.invariant.none c.loop-turn.invariant.drained
          (ap (λ (host : HostModel). host.server) c.stop-2.ensures.stopped);
      failures =
          counts_where_written c.stop-2.new.host.fault _ _ (written_at c.stop-2.new.host.fault stop.Turns is refl)
          c.loop-turn.invariant.write_failures;
    }

pub returns-clause-outcome : goal.returns-clause-outcome
returns-clause-outcome g c =
    ap (λ (host : HostModel). host.fault) c.stop-2.ensures.stopped ∙ sym (ap (λ (result : Result End HostFault). result_err result) c.stop-2.ensures.fault)

pub returns-in_err-write_out-clause-heard : goal.returns-in_err-write_out-clause-heard
returns-in_err-write_out-clause-heard g c =
    record {
      read = [];
      consumed = Consumes-nil (g.R.Source.remaining c.args.reader.now);
      listens = nothing_heard c.args.host.now c.write_out.new.host (g.W.Sink.contents c.args.writer.now) (g.W.Sink.contents c.write_out.new.out)
          (g.L.Listener.heard c.args.listener.now) c.write_out.new.host.fault c.write_out.ensures.feeds;
    }

pub returns-in_default-clause-heard : goal.returns-in_default-clause-heard
returns-in_default-clause-heard g c =
    stops_serving c.loop-turn.turn c.args.host.now c.loop-turn.host c.stop.new.host
    (g.R.Source.remaining c.args.reader.now) (g.R.Source.remaining c.loop-turn.reader) (g.R.Source.remaining c.read_turn.new.reader)
    (g.W.Sink.contents c.args.writer.now) (g.W.Sink.contents c.loop-turn.writer) (g.L.Listener.heard c.args.listener.now)
    (g.L.Listener.heard c.loop-turn.listener)
    (Some stop.Read) (ap (λ (host : HostModel). host.fault) c.stop.ensures.stopped) refl c.loop-turn.invariant.heard
    (kept_where_failed c.read_turn.result c.in_default.not-Ok c.read_turn.ensures.unread)

pub returns-then-is_empty-clause-heard : goal.returns-then-is_empty-clause-heard
returns-then-is_empty-clause-heard g c =
    let nothing : c.in-Ok.read.now ≡ [] = empty_where c.in-Ok.read.now (sym c.is_empty.ensures ∙ c.if-is_empty.true) in
    ends_serving c.loop-turn.turn c.args.host.now c.loop-turn.host c.end_stream.new.host
    (g.R.Source.remaining c.args.reader.now) (g.R.Source.remaining c.loop-turn.reader) (g.R.Source.remaining c.read_turn.new.reader)
    (g.W.Sink.contents c.args.writer.now) (g.W.Sink.contents c.loop-turn.writer) (g.L.Listener.heard c.args.listener.now)
    (g.L.Listener.heard c.loop-turn.listener)
    None c.end_stream.ensures.fault refl c.loop-turn.invariant.heard
    (subst (Consumes (g.R.Source.remaining c.loop-turn.reader) (g.R.Source.remaining c.read_turn.new.reader)) nothing c.in-Ok.ensures.consumed)

pub returns-in_err-feed_to-clause-heard : goal.returns-in_err-feed_to-clause-heard
returns-in_err-feed_to-clause-heard g c =
    breaks_serving c.loop-turn.turn c.in-Ok.read.now c.args.host.now c.loop-turn.host c.feed_to.new.host
    (g.R.Source.remaining c.args.reader.now) (g.R.Source.remaining c.loop-turn.reader) (g.R.Source.remaining c.read_turn.new.reader)
    (g.W.Sink.contents c.args.writer.now) (g.W.Sink.contents c.loop-turn.writer) (g.W.Sink.contents c.feed_to.new.out)
    (g.L.Listener.heard c.args.listener.now) (g.L.Listener.heard c.loop-turn.listener) (g.L.Listener.heard c.feed_to.new.listener)
    c.loop-turn.invariant.heard c.in-Ok.ensures.consumed (c.feed_to.ensures.heard c.loop-turn.invariant.none)

pub returns-clause-heard : goal.returns-clause-heard
returns-clause-heard g c =
    stops_serving c.loop-turn.turn c.args.host.now c.loop-turn.host c.stop-2.new.host
    (g.R.Source.remaining c.args.reader.now) (g.R.Source.remaining c.loop-turn.reader) (g.R.Source.remaining c.loop-turn.reader)
    (g.W.Sink.contents c.args.writer.now) (g.W.Sink.contents c.loop-turn.writer) (g.L.Listener.heard c.args.listener.now)
    (g.L.Listener.heard c.loop-turn.listener)
    (Some stop.Turns) (ap (λ (host : HostModel). host.fault) c.stop-2.ensures.stopped) refl c.loop-turn.invariant.heard
    (Keeps-refl (g.R.Source.remaining c.loop-turn.reader))

pub loop-turn-init : goal.loop-turn-init
loop-turn-init g c =
    let old : HostModel = c.args.host.now in
    let new : HostModel = c.write_out.new.host in
    let remaining : Option Octets = g.R.Source.remaining c.args.reader.now in
    let before : Option Octets = g.W.Sink.contents c.args.writer.now in
    let after : Option Octets = g.W.Sink.contents c.write_out.new.out in
    let known : Option (List Received) = g.L.Listener.heard c.args.listener.now in
    let still : new.fault ≡ None = none_answered new.fault c.in_ok-write_out.ensures.fault in
    let none : old.fault ≡ None = c.requires.none in
    let takes : TakesAll [] old new before after = going_takes [] old new before after new.fault still c.write_out.ensures.feeds in
    record {
      served = served_none old new remaining before after takes;
      few = omega arith;
      none = still;
      drained = c.write_out.ensures.settles.out;
      reads = many_none _;
      ends = counts_same _;
      read_failures = counts_same _;
      write_failures = counts_where_going new.fault _ _ still c.write_out.ensures.settles.failures;
      heard = served_to_none old new remaining before after known takes;
    }

pub returns-in_err-write_out-clause-serves : goal.returns-in_err-write_out-clause-serves
returns-in_err-write_out-clause-serves g c =
    let old : HostModel = c.args.host.now in
    let remaining : Option Octets = g.R.Source.remaining c.args.reader.now in
    let before : Option Octets = g.W.Sink.contents c.args.writer.now in
    let stopped = err_from_is_err_and c.from_residual.result c.from_residual.ensures.1 in
    serves_broken c.from_residual.result c.in_err-write_out.field-0.0 c.args.turns 0 [] old old c.write_out.new.host remaining remaining remaining before before
    (g.W.Sink.contents c.write_out.new.out)
    (stopped.1 ∙ ap (λ (why : HostFault). Err why) stopped.2) (ap is_of_feeding c.in_err-write_out.ensures.write) (Consumes-nil remaining)
    (served_none old old remaining before before (takes_none old before)) c.write_out.ensures.feeds
