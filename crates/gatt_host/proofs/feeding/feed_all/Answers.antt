use Rattle.std.proofs.Common.{◌≡◌, List, [], Option, Some, None, refl, sym, subst, ap, drop, ◌∙◌, arith}
use Rattle.std.proofs.lemmas.Grind.{common_steps}
use Rattle.gatt_host.proofs.model.Due.{due_where_held, feeding_by_run, feeding_going, feeding_where, out_where_stopped}
use Rattle.gatt_host.proofs.model.Feeds.{broken_before, counts_where_going, counts_where_written, fault_answered, going_takes, none_answered, settles_going, settles_then, taken_breaks, taken_none, taken_silently, taken_stops, taken_then, written_at, written_by_run, HasTaken}
use Rattle.gatt_host.proofs.model.Hearing.{HasHeard, breaks_heard, heard_all, heard_breaks, heard_none, heard_stops, heard_then, hears_nothing}
use Rattle.gatt_host.proofs.model.Items.{leads_nowhere}
use Rattle.gatt_host.specs.declared.host_fault.HostFault.{HostFault}
use Rattle.gatt_host.proofs.model.Serving.{empty_where}
use Rattle.gatt_host.specs.Feeding.{TakesAll, is_of_feeding, octet_items}
use Rattle.gatt_host.specs.HostModel.{HostModel}
use Rattle.gatt_laws.specs.machine.Notice.{Received}
use Rattle.octet_io.proofs.Writing.{counts_none}
use Rattle.octet_io.specs.Number.{Octets}
use Rattle.gatt_host.proofs.feeding.feed_all.Goals as goal

pub returns-in_err-write_out-clause-processes : goal.returns-in_err-write_out-clause-processes
returns-in_err-write_out-clause-processes g c = record {
  feeds = (
      broken_before [] (octet_items c.args.octets.now) c.args.host.now c.write_out.new.host (g.W.Sink.contents c.args.out.now)
      (g.W.Sink.contents c.write_out.new.out)
      c.write_out.new.host.fault (fault_answered c.write_out.new.host.fault c.in_err-write_out.field-0.0 c.in_err-write_out.ensures.fault
      ∙ ap (λ (why : HostFault). Some why) c.in_err-write_out.ensures.write)
      c.write_out.ensures.feeds);
  feeding =
      feeding_where c.write_out.new.host.fault c.in_err-write_out.field-0.0
      (fault_answered c.write_out.new.host.fault c.in_err-write_out.field-0.0 c.in_err-write_out.ensures.fault)
      (ap is_of_feeding c.in_err-write_out.ensures.write);
  settles = c.write_out.ensures.settles;
}

pub returns-in-Err-clause-processes : goal.returns-in-Err-clause-processes
returns-in-Err-clause-processes g c = record {
  feeds = (
      taken_stops c.args.octets.now c.loop-rest.rest.now c.args.host.now c.loop-rest.host c.take.new.host (g.W.Sink.contents c.args.out.now)
      (g.W.Sink.contents c.loop-rest.out)
      c.take.new.host.fault c.in-Err.field-0 c.loop-rest.invariant.takes c.in-Err.ensures.refines c.in-Err.ensures.fault c.in-Err.ensures.not_own);
  feeding =
      feeding_where c.take.new.host.fault c.in-Err.field-0 c.in-Err.ensures.fault (feeding_by_run c.in-Err.field-0 c.in-Err.ensures.not_own);
  settles = record {
    out = out_where_stopped c.take.new.host c.in-Err.field-0 c.in-Err.ensures.fault;
    due = due_where_held c.loop-rest.host c.take.new.host c.take.new.host.fault c.loop-rest.invariant.none c.loop-rest.invariant.drained
        c.in-Err.ensures.unchanged;
    failures =
        counts_where_written c.take.new.host.fault _ _
        (written_at c.take.new.host.fault c.in-Err.field-0 c.in-Err.ensures.fault (written_by_run c.in-Err.field-0 c.in-Err.ensures.not_own))
        c.loop-rest.invariant.failures;
  };
}

pub returns-in_err-write_out-2-clause-processes : goal.returns-in_err-write_out-2-clause-processes
returns-in_err-write_out-2-clause-processes g c = record {
  feeds = (
      let old : HostModel = c.args.host.now in
      let mid : HostModel = c.take.new.host in
      let new : HostModel = c.write_out-in-loop-rest.new.host in
      let used = c.in-Ok.used in
      let rest : Octets = c.loop-rest.rest.now in
      let before : Option Octets = g.W.Sink.contents c.args.out.now in
      let between : Option Octets = g.W.Sink.contents c.loop-rest.out in
      let after : Option Octets = g.W.Sink.contents c.write_out-in-loop-rest.new.out in
      taken_breaks c.args.octets.now (drop used rest) old mid new before between after new.fault
      (taken_silently c.args.octets.now rest used old c.loop-rest.host mid before between c.loop-rest.invariant.takes c.in-Ok.ensures.refines)
      (fault_answered new.fault c.in_err-write_out-2.field-0.0 c.in_err-write_out-2.ensures.fault
      ∙ ap (λ (why : HostFault). Some why) c.in_err-write_out-2.ensures.write)
      c.write_out-in-loop-rest.ensures.feeds);
  feeding =
      feeding_where c.write_out-in-loop-rest.new.host.fault c.in_err-write_out-2.field-0.0
      (fault_answered c.write_out-in-loop-rest.new.host.fault c.in_err-write_out-2.field-0.0 c.in_err-write_out-2.ensures.fault)
      (ap is_of_feeding c.in_err-write_out-2.ensures.write);
  settles =
      settles_then c.write_out-in-loop-rest.new.host _ _ _ c.loop-rest.invariant.failures c.write_out-in-loop-rest.ensures.settles;
}

pub returns-clause-processes : goal.returns-clause-processes
returns-clause-processes g c = record {
  feeds = grind (arith, common_steps);
  feeding = feeding_going c.loop-rest.host.fault c.loop-rest.invariant.none;
  settles = settles_going c.loop-rest.host _ _ c.loop-rest.invariant.none c.loop-rest.invariant.drained c.loop-rest.invariant.failures;
}

pub loop-rest-preserved : goal.loop-rest-preserved
loop-rest-preserved g c =
    let old : HostModel = c.args.host.now in
    let at : HostModel = c.loop-rest.host in
    let mid : HostModel = c.take.new.host in
    let new : HostModel = c.write_out-in-loop-rest.new.host in
    let used = c.in-Ok.used in
    let rest : Octets = c.loop-rest.rest.now in
    let before : Option Octets = g.W.Sink.contents c.args.out.now in
    let between : Option Octets = g.W.Sink.contents c.loop-rest.out in
    let after : Option Octets = g.W.Sink.contents c.write_out-in-loop-rest.new.out in
    let none : new.fault ≡ None = none_answered new.fault c.in_ok-write_out-2.ensures.fault in
    record {
      takes = subst (λ (left : Octets). HasTaken c.args.octets.now left old new before after) (sym c.split_at.ensures.back)
          (taken_then c.args.octets.now (drop used rest) old mid new before between after
          (taken_silently c.args.octets.now rest used old at mid before between c.loop-rest.invariant.takes c.in-Ok.ensures.refines)
          (going_takes [] mid new between after new.fault none c.write_out-in-loop-rest.ensures.feeds));
      none = none;
      drained = c.write_out-in-loop-rest.ensures.settles.out;
      failures = counts_none _ _ _ c.loop-rest.invariant.failures (counts_where_going new.fault _ _ none c.write_out-in-loop-rest.ensures.settles.failures);
      heard = subst
          (λ (left : Octets). HasHeard c.args.octets.now left old new before after (g.L.Listener.heard c.args.listener.now)
          (g.L.Listener.heard c.deliver_notices.new.listener)) (sym c.split_at.ensures.back)
          (heard_then c.args.octets.now rest used old at mid new before between after (g.L.Listener.heard c.args.listener.now)
          (g.L.Listener.heard c.loop-rest.listener)
          (g.L.Listener.heard c.deliver_notices.new.listener) c.loop-rest.invariant.heard c.loop-rest.invariant.none c.in-Ok.ensures.refines
          c.in-Ok.ensures.told c.in-Ok.ensures.up_to c.deliver_notices.ensures.hears
          (going_takes [] mid new between after new.fault none c.write_out-in-loop-rest.ensures.feeds));
    }

pub returns-in_err-write_out-clause-heard : goal.returns-in_err-write_out-clause-heard
returns-in_err-write_out-clause-heard g c =
    let known : Option (List Received) = g.L.Listener.heard c.args.listener.now in
    breaks_heard [] (octet_items c.args.octets.now) [] c.args.host.now c.args.host.now c.write_out.new.host (g.W.Sink.contents c.args.out.now)
    (g.W.Sink.contents c.write_out.new.out)
    known known c.write_out.new.host.fault
    (fault_answered c.write_out.new.host.fault c.in_err-write_out.field-0.0 c.in_err-write_out.ensures.fault
    ∙ ap (λ (why : HostFault). Some why) c.in_err-write_out.ensures.write)
    (leads_nowhere c.args.host.now c.args.host.now refl) (hears_nothing c.args.host.now known) c.write_out.ensures.feeds

pub returns-in-Err-clause-heard : goal.returns-in-Err-clause-heard
returns-in-Err-clause-heard g c =
    heard_stops c.args.octets.now c.loop-rest.rest.now c.args.host.now c.loop-rest.host c.take.new.host (g.W.Sink.contents c.args.out.now)
    (g.W.Sink.contents c.loop-rest.out)
    (g.L.Listener.heard c.args.listener.now) (g.L.Listener.heard c.loop-rest.listener) c.take.new.host.fault c.in-Err.field-0 c.loop-rest.invariant.heard
    c.loop-rest.invariant.none
    c.in-Err.ensures.told c.in-Err.ensures.fault c.in-Err.ensures.fault c.in-Err.ensures.not_own

pub returns-in_err-write_out-2-clause-heard : goal.returns-in_err-write_out-2-clause-heard
returns-in_err-write_out-2-clause-heard g c =
    let new : HostModel = c.write_out-in-loop-rest.new.host in
    heard_breaks c.args.octets.now c.loop-rest.rest.now c.in-Ok.used c.args.host.now c.loop-rest.host c.take.new.host new
    (g.W.Sink.contents c.args.out.now) (g.W.Sink.contents c.loop-rest.out) (g.W.Sink.contents c.write_out-in-loop-rest.new.out)
    (g.L.Listener.heard c.args.listener.now) (g.L.Listener.heard c.loop-rest.listener) (g.L.Listener.heard c.deliver_notices.new.listener)
    c.loop-rest.invariant.heard c.loop-rest.invariant.none c.in-Ok.ensures.refines c.in-Ok.ensures.told c.in-Ok.ensures.up_to c.deliver_notices.ensures.hears
    new.fault (fault_answered new.fault c.in_err-write_out-2.field-0.0 c.in_err-write_out-2.ensures.fault
    ∙ ap (λ (why : HostFault). Some why) c.in_err-write_out-2.ensures.write)
    c.write_out-in-loop-rest.ensures.feeds

pub loop-rest-init : goal.loop-rest-init
loop-rest-init g c =
    let old : HostModel = c.args.host.now in
    let new : HostModel = c.write_out.new.host in
    let before : Option Octets = g.W.Sink.contents c.args.out.now in
    let after : Option Octets = g.W.Sink.contents c.write_out.new.out in
    let none : new.fault ≡ None = none_answered new.fault c.in_ok-write_out.ensures.fault in
    let takes : TakesAll [] old new before after = going_takes [] old new before after new.fault none c.write_out.ensures.feeds in
    record {
      takes = taken_none c.args.octets.now old new before after takes;
      none = none;
      drained = c.write_out.ensures.settles.out;
      failures = counts_where_going new.fault _ _ none c.write_out.ensures.settles.failures;
      heard = heard_none c.args.octets.now old new before after (g.L.Listener.heard c.args.listener.now) takes;
    }

pub returns-clause-heard : goal.returns-clause-heard
returns-clause-heard g c =
    heard_all c.args.octets.now c.loop-rest.rest.now c.args.host.now c.loop-rest.host (g.W.Sink.contents c.args.out.now) (g.W.Sink.contents c.loop-rest.out)
    (g.L.Listener.heard c.args.listener.now) (g.L.Listener.heard c.loop-rest.listener) c.loop-rest.host.fault c.loop-rest.invariant.heard
    (empty_where c.loop-rest.rest.now (sym c.is_empty.ensures ∙ c.loop-rest-test.false)) c.loop-rest.invariant.none
