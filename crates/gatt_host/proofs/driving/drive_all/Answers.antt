use Rattle.std.proofs.Common.{◌≡◌, ℕ, ◌≤◌, ◌+◌, List, [], drop, Option, None, sym, subst, ap, arith, ◌∙◌}
use Rattle.std.proofs.lemmas.List.{drop_all}
use Rattle.std.specs.Prelude.{if◌then◌else◌}
use Rattle.gatt_host.proofs.model.Driving.{HasDriven, driven_counts, driven_more, driven_none, driven_stops, past_fault, no_more, one_more}
use Rattle.std.proofs.lemmas.Grind.{common_steps}
use Rattle.gatt_host.proofs.model.Due.{feeding_at, feeding_going, feeding_where}
use Rattle.gatt_host.proofs.model.Hearing.{going_hears, hears_nothing, past_heard}
use Rattle.gatt_host.proofs.model.HearingTurns.{HasDrivenTo, driven_to_all, driven_to_more, driven_to_stops, nothing_heard}
use Rattle.gatt_host.proofs.model.Feeds.{counts_where_going, fault_answered, going_takes, none_answered, settles_going, settles_then}
use Rattle.gatt_host.specs.Feeding.{is_of_feeding, TakesAll, items_of}
use Rattle.gatt_host.specs.HostModel.{HostModel}
use Rattle.gatt_laws.specs.machine.Notice.{Received}
use Rattle.octet_io.proofs.Writing.{counts_none}
use Rattle.octet_io.specs.Number.{Octets}
use Rattle.gatt_host.proofs.driving.drive_all.Goals as goal
use Rattle.gatt_host.proofs.driving.drive_all.Goals.{then-branch, else-branch}

pub returns-in_err-write_out-clause-processes : goal.returns-in_err-write_out-clause-processes
returns-in_err-write_out-clause-processes g c = record {
  feeds = (
      let new : HostModel = c.write_out.new.host in
      past_fault [] (items_of c.args.inputs.now) c.args.host.now new (g.W.Sink.contents c.args.out.now) (g.W.Sink.contents c.write_out.new.out)
      c.in_err-write_out.field-0.0
      (fault_answered new.fault c.in_err-write_out.field-0.0 c.in_err-write_out.ensures.fault) (ap is_of_feeding c.in_err-write_out.ensures.write)
      c.write_out.ensures.feeds);
  feeding =
      feeding_where c.write_out.new.host.fault c.in_err-write_out.field-0.0
      (fault_answered c.write_out.new.host.fault c.in_err-write_out.field-0.0 c.in_err-write_out.ensures.fault)
      (ap is_of_feeding c.in_err-write_out.ensures.write);
  settles = c.write_out.ensures.settles;
}

pub returns-in_err-take_input-clause-processes : goal.returns-in_err-take_input-clause-processes
returns-in_err-take_input-clause-processes g c = record {
  feeds = (
      driven_stops c.args.inputs.now c.loop-input.input-index _ c.loop-input-test.true c.loop-input.refused c.args.host.now c.loop-input.host
      c.take_input.new.host
      (g.W.Sink.contents c.args.out.now) (g.W.Sink.contents c.loop-input.out) (g.W.Sink.contents c.take_input.new.out) c.loop-input.invariant.driven
      c.in_err-take_input.field-0.0 c.in_err-take_input.ensures.fault
      (feeding_at c.take_input.new.host.fault c.in_err-take_input.field-0.0 c.in_err-take_input.ensures.fault
      c.take_input.ensures.processes.feeding) c.take_input.ensures.processes.feeds);
  feeding = c.take_input.ensures.processes.feeding;
  settles = settles_then c.take_input.new.host _ _ _ c.loop-input.invariant.failures c.take_input.ensures.processes.settles;
}

pub returns-clause-processes : goal.returns-clause-processes
returns-clause-processes g c = record {
  feeds = grind (arith, common_steps);
  feeding = feeding_going c.loop-input.host.fault c.loop-input.invariant.none;
  settles = settles_going c.loop-input.host _ _ c.loop-input.invariant.none c.loop-input.invariant.drained c.loop-input.invariant.failures;
}

pub loop-input-preserved : goal.loop-input-preserved
loop-input-preserved g c =
    let mid : HostModel = c.loop-input.host in
    let new : HostModel = c.take_input.new.host in
    let count = c.loop-input.refused in
    let refused = c.in_ok-take_input.field-0 in
    let none : new.fault ≡ None = c.in_ok-take_input.ensures.fault in
    let counted : c.if-branch.refused ≡ count + (if refused then 1 else 0) =
    elim c.if-branch.branch [
      | then-branch w ↦ w.refused-is ∙ one_more count refused w.if-branch.true
      | else-branch w ↦ w.refused-is ∙ no_more count refused w.if-branch.false
    ] in
    let few : c.if-branch.refused ≤ c.loop-input.input-index + 1 =
    elim c.if-branch.branch [
      | then-branch w ↦ omega (arith, w.refused-is, c.loop-input.invariant.few)
      | else-branch w ↦ omega (arith, w.refused-is, c.loop-input.invariant.few)
    ] in
    let before : Option Octets = g.W.Sink.contents c.args.out.now in
    let between : Option Octets = g.W.Sink.contents c.loop-input.out in
    let after : Option Octets = g.W.Sink.contents c.take_input.new.out in
    let first : Option (List Received) = g.L.Listener.heard c.args.listener.now in
    let so_far : Option (List Received) = g.L.Listener.heard c.loop-input.listener in
    let then_heard : Option (List Received) = g.L.Listener.heard c.take_input.new.listener in
    record {
      driven = subst (λ (count : ℕ). HasDriven count c.args.inputs.now (drop (c.loop-input.input-index + 1) c.args.inputs.now) c.args.host.now new before after)
          (sym counted)
          (driven_more c.args.inputs.now c.loop-input.input-index _ c.loop-input-test.true count c.args.host.now mid new before between after
          c.loop-input.invariant.driven
          (if refused then 1 else 0) (going_takes _ mid new between after new.fault none c.take_input.ensures.processes.feeds)
          c.in_ok-take_input.ensures.refused);
      few = few;
      none = none;
      drained = c.take_input.ensures.processes.settles.out;
      failures = counts_none _ _ _ c.loop-input.invariant.failures (counts_where_going new.fault _ _ none c.take_input.ensures.processes.settles.failures);
      heard = subst
          (λ (count : ℕ). HasDrivenTo count c.args.inputs.now (drop (c.loop-input.input-index + 1) c.args.inputs.now) c.args.host.now new before after first
          then_heard) (sym counted)
          (driven_to_more c.args.inputs.now c.loop-input.input-index _ c.loop-input-test.true count c.args.host.now mid new before between after first so_far
          then_heard c.loop-input.invariant.heard
          (if refused then 1 else 0) (going_takes _ mid new between after new.fault none c.take_input.ensures.processes.feeds)
          c.in_ok-take_input.ensures.refused
          (going_hears _ mid new so_far then_heard new.fault none c.take_input.ensures.heard));
    }

pub returns-clause-refused : goal.returns-clause-refused
returns-clause-refused g c =
    driven_counts c.loop-input.refused c.args.inputs.now (drop c.loop-input.input-index c.args.inputs.now) c.args.host.now c.loop-input.host
    (g.W.Sink.contents c.args.out.now) (g.W.Sink.contents c.loop-input.out) (drop_all c.loop-input.input-index c.args.inputs.now c.loop-input-test.false)
    c.loop-input.invariant.driven

pub returns-in_err-write_out-clause-heard : goal.returns-in_err-write_out-clause-heard
returns-in_err-write_out-clause-heard g c =
    let new : HostModel = c.write_out.new.host in
    let known : Option (List Received) = g.L.Listener.heard c.args.listener.now in
    past_heard [] (items_of c.args.inputs.now) c.args.host.now new (g.W.Sink.contents c.args.out.now) (g.W.Sink.contents c.write_out.new.out) known known
    c.in_err-write_out.field-0.0
    (fault_answered new.fault c.in_err-write_out.field-0.0 c.in_err-write_out.ensures.fault) (ap is_of_feeding c.in_err-write_out.ensures.write)
    c.write_out.ensures.feeds
    (nothing_heard c.args.host.now new (g.W.Sink.contents c.args.out.now) (g.W.Sink.contents c.write_out.new.out) known new.fault c.write_out.ensures.feeds)

pub returns-in_err-take_input-clause-heard : goal.returns-in_err-take_input-clause-heard
returns-in_err-take_input-clause-heard g c =
    driven_to_stops c.args.inputs.now c.loop-input.input-index _ c.loop-input-test.true c.loop-input.refused c.args.host.now c.loop-input.host
    c.take_input.new.host
    (g.W.Sink.contents c.args.out.now) (g.W.Sink.contents c.loop-input.out) (g.W.Sink.contents c.take_input.new.out)
    (g.L.Listener.heard c.args.listener.now) (g.L.Listener.heard c.loop-input.listener) (g.L.Listener.heard c.take_input.new.listener)
    c.loop-input.invariant.heard
    c.in_err-take_input.field-0.0 c.in_err-take_input.ensures.fault
    (feeding_at c.take_input.new.host.fault c.in_err-take_input.field-0.0 c.in_err-take_input.ensures.fault
    c.take_input.ensures.processes.feeding) c.take_input.ensures.processes.feeds c.take_input.ensures.heard

pub returns-clause-heard : goal.returns-clause-heard
returns-clause-heard g c =
    driven_to_all c.loop-input.refused c.args.inputs.now (drop c.loop-input.input-index c.args.inputs.now) c.args.host.now c.loop-input.host
    (g.W.Sink.contents c.args.out.now) (g.W.Sink.contents c.loop-input.out) (g.L.Listener.heard c.args.listener.now) (g.L.Listener.heard c.loop-input.listener)
    c.loop-input.host.fault (drop_all c.loop-input.input-index c.args.inputs.now c.loop-input-test.false) c.loop-input.invariant.none
    c.loop-input.invariant.heard

pub loop-input-init : goal.loop-input-init
loop-input-init g c =
    let old : HostModel = c.args.host.now in
    let new : HostModel = c.write_out.new.host in
    let before : Option Octets = g.W.Sink.contents c.args.out.now in
    let after : Option Octets = g.W.Sink.contents c.write_out.new.out in
    let known : Option (List Received) = g.L.Listener.heard c.args.listener.now in
    let still : new.fault ≡ None = none_answered new.fault c.in_ok-write_out.ensures.fault in
    let none : old.fault ≡ None = c.requires.none in
    let takes : TakesAll [] old new before after = going_takes [] old new before after new.fault still c.write_out.ensures.feeds in
    record {
      driven = driven_none c.args.inputs.now old new before after takes;
      few = omega arith;
      none = still;
      drained = c.write_out.ensures.settles.out;
      failures = counts_where_going new.fault _ _ still c.write_out.ensures.settles.failures;
      heard = record { driven = driven_none c.args.inputs.now old new before after takes; heard = hears_nothing old known };
    }
