use Rattle.std.proofs.Common.{[], ◌∷◌, Some, ap, ◌∙◌}
use Rattle.gatt_host.proofs.model.Due.{feeding_going, feeding_where}
use Rattle.gatt_host.proofs.model.Feeds.{fault_answered, none_answered}
use Rattle.gatt_host.proofs.model.Hearing.{breaks_heard, hears_received, listens_going}
use Rattle.gatt_host.proofs.model.Received.{call_received}
use Rattle.gatt_host.specs.declared.host_fault.HostFault.{HostFault}
use Rattle.gatt_host.proofs.model.Driving.{call_feeds}
use Rattle.gatt_host.specs.Calls.{call_of}
use Rattle.gatt_host.specs.Feeding.{is_of_feeding}
use Rattle.gatt_host.specs.HostModel.{HostModel}
use Rattle.gatt_laws.specs.machine.Input.{ACall}
use Rattle.gatt_host.proofs.calling.do_call.Goals as goal

pub returns-in_err-write_out-clause-processes : goal.returns-in_err-write_out-clause-processes
returns-in_err-write_out-clause-processes g c =
    let new : HostModel = c.write_out.new.host in
    record {
      feeds = call_feeds (ACall (call_of c.args.call)) c.args.host.now c.app-answer.new.self new (g.W.Sink.contents c.args.out.now)
          (g.W.Sink.contents c.write_out.new.out) new.fault
          (c.app-answer.ensures.takes c.requires.none) c.write_out.ensures.feeds;
      feeding = feeding_where new.fault c.in_err-write_out.field-0.0
          (fault_answered new.fault c.in_err-write_out.field-0.0 c.in_err-write_out.ensures.fault) (ap is_of_feeding c.in_err-write_out.ensures.write);
      settles = c.write_out.ensures.settles;
    }

pub returns-clause-processes : goal.returns-clause-processes
returns-clause-processes g c =
    let new : HostModel = c.write_out.new.host in
    record {
      feeds = call_feeds (ACall (call_of c.args.call)) c.args.host.now c.app-answer.new.self new (g.W.Sink.contents c.args.out.now)
          (g.W.Sink.contents c.write_out.new.out) new.fault
          (c.app-answer.ensures.takes c.requires.none) c.write_out.ensures.feeds;
      feeding = feeding_going new.fault (none_answered new.fault c.in_ok-write_out.ensures.fault);
      settles = c.write_out.ensures.settles;
    }

pub returns-clause-refused : goal.returns-clause-refused
returns-clause-refused g c = λ start input sent is. c.app-answer.ensures.refused start input sent is c.requires.none

pub returns-in_err-write_out-clause-heard : goal.returns-in_err-write_out-clause-heard
returns-in_err-write_out-clause-heard g c =
    let new : HostModel = c.write_out.new.host in
    breaks_heard (ACall (call_of c.args.call) ∷ []) [] [] c.args.host.now c.app-answer.new.self new (g.W.Sink.contents c.args.out.now)
    (g.W.Sink.contents c.write_out.new.out)
    (g.L.Listener.heard c.args.listener.now) (g.L.Listener.heard c.deliver_notices.new.listener) new.fault
    (fault_answered new.fault c.in_err-write_out.field-0.0 c.in_err-write_out.ensures.fault
    ∙ ap (λ (why : HostFault). Some why) c.in_err-write_out.ensures.write)
    (c.app-answer.ensures.takes c.requires.none)
    (hears_received (ACall (call_of c.args.call) ∷ []) c.args.host.now c.app-answer.new.self (g.L.Listener.heard c.args.listener.now)
    (g.L.Listener.heard c.deliver_notices.new.listener)
    (call_received (ACall (call_of c.args.call)) [] c.args.host.now c.app-answer.new.self c.requires.none (c.app-answer.ensures.fault ∙ c.requires.none)
    (c.app-answer.ensures.takes c.requires.none) c.app-answer.ensures.told) c.deliver_notices.ensures.hears)
    c.write_out.ensures.feeds

pub returns-clause-heard : goal.returns-clause-heard
returns-clause-heard g c =
    let new : HostModel = c.write_out.new.host in
    listens_going (ACall (call_of c.args.call) ∷ []) c.args.host.now new (g.L.Listener.heard c.args.listener.now)
    (g.L.Listener.heard c.deliver_notices.new.listener) new.fault
    (none_answered new.fault c.in_ok-write_out.ensures.fault)
    (hears_received (ACall (call_of c.args.call) ∷ []) c.args.host.now c.app-answer.new.self (g.L.Listener.heard c.args.listener.now)
    (g.L.Listener.heard c.deliver_notices.new.listener)
    (call_received (ACall (call_of c.args.call)) [] c.args.host.now c.app-answer.new.self c.requires.none (c.app-answer.ensures.fault ∙ c.requires.none)
    (c.app-answer.ensures.takes c.requires.none) c.app-answer.ensures.told) c.deliver_notices.ensures.hears)
