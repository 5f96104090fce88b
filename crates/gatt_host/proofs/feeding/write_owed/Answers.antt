use Rattle.std.proofs.Common.{[], Result, sym, subst}
use Rattle.std.specs.Result.{result_err}
use Rattle.gatt_host.specs.declared.host_fault.HostFault.{HostFault}
use Rattle.gatt_host.specs.Feeding.{Feeds}
use Rattle.gatt_host.specs.Meaning.{IncomingFrames}
use Rattle.gatt_host.specs.HostModel.{going}
use Rattle.le_h4.specs.Deframer.{Deframing}
use Rattle.gatt_host.proofs.feeding.write_owed.Goals as goal

pub returns-then-may_have_command-clause-feeds : goal.returns-then-may_have_command-clause-feeds
returns-then-may_have_command-clause-feeds g c =
    subst (λ (outcome : Result Unit HostFault). (frames : IncomingFrames) (stream : Deframing) →
    Feeds [] (going c.args.server.now frames stream) (record (going c.write_in_order.new.server frames stream) { fault = result_err outcome })
    (g.W.Sink.contents c.args.out.now) (g.W.Sink.contents c.write_in_order.new.out) (result_err outcome))
    (sym c.write_outcome.ensures) c.write_in_order.ensures.feeds

pub returns-else-may_have_command-clause-feeds : goal.returns-else-may_have_command-clause-feeds
returns-else-may_have_command-clause-feeds g c =
    subst (λ (outcome : Result Unit HostFault). (frames : IncomingFrames) (stream : Deframing) →
    Feeds [] (going c.args.server.now frames stream) (record (going c.write_packets.new.server frames stream) { fault = result_err outcome })
    (g.W.Sink.contents c.args.out.now) (g.W.Sink.contents c.write_packets.new.out) (result_err outcome))
    (sym c.write_outcome-else-may_have_command.ensures) c.write_packets.ensures.feeds
