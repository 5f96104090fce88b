use Rattle.gatt_commands.proofs.Exchanging.{hears_lost, hears_marked, noted_marked}
use Rattle.gatt_commands.specs.Exchange.{HostStops}
use Rattle.gatt_host.specs.declared.host_fault.HostFault.{HostFault}
use Rattle.le_h4.specs.Packet.{packet_of_ref}
use Rattle.std.proofs.Common.{subst, sym}
use Rattle.gatt_commands.proofs.exchange.feed_packet.Goals as goal

pub returns-in-Ok-clause-hears : goal.returns-in-Ok-clause-hears
returns-in-Ok-clause-hears c =
    hears_marked c.args.octets.now c.in-Ok.fed.used c.new-deframer.result c.feed.new.self (packet_of_ref c.packet.result) c.take.result c.args.host.now
    c.take.new.host
    c.new-deframer.ensures.at_start c.packet.ensures c.in-Ok.ensures.divided c.take.ensures.outcome c.take.ensures.takes c.take.ensures.stopped

pub returns-in-Ok-clause-noted : goal.returns-in-Ok-clause-noted
returns-in-Ok-clause-noted c =
    noted_marked c.args.octets.now c.in-Ok.fed.used c.new-deframer.result c.feed.new.self (packet_of_ref c.packet.result) c.take.result c.take.new.host
    c.args.notes.now c.take.new.notes
    c.new-deframer.ensures.at_start c.packet.ensures c.in-Ok.ensures.divided c.take.ensures.noted

pub returns-in-Err-clause-hears : goal.returns-in-Err-clause-hears
returns-in-Err-clause-hears c =
    subst (λ (fault : HostFault). HostStops fault c.args.octets.now c.args.host.now c.args.host.now) (sym c.lost_fault.ensures)
    (hears_lost c.args.octets.now c.new-deframer.result c.in-Err.fault c.args.host.now c.new-deframer.ensures.at_start c.in-Err.ensures.desync)
