use Rattle.gatt_host.proofs.model.Packets.{packet_leads_or_stops, packet_told, result_not_own}
use Rattle.gatt_host.proofs.packet.packet.Goals as goal
use Rattle.le_h4.specs.Packet.{packet_of_ref}

pub returns : goal.returns
returns c = record {
  refines =
      packet_leads_or_stops (packet_of_ref c.args.packet) c.args.server.now c.take_packet.new.server c.args.frames.now c.take_packet.new.frames
      c.take_packet.result c.requires.drained
      c.take_packet.ensures.taken c.take_packet.ensures.stops c.take_packet.ensures.unchanged c.take_packet.ensures.frames_unchanged;
  told = λ ok. packet_told (packet_of_ref c.args.packet) c.args.server.now c.take_packet.new.server c.args.frames.now c.take_packet.new.frames
      c.requires.drained
      (c.take_packet.ensures.taken ok);
  frames = c.take_packet.ensures.frames;
  not_own = result_not_own (packet_of_ref c.args.packet) c.args.server.now c.take_packet.result c.take_packet.ensures.stops;
  unchanged = c.take_packet.ensures.unchanged;
}
