-- A whole packet at the start of octets.
use Rattle.std.specs.Prelude.{Bool, ◌==◌, ◌&&◌, length, drop}
use Rattle.octet_io.specs.Number.{Octets}
use Rattle.le_h4.specs.declared.packet.WholePacket.{WholePacket}
use Rattle.le_h4.specs.Deframer.{Deframing}
use Rattle.le_h4.specs.Packet.{Packet, packet_of_ref}

abbrev pub lying_in : Octets → WholePacket → Packet × Octets
lying_in octets whole = (packet_of_ref whole.packet, drop whole.used octets)

-- No packet is unfinished or being skipped.
abbrev pub is_at_border : Deframing → Bool
is_at_border deframing = deframing.skipping == 0 && length deframing.gathered == 0
