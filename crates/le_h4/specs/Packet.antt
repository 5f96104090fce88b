-- Packets of the UART transport (H4) from a controller (Core 5.0, Vol 4 Part A, 2, and Vol 2 Part
-- E, 5.4).
use Rattle.std.specs.Prelude.{◌≡◌, ℕ, ◌+◌, ◌*◌, ◌/◌, ◌%◌, ◌^◌, ◌==◌, nat_le, if◌then◌else◌, [], ◌∷◌, length, take, drop}
use Rattle.octet_io.specs.Number.{Octets, from_two}
use Rattle.le_h4.specs.declared.packet.PacketRef.{PacketRef}
use Rattle.le_h4.specs.declared.packet.PacketRef.TheVariants.{Acl, Event, Sco}
use Rattle.le_h4.specs.declared.indicator.TheConstants.{ACL, SCO, EVENT}

-- A packet; an event begins at its code, and SCO data is dropped.
pub data Packet : Type 0 where
  AclPacket : (handle pb bc : ℕ) (octets : Octets) → Packet
  EventPacket : (octets : Octets) → Packet
  ScoPacket : Packet

abbrev pub packet_of_ref : PacketRef → Packet
packet_of_ref (Acl handle pb bc octets) = AclPacket handle pb bc octets.now
packet_of_ref (Event octets) = EventPacket octets.now
packet_of_ref Sco = ScoPacket

-- An ACL packet by its first field: 12 bits of handle, 2 of boundary flag, 2 of broadcast flag.
abbrev pub acl_packet : ℕ → Octets → Packet
acl_packet field octets = AclPacket (field % 2 ^ 12) (field / 2 ^ 12 % 4) (field / 2 ^ 14) octets

-- The start of a stream: a packet and the rest, part of a packet, or an indicator that no packet
-- has.
pub data First : Type 0 where
  FirstPacket : (packet : Packet) (rest : Octets) → First
  NoneYet : First
  NoPacket : (indicator : ℕ) → First

-- The packet and the rest, once all data is there.
abbrev pub with_data : (Octets → Packet) → ℕ → Octets → First
with_data packet size octets =
    if nat_le size (length octets) then FirstPacket (packet (take size octets)) (drop size octets)
    else NoneYet

abbrev pub acl_form : Octets → First
acl_form (low ∷ high ∷ size_low ∷ size_high ∷ octets) =
    with_data (acl_packet (from_two low high)) (from_two size_low size_high) octets
acl_form _ = NoneYet

abbrev pub sco_form : Octets → First
sco_form (low ∷ high ∷ size ∷ octets) = with_data (λ data_octets. ScoPacket) size octets
sco_form _ = NoneYet

abbrev pub event_form : Octets → First
event_form (code ∷ size ∷ octets) =
    with_data (λ parameters. EventPacket (code ∷ size ∷ parameters)) size octets
event_form _ = NoneYet

-- (P-WIRE-1)
abbrev pub first_of : Octets → First
first_of [] = NoneYet
first_of (indicator ∷ octets) =
    if indicator == ACL then acl_form octets
    else if indicator == SCO then sco_form octets
    else if indicator == EVENT then event_form octets
    else NoPacket indicator

-- The octets are those of this packet.
abbrev pub Spells : Octets → Packet → Type 0
Spells spelling (AclPacket handle pb bc octets) =
    (low : ℕ) × (high : ℕ) × (size_low : ℕ) × (size_high : ℕ)
    × (spelling ≡ ACL ∷ low ∷ high ∷ size_low ∷ size_high ∷ octets)
    × (from_two low high ≡ handle + 2 ^ 12 * pb + 2 ^ 14 * bc)
    × (from_two size_low size_high ≡ length octets)
Spells spelling (EventPacket octets) =
    (code : ℕ) × (parameters : Octets) × (octets ≡ code ∷ length parameters ∷ parameters)
    × (spelling ≡ EVENT ∷ octets)
Spells spelling ScoPacket =
    (low : ℕ) × (high : ℕ) × (octets : Octets)
    × (spelling ≡ SCO ∷ low ∷ high ∷ length octets ∷ octets)
