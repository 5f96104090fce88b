-- Packets are recorded one after another.
use Rattle.std.proofs.Common.{◌≡◌, ℕ, List, [], ◌∷◌, ◌++◌, Option, sym, ap, subst, ◌∙◌, append_assoc}
use Rattle.std.proofs.KnownBytes.{Appends-trans}
use Rattle.std.proofs.lemmas.Grind.{flat_map-append}
use Rattle.std.proofs.lemmas.List.{append-nil}
use Rattle.std.proofs.lemmas.List.Elements.{All-nil, All-cons, All-append}
use Rattle.std.specs.Io.KnownBytes.{Appends}
use Rattle.std.specs.List.{All}
use Rattle.octet_io.specs.Number.{Octets}
use Rattle.octet_io.specs.Stream.{WritesFront}
use Rattle.btsnoop.specs.Capture.{CapturesFront, CapturesUpTo}
use Rattle.btsnoop.specs.Packet.{IsPacket, IsLostPacket, joined_packets}
use Rattle.btsnoop.specs.Record.{record_of, records_of}
use Rattle.btsnoop.specs.declared.record.Direction.{Direction}

-- these packets are recorded, these octets are begun, and these follow
pub record SoFar (direction : Direction) (time : ℕ) (first octets begun rest : Octets) (held holds : Option Octets) : Type 0 where
  pub packets : List Octets
  pub whole : All IsPacket packets
  pub parts : first ++ octets ≡ joined_packets packets ++ (begun ++ rest)
  pub recorded : Appends held holds (records_of direction time packets)

joined-more : (packets : List Octets) (packet : Octets) → joined_packets (packets ++ packet ∷ []) ≡ joined_packets packets ++ packet
joined-more packets packet =
    flat_map-append (λ (packet : Octets). packet) packets (packet ∷ [])
    ∙ ap (λ (octets : Octets). joined_packets packets ++ octets) (append-nil packet)

whole-more : (packets : List Octets) (packet : Octets) → All IsPacket packets → IsPacket packet → All IsPacket (packets ++ packet ∷ [])
whole-more packets packet whole is = All-append IsPacket packets (packet ∷ []) whole (All-cons IsPacket packet [] is (All-nil IsPacket))

parts-more : (all : Octets) (packets : List Octets) (packet rest : Octets) → all ≡ joined_packets packets ++ (packet ++ rest)
    → all ≡ joined_packets (packets ++ packet ∷ []) ++ rest
parts-more all packets packet rest parts =
    parts ∙ sym (append_assoc (joined_packets packets) packet rest) ∙ ap (λ (octets : Octets). octets ++ rest) (sym (joined-more packets packet))

module _ (direction : Direction) (time : ℕ) where
  records-more : (packets : List Octets) (packet : Octets)
      → records_of direction time (packets ++ packet ∷ []) ≡ records_of direction time packets ++ record_of direction time packet
  records-more packets packet =
      flat_map-append (record_of direction time) packets (packet ∷ [])
      ∙ ap (λ (octets : Octets). records_of direction time packets ++ octets) (append-nil (record_of direction time packet))

  pub so_far-recorded : (first octets packet rest : Octets) (held mid holds : Option Octets)
      → SoFar direction time first octets packet rest held mid → IsPacket packet → Appends mid holds (record_of direction time packet)
      → SoFar direction time first octets [] rest held holds
  so_far-recorded first octets packet rest held mid holds so_far is appended = record {
    packets = so_far.packets ++ packet ∷ [];
    whole = whole-more so_far.packets packet so_far.whole is;
    parts = parts-more (first ++ octets) so_far.packets packet rest so_far.parts;
    recorded =
        subst (Appends held holds) (sym (records-more so_far.packets packet))
        (Appends-trans held mid holds (records_of direction time so_far.packets) (record_of direction time packet) so_far.recorded appended);
  }

  pub captures_front : (first octets packet rest : Octets) (held mid holds : Option Octets)
      → SoFar direction time first octets packet rest held mid → IsPacket packet → WritesFront (record_of direction time packet) mid holds
      → CapturesFront direction time first octets held holds
  captures_front first octets packet rest held mid holds so_far is front = record {
    packets = so_far.packets ++ packet ∷ [];
    whole = whole-more so_far.packets packet so_far.whole is;
    left = rest;
    parts = parts-more (first ++ octets) so_far.packets packet rest so_far.parts;
    recorded = record {
      written = records_of direction time so_far.packets ++ front.written;
      appended = Appends-trans held mid holds (records_of direction time so_far.packets) front.written so_far.recorded front.appended;
      left = front.left;
      parts =
          records-more so_far.packets packet
          ∙ ap (λ (octets : Octets). records_of direction time so_far.packets ++ octets) front.parts
          ∙ sym (append_assoc (records_of direction time so_far.packets) front.written front.left);
    };
  }

  pub captures_up_to : (first octets lost rest : Octets) (held holds : Option Octets)
      → SoFar direction time first octets lost rest held holds → IsLostPacket lost
      → CapturesUpTo direction time first octets held holds
  captures_up_to first octets lost rest held holds so_far is_lost = record {
    packets = so_far.packets;
    whole = so_far.whole;
    lost = lost;
    is_lost = is_lost;
    left = rest;
    parts = so_far.parts;
    recorded = so_far.recorded;
  }
