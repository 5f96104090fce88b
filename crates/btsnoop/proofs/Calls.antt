-- However what goes by is cut into calls, the packets that are recorded are those of which it consists.
use Rattle.std.proofs.Common.{◌≡◌, List, [], ◌∷◌, ◌++◌, Option, refl, sym, ap, subst, ◌∙◌, append_assoc, arith}
use Rattle.std.proofs.KnownBytes.{Appends-nil, Appends-trans}
use Rattle.std.proofs.lemmas.Grind.{flat_map-append}
use Rattle.std.proofs.lemmas.List.{append-nil}
use Rattle.std.proofs.lemmas.List.Elements.{All-nil, All-append}
use Rattle.std.specs.Io.KnownBytes.{Appends}
use Rattle.std.specs.List.{All}
use Rattle.octet_io.specs.Number.{Octets}
use Rattle.btsnoop.specs.Calls.{CaptureCall, Unfinished, nothing_begun, begun_in, with_begun, Leads, one_way, octets_one_way, packets_one_way, records_in, ConsistsOf, RecordsThePackets}
use Rattle.btsnoop.specs.Packet.{IsPacket, IsUnfinished, joined_packets}
use Rattle.btsnoop.specs.Record.{records_of}
use Rattle.btsnoop.specs.declared.record.Direction.{Direction}
use Rattle.btsnoop.specs.declared.record.Direction.TheVariants.{Sent, Received}
use Rattle.btsnoop.proofs.Alone.{only_these}

recorded-by : (calls : List CaptureCall) (old new : Unfinished) (held holds : Option Octets) → Leads calls old held new holds
    → Appends held holds (records_in calls)
recorded-by [] old new held holds leads = subst (λ (known : Option Octets). Appends held known []) (sym leads.1) (Appends-nil held)
recorded-by (call ∷ calls) old new held holds leads =
    let captured = leads.2 in
    let now : Appends held leads.1 (records_of call.direction call.time call.packets) =
    subst (λ (packets : List Octets). Appends held leads.1 (records_of call.direction call.time packets)) (sym leads.3) captured.recorded in
    Appends-trans held leads.1 holds _ (records_in calls) now (recorded-by calls _ new leads.1 holds leads.4)

-- a call one way goes on with what is begun its way, and leaves what is begun the other way
step-whole : (direction other : Direction) (packets : List Octets) → All IsPacket packets → All IsPacket (one_way direction other packets)
step-whole Sent Sent packets whole = whole
step-whole Sent Received packets whole = All-nil IsPacket
step-whole Received Sent packets whole = All-nil IsPacket
step-whole Received Received packets whole = whole

step-unfinished : (direction other : Direction) (old : Unfinished) (begins : Octets) → IsUnfinished (begun_in direction old) → IsUnfinished begins
    → IsUnfinished (begun_in direction (with_begun other begins old))
step-unfinished Sent Sent old begins before now = now
step-unfinished Sent Received old begins before now = before
step-unfinished Received Sent old begins before now = before
step-unfinished Received Received old begins before now = now

step-parts : (direction other : Direction) (old : Unfinished) (octets begins : Octets) (packets : List Octets)
    → begun_in other old ++ octets ≡ joined_packets packets ++ begins
    → begun_in direction old ++ one_way direction other octets
    ≡ joined_packets (one_way direction other packets) ++ begun_in direction (with_begun other begins old)
step-parts Sent Sent old octets begins packets parts = parts
step-parts Sent Received old octets begins packets parts = append-nil old.sent
step-parts Received Sent old octets begins packets parts = append-nil old.received
step-parts Received Received old octets begins packets parts = parts

module _ (direction : Direction) where
  whole-by : (calls : List CaptureCall) (old new : Unfinished) (held holds : Option Octets) → Leads calls old held new holds
      → All IsPacket (packets_one_way direction calls)
  whole-by [] old new held holds leads = All-nil IsPacket
  whole-by (call ∷ calls) old new held holds leads =
      All-append IsPacket (one_way direction call.direction call.packets) (packets_one_way direction calls)
      (step-whole direction call.direction call.packets (subst (λ (packets : List Octets). All IsPacket packets) (sym leads.3) leads.2.whole))
      (whole-by calls _ new leads.1 holds leads.4)

  unfinished-by : (calls : List CaptureCall) (old new : Unfinished) (held holds : Option Octets) → Leads calls old held new holds
      → IsUnfinished (begun_in direction old) → IsUnfinished (begun_in direction new)
  unfinished-by [] old new held holds leads before = subst (λ (unfinished : Unfinished). IsUnfinished (begun_in direction unfinished)) (sym leads.0) before
  unfinished-by (call ∷ calls) old new held holds leads before =
      unfinished-by calls (with_begun call.direction leads.0 old) new leads.1 holds leads.4
      (step-unfinished direction call.direction old leads.0 before leads.2.unfinished)

  parts-by : (calls : List CaptureCall) (old new : Unfinished) (held holds : Option Octets) → Leads calls old held new holds
      → begun_in direction old ++ octets_one_way direction calls ≡ joined_packets (packets_one_way direction calls) ++ begun_in direction new
  parts-by [] old new held holds leads = append-nil (begun_in direction old) ∙ ap (begun_in direction) (sym leads.0)
  parts-by (call ∷ calls) old new held holds leads =
      let mid = with_begun call.direction leads.0 old in
      let octets = one_way direction call.direction call.octets in
      let packets = one_way direction call.direction call.packets in
      let now : begun_in direction old ++ octets ≡ joined_packets packets ++ begun_in direction mid =
      step-parts direction call.direction old call.octets leads.0 call.packets
      (leads.2.parts ∙ ap (λ (packets : List Octets). joined_packets packets ++ leads.0) (sym leads.3)) in
      sym (append_assoc (begun_in direction old) octets (octets_one_way direction calls))
      ∙ ap (λ (xs : Octets). xs ++ octets_one_way direction calls) now
      ∙ append_assoc (joined_packets packets) (begun_in direction mid) (octets_one_way direction calls)
      ∙ ap (λ (xs : Octets). joined_packets packets ++ xs) (parts-by calls mid new leads.1 holds leads.4)
      ∙ sym (append_assoc (joined_packets packets) (joined_packets (packets_one_way direction calls)) (begun_in direction new))
      ∙ ap (λ (xs : Octets). xs ++ begun_in direction new) (sym (flat_map-append (λ (packet : Octets). packet) packets (packets_one_way direction calls)))

nothing-unfinished : (direction : Direction) → IsUnfinished (begun_in direction nothing_begun)
nothing-unfinished Sent = record { needed = 1; is = refl; lacks = omega arith; few = omega arith }
nothing-unfinished Received = record { needed = 1; is = refl; lacks = omega arith; few = omega arith }

from-nothing : (direction : Direction) (octets : Octets) → begun_in direction nothing_begun ++ octets ≡ octets
from-nothing Sent octets = refl
from-nothing Received octets = refl

consists : (direction : Direction) (calls : List CaptureCall) (new : Unfinished) (held holds : Option Octets) → Leads calls nothing_begun held new holds
    → ConsistsOf (octets_one_way direction calls) (packets_one_way direction calls)
consists direction calls new held holds leads =
    let whole : All IsPacket (packets_one_way direction calls) = whole-by direction calls nothing_begun new held holds leads in
    let unfinished : IsUnfinished (begun_in direction new) = unfinished-by direction calls nothing_begun new held holds leads (nothing-unfinished direction) in
    let parts : octets_one_way direction calls ≡ joined_packets (packets_one_way direction calls) ++ begun_in direction new =
    sym (from-nothing direction (octets_one_way direction calls)) ∙ parts-by direction calls nothing_begun new held holds leads in
    record {
      left = begun_in direction new;
      whole = whole;
      unfinished = unfinished;
      parts = parts;
      alone = λ others rest whole_others unfinished_rest parts_others.
          only_these others (packets_one_way direction calls) rest (begun_in direction new) whole_others whole unfinished_rest unfinished
          (sym parts_others ∙ parts);
    }

pub records_the_packets : RecordsThePackets
records_the_packets calls new held holds leads = record {
  recorded = recorded-by calls nothing_begun new held holds leads;
  each_way = λ direction. consists direction calls new held holds leads;
}
