-- A sequence of calls records the packets of each direction, however their octets are cut.
use Rattle.std.specs.Prelude.{◌≡◌, ℕ, List, [], ◌∷◌, ◌++◌, Option}
use Rattle.std.specs.Io.KnownBytes.{Appends}
use Rattle.std.specs.List.{All, flat_map}
use Rattle.octet_io.specs.Number.{Octets}
use Rattle.btsnoop.specs.Capture.{CapturesAll}
use Rattle.btsnoop.specs.Packet.{IsPacket, IsUnfinished, joined_packets}
use Rattle.btsnoop.specs.Record.{records_of}
use Rattle.btsnoop.specs.declared.record.Direction.{Direction}
use Rattle.btsnoop.specs.declared.record.Direction.TheVariants.{Sent, Received}

-- A call: octets of one direction, their time, and the packets that they end.
pub record CaptureCall : Type 0 where
  pub direction : Direction
  pub time : ℕ
  pub octets : Octets
  pub packets : List Octets

-- The unfinished packet of each direction.
pub record Unfinished : Type 0 where
  pub sent : Octets
  pub received : Octets

abbrev pub nothing_begun : Unfinished
nothing_begun = record { sent = []; received = [] }

abbrev pub begun_in : Direction → Unfinished → Octets
begun_in Sent unfinished = unfinished.sent
begun_in Received unfinished = unfinished.received

abbrev pub with_begun : Direction → Octets → Unfinished → Unfinished
with_begun Sent begun unfinished = record unfinished { sent = begun }
with_begun Received begun unfinished = record unfinished { received = begun }

-- The calls, in order and without a fault, lead from one state to another.
abbrev pub Leads : List CaptureCall → Unfinished → Option Octets → Unfinished → Option Octets
    → Type 0
Leads [] old held new holds = (new ≡ old) × (holds ≡ held)
Leads (call ∷ calls) old held new holds =
    (begins : Octets) × (mid : Option Octets)
    × (captured : CapturesAll call.direction call.time (begun_in call.direction old) call.octets
    begins held mid)
    × (call.packets ≡ captured.packets)
    × Leads calls (with_begun call.direction begins old) mid new holds

-- The part of a list that belongs to a direction.
abbrev pub one_way : {A : Type 0} → Direction → Direction → List A → List A
one_way Sent Sent xs = xs
one_way Received Received xs = xs
one_way Sent Received xs = []
one_way Received Sent xs = []

abbrev pub octets_one_way : Direction → List CaptureCall → Octets
octets_one_way direction calls =
    flat_map (λ call. one_way direction call.direction call.octets) calls

abbrev pub packets_one_way : Direction → List CaptureCall → List Octets
packets_one_way direction calls =
    flat_map (λ call. one_way direction call.direction call.packets) calls

abbrev pub records_in : List CaptureCall → Octets
records_in calls = flat_map (λ call. records_of call.direction call.time call.packets) calls

-- The octets consist of these packets and an unfinished one, and of no others.
pub record ConsistsOf (octets : Octets) (packets : List Octets) : Type 0 where
  pub left : Octets
  pub whole : All IsPacket packets
  pub unfinished : IsUnfinished left
  pub parts : octets ≡ joined_packets packets ++ left
  pub alone : (others : List Octets) (rest : Octets) → All IsPacket others → IsUnfinished rest
      → octets ≡ joined_packets others ++ rest → others ≡ packets

-- The sink received the records of the packets in order, and each direction consists of its
-- packets.
pub record RecordsCalls (calls : List CaptureCall) (held holds : Option Octets) : Type 0 where
  pub recorded : Appends held holds (records_in calls)
  pub each_way : (direction : Direction)
      → ConsistsOf (octets_one_way direction calls) (packets_one_way direction calls)

abbrev pub RecordsThePackets : Type 0
RecordsThePackets = (calls : List CaptureCall) (new : Unfinished) (held holds : Option Octets)
    → Leads calls nothing_begun held new holds
    → RecordsCalls calls held holds
