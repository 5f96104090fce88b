-- State of a deframer between two pieces of a stream.
use Rattle.std.specs.Prelude.{◌≡◌, ℕ, List, [], ◌∷◌, ◌++◌, Option, None}
use Rattle.std.specs.List.{flat_map}
use Rattle.std.specs.Option.{option_to_list}
use Rattle.octet_io.specs.Number.{Octets}
use Rattle.le_h4.specs.Packet.{Packet, Spells}
use Rattle.le_h4.specs.Division.{Division, before, division, division_past}

-- The octets still to skip, those of the unfinished packet, and the packet that just ended.
pub record Deframing : Type 0 where
  pub skipping : ℕ
  pub gathered : Octets
  pub marked : Option Packet

abbrev pub deframing_at_start : Deframing
deframing_at_start = record { skipping = 0; gathered = []; marked = None }

-- The state after an indicator that no packet has.
abbrev pub lost_at : ℕ → Deframing
lost_at indicator = record { skipping = 0; gathered = indicator ∷ []; marked = None }

-- The division of the rest of the stream, if it is `rest`.
abbrev pub still : Deframing → Octets → Division
still deframing rest = division_past deframing.skipping (deframing.gathered ++ rest)

abbrev pub marks : Deframing → List Packet
marks deframing = option_to_list deframing.marked

-- The octets end with those of this packet.
pub record EndsWith (octets : Octets) (packet : Packet) : Type 0 where
  pub earlier : Octets
  pub spelling : Octets
  pub parts : octets ≡ earlier ++ spelling
  pub spelled : Spells spelling packet

-- A call: the octets consumed, and the packet found, if any.
pub record DeframerCall : Type 0 where
  pub taken : Octets
  pub packets : List Packet

-- The calls, in order, lead from one state to another.
abbrev pub DeframesAll : Deframing → List DeframerCall → Deframing → Type 0
DeframesAll old [] new = new ≡ old
DeframesAll old (call ∷ calls) new =
    (mid : Deframing)
    × ((rest : Octets) → still old (call.taken ++ rest) ≡ before call.packets (still mid rest))
    × DeframesAll mid calls new

abbrev pub octets_of_calls : List DeframerCall → Octets
octets_of_calls calls = flat_map (λ call. call.taken) calls

abbrev pub packets_of_calls : List DeframerCall → List Packet
packets_of_calls calls = flat_map (λ call. call.packets) calls

-- However a stream is cut into calls, they find the packets of its division, unless a whole packet
-- is held back.
abbrev pub MarksTheDivision : Type 0
MarksTheDivision =
    (calls : List DeframerCall) (new : Deframing) → DeframesAll deframing_at_start calls new
    → (still new []).packets ≡ []
    → packets_of_calls calls ≡ (division (octets_of_calls calls)).packets
