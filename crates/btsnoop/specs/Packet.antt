-- Packets of the UART transport (H4) in both directions (Core 5.0, Vol 4 Part A, 2, and Vol 2 Part
-- E, 5.4).
use Rattle.std.specs.Prelude.{◌≡◌, ℕ, ◌+◌, ◌<◌, ◌≤◌, ◌==◌, if◌then◌else◌, ⊤, List, [], ◌∷◌, length, Option, Some, None}
use Rattle.std.specs.List.{flat_map}
use Rattle.octet_io.specs.Number.{Octets, from_two}
use Rattle.le_h4.specs.declared.indicator.TheConstants.{COMMAND, ACL, SCO, EVENT}
use Rattle.btsnoop.specs.declared.packet.Progress.{Progress}
use Rattle.btsnoop.specs.declared.packet.Progress.TheVariants.{Lacks, Whole, Lost}
use Rattle.le_h4.specs.declared.progress.TheConstants.{MAX_PACKET_IN}

-- The octets that a packet needs, including its indicator: until its header is there, those of the
-- header.
abbrev pub needed_behind_two : Octets → ℕ
needed_behind_two (low ∷ high ∷ size ∷ octets) = 4 + size
needed_behind_two _ = 4

abbrev pub acl_needed : Octets → ℕ
acl_needed (low ∷ high ∷ size_low ∷ size_high ∷ octets) = 5 + from_two size_low size_high
acl_needed _ = 5

abbrev pub event_needed : Octets → ℕ
event_needed (code ∷ size ∷ octets) = 3 + size
event_needed _ = 3

-- The octets that a packet needs, if one has the indicator.
abbrev pub needed_of : Octets → Option ℕ
needed_of [] = Some 1
needed_of (indicator ∷ octets) =
    if indicator == COMMAND then Some (needed_behind_two octets)
    else if indicator == ACL then Some (acl_needed octets)
    else if indicator == SCO then Some (needed_behind_two octets)
    else if indicator == EVENT then Some (event_needed octets)
    else None

-- The octets are one whole packet of at most `MAX_PACKET_IN` octets.
abbrev pub IsPacket : Octets → Type 0
IsPacket octets = (needed_of octets ≡ Some (length octets)) × (length octets ≤ MAX_PACKET_IN)

-- The octets begin such a packet and lack some of it.
pub record IsUnfinished (octets : Octets) : Type 0 where
  pub needed : ℕ
  pub is : needed_of octets ≡ Some needed
  pub lacks : length octets < needed
  pub few : needed ≤ MAX_PACKET_IN

-- No packet of at most `MAX_PACKET_IN` octets begins so.
abbrev pub none_needed : Option ℕ → Type 0
none_needed None = ⊤
none_needed (Some needed) = MAX_PACKET_IN < needed

abbrev pub IsLostPacket : Octets → Type 0
IsLostPacket octets = none_needed (needed_of octets)

abbrev pub joined_packets : List Octets → Octets
joined_packets packets = flat_map (λ packet. packet) packets

-- The octets are at most one packet.
abbrev pub within_needed : ℕ → Option ℕ → Type 0
within_needed count None = ⊤
within_needed count (Some needed) = count ≤ needed

abbrev pub IsBegunPacket : Octets → Type 0
IsBegunPacket octets = within_needed (length octets) (needed_of octets)

-- The progress of a packet with these octets.
abbrev pub Progresses : Octets → Progress → Type 0
Progresses octets (Lacks missing) =
    (needed_of octets ≡ Some (length octets + missing)) × (0 < missing)
    × (length octets + missing ≤ MAX_PACKET_IN)
Progresses octets Whole = IsPacket octets
Progresses octets Lost = IsLostPacket octets
