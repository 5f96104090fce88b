-- Progress of a packet, of which some octets are there (code only).
use Rattle.std.specs.Prelude.{◌≡◌, ℕ, ◌+◌, ◌-◌, ◌==◌, ◌<◌, ◌≤◌, nat_le, if◌then◌else◌, [], ◌∷◌, length, take, slice_get, Option, Some, None}
use Rattle.le_h4.specs.declared.progress.Progress.{Progress}
use Rattle.le_h4.specs.declared.progress.Progress.TheVariants.{Lacks, Whole, Long, Desync}
use Rattle.le_h4.specs.Packet.{Packet, EventPacket, ScoPacket, First, FirstPacket, NoneYet, NoPacket, first_of, acl_packet}
use Rattle.octet_io.specs.Number.{Octets, from_two}
use Rattle.le_h4.specs.declared.indicator.TheConstants.{ACL, SCO, EVENT}
use Rattle.le_h4.specs.declared.progress.TheConstants.{MAX_ACL_DATA, MAX_PACKET_IN}

abbrev pub short_progress : ℕ → ℕ → Progress
short_progress size count = if nat_le size count then Whole else Lacks (size - count)

abbrev pub data_progress : ℕ → ℕ → Progress
data_progress size count =
    if nat_le size count then Whole else if nat_le size MAX_ACL_DATA then Lacks (size - count)
    else Long (size - count)

abbrev pub acl_progress : Octets → Progress
acl_progress (low ∷ high ∷ size_low ∷ size_high ∷ octets) =
    data_progress (from_two size_low size_high) (length octets)
acl_progress header = Lacks (4 - length header)

abbrev pub sco_progress : Octets → Progress
sco_progress (low ∷ high ∷ size ∷ octets) = short_progress size (length octets)
sco_progress header = Lacks (3 - length header)

abbrev pub event_progress : Octets → Progress
event_progress (code ∷ size ∷ octets) = short_progress size (length octets)
event_progress header = Lacks (2 - length header)

abbrev pub progress_of : Octets → Progress
progress_of [] = Lacks 1
progress_of (indicator ∷ octets) =
    if indicator == ACL then acl_progress octets
    else if indicator == SCO then sco_progress octets
    else if indicator == EVENT then event_progress octets
    else Desync indicator

-- The size after the indicator: of the header, and of the data once the header states it.
abbrev pub acl_size : Option ℕ → Option ℕ → ℕ
acl_size (Some low) (Some high) = 4 + from_two low high
acl_size (Some low) None = 4
acl_size None high = 4

abbrev pub short_size : ℕ → Option ℕ → ℕ
short_size header (Some size) = header + size
short_size header None = header

abbrev pub size_by : Octets → Option ℕ → Option ℕ
size_by octets (Some indicator) =
    if indicator == ACL then Some (acl_size (slice_get octets 3) (slice_get octets 4))
    else if indicator == SCO then Some (short_size 3 (slice_get octets 3))
    else if indicator == EVENT then Some (short_size 2 (slice_get octets 2))
    else None
size_by octets None = None

abbrev pub stated_size : Octets → Option ℕ
stated_size octets = size_by octets (slice_get octets 0)

-- A packet of this size, not too long, begins the octets.
pub record BeginsWith (octets : Octets) (size : ℕ) : Type 0 where
  pub packet : Packet
  pub first : first_of (take size octets) ≡ FirstPacket packet []
  pub within : size ≤ length octets
  pub kept : size ≤ MAX_PACKET_IN

-- Such a packet, or part of it, begins the octets.
pub record IsSizeOf (octets : Octets) (size : ℕ) : Type 0 where
  pub whole : size ≤ length octets → BeginsWith octets size
  pub part : length octets < size → first_of octets ≡ NoneYet
  pub kept : size ≤ MAX_PACKET_IN

abbrev pub LacksAtMost : ℕ → Progress → Type 0
LacksAtMost room (Lacks missing) = missing ≤ room
LacksAtMost room (Long missing) = Unit {0}
LacksAtMost room Whole = Unit {0}
LacksAtMost room (Desync indicator) = Unit {0}

-- The octets end within their first packet, or at an indicator that no packet has.
pub record IsWithinFirst (octets : Octets) : Type 0 where
  pub whole : (packet : Packet) (rest : Octets) → first_of octets ≡ FirstPacket packet rest
      → rest ≡ []
  pub lost : (indicator : ℕ) → first_of octets ≡ NoPacket indicator → octets ≡ indicator ∷ []

abbrev pub packet_in : First → Option Packet
packet_in (FirstPacket packet rest) = Some packet
packet_in NoneYet = None
packet_in (NoPacket indicator) = None

-- The packet that consists of these octets.
abbrev pub reading : Octets → Packet
reading (indicator ∷ octets) =
    if indicator == ACL then acl_reading octets else if indicator == EVENT then EventPacket octets
    else ScoPacket
  where
    acl_reading : Octets → Packet
    acl_reading (low ∷ high ∷ size_low ∷ size_high ∷ octets) = acl_packet (from_two low high) octets
    acl_reading _ = ScoPacket
reading [] = ScoPacket
