-- Gathering of the octets of one packet (code only).
use Rattle.std.specs.Prelude.{◌≡◌, ℕ, ◌+◌, ◌<◌, ◌≤◌, nat_le, if◌then◌else◌, true, false, [], ◌∷◌, ◌++◌, length, take, None, Result, Ok, Err}
use Rattle.octet_io.specs.Number.{Octets}
use Rattle.le_h4.specs.declared.deframer.Fed.{Fed}
use Rattle.le_h4.specs.declared.deframer.H4Fault.{H4Fault}
use Rattle.le_h4.specs.declared.deframer.H4Fault.TheVariants.{Desync}
use Rattle.le_h4.specs.Packet.{Packet, FirstPacket, NoPacket, first_of}
use Rattle.le_h4.specs.Division.{unfinished, lost, before, division_past}
use Rattle.le_h4.specs.Deframer.{EndsWith}
use Rattle.le_h4.specs.Progress.{IsWithinFirst, IsSizeOf, packet_in}

-- The first `used` octets end a packet.
pub record GathersPacket (skipping : ℕ) (gathered octets : Octets) (used left : ℕ)
    (holds : Octets) : Type 0 where
  pub packet : Packet
  pub first : first_of holds ≡ FirstPacket packet []
  pub none_left : left ≡ 0
  pub divided : (rest : Octets) → division_past skipping (gathered ++ (take used octets ++ rest))
      ≡ before (packet ∷ []) (division_past 0 rest)
  pub spelled : EndsWith (gathered ++ take used octets) packet
  pub some : 0 < used
  pub within : used ≤ length octets

-- All octets are consumed and end no packet.
pub record GathersAll (skipping : ℕ) (gathered octets : Octets) (used left : ℕ)
    (holds : Octets) : Type 0 where
  pub none : packet_in (first_of holds) ≡ None
  pub divided : (rest : Octets) → division_past skipping (gathered ++ (octets ++ rest))
      ≡ division_past left (holds ++ rest)
  pub unfinished : division_past left holds ≡ unfinished
  pub fits : IsWithinFirst holds
  pub passes : 0 < left → holds ≡ []
  pub all : used ≡ length octets

-- An indicator was found that no packet has.
pub record GathersLost (skipping : ℕ) (gathered octets : Octets) (indicator left : ℕ)
    (holds : Octets) : Type 0 where
  pub none_left : left ≡ 0
  pub holds_it : holds ≡ indicator ∷ []
  pub first : first_of holds ≡ NoPacket indicator
  pub divided : (rest : Octets) → division_past skipping (gathered ++ (octets ++ rest))
      ≡ lost indicator

-- The gathered packet lacked `missing` octets, and those present were added.
pub record GoesOn (gathered octets : Octets) (missing : ℕ) (holds : Octets) : Type 0 where
  pub size : IsSizeOf (gathered ++ octets) (length gathered + missing)
  pub gathers : holds ≡ gathered ++ take missing octets

abbrev pub fed_of : ℕ → ℕ → Fed
fed_of missing count =
    if nat_le missing count then record { used = missing; packet = true }
    else record { used = count; packet = false }

abbrev pub Gathers : ℕ → Octets → Octets → Result Fed H4Fault → ℕ → Octets → Type 0
Gathers skipping gathered octets (Ok fed) left holds =
    elim fed.packet [
      | true ↦ GathersPacket skipping gathered octets fed.used left holds
      | false ↦ GathersAll skipping gathered octets fed.used left holds
    ]
Gathers skipping gathered octets (Err (Desync indicator)) left holds =
    GathersLost skipping gathered octets indicator left holds
