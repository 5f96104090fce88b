-- The division of a controller's stream into packets.
use Rattle.std.specs.Prelude.{ℕ, suc, zero, nat_lt, Bool, false, if◌then◌else◌, List, [], ◌∷◌, ◌++◌, length, nat_le, drop, Option, Some, None}
use Rattle.octet_io.specs.Number.{Octets}
use Rattle.le_h4.specs.Packet.{Packet, AclPacket, EventPacket, ScoPacket, First, FirstPacket, NoneYet, NoPacket, first_of}
use Rattle.le_h4.specs.declared.progress.TheConstants.{MAX_ACL_DATA}

-- A division ends with an unfinished packet, or at an indicator that no packet has.
pub data End : Type 0 where
  Unfinished : End
  Lost : (indicator : ℕ) → End

pub record Division : Type 0 where
  pub packets : List Packet
  pub end : End

abbrev pub unfinished : Division
unfinished = record { packets = []; end = Unfinished }

abbrev pub lost : ℕ → Division
lost indicator = record { packets = []; end = Lost indicator }

-- An ACL packet with more than `MAX_ACL_DATA` octets of data is skipped (this profile's own).
-- (P-WIRE-1)
abbrev pub is_long : Packet → Bool
is_long (AclPacket handle pb bc octets) = nat_lt MAX_ACL_DATA (length octets)
is_long (EventPacket octets) = false
is_long ScoPacket = false

-- The first packet and the rest, unless the packet is skipped.
abbrev pub kept_first : First → Option (Packet × Octets)
kept_first (FirstPacket packet rest) = if is_long packet then None else Some (packet, rest)
kept_first NoneYet = None
kept_first (NoPacket indicator) = None

abbrev pub before : List Packet → Division → Division
before packets division = record { packets = packets ++ division.packets; end = division.end }

abbrev pub after_first : First → (Octets → Division) → Division
after_first (FirstPacket packet rest) divide =
    if is_long packet then divide rest else before (packet ∷ []) (divide rest)
after_first NoneYet divide = unfinished
after_first (NoPacket indicator) divide = lost indicator

unfoldable pub division_within : ℕ → Octets → Division
division_within zero octets = unfinished
division_within (suc count) octets = after_first (first_of octets) (division_within count)

-- The division of a stream, whose packets have at least one octet.
unfoldable pub division : Octets → Division
division octets = division_within (length octets) octets

-- The division after the first `count` octets.
abbrev pub division_past : ℕ → Octets → Division
division_past count octets = if nat_le count (length octets) then division (drop count octets)
    else unfinished
