-- The packets of a host, and what remains without the data of some connections (Core 5.0, Vol 4
-- Part A, 2, and Vol 2 Part E, 5.4).
use Rattle.std.specs.Prelude.{◌≡◌, ◌≢◌, ℕ, ◌+◌, ◌%◌, ◌^◌, ◌==◌, nat_le, suc, zero, if◌then◌else◌, Bool, false, not, List, [], ◌∷◌, ◌++◌, length, take, drop, filter, All, Option, Some, None}
use Rattle.std.specs.List.{flat_map, list_any}
use Rattle.octet_io.specs.Number.{Octets, from_two}
use Rattle.le_h4.specs.declared.indicator.TheConstants.{COMMAND, ACL}

-- The length of a packet by its header: an HCI command states the length of its parameters (5.4.1),
-- ACL data that of its data (5.4.2).
abbrev pub command_size : Octets → Option ℕ
command_size (low ∷ high ∷ size ∷ octets) = Some (4 + size)
command_size _ = None

abbrev pub data_size : Octets → Option ℕ
data_size (low ∷ high ∷ size_low ∷ size_high ∷ octets) = Some (5 + from_two size_low size_high)
data_size _ = None

abbrev pub packet_size : Octets → Option ℕ
packet_size [] = None
packet_size (indicator ∷ octets) =
    if indicator == COMMAND then command_size octets
    else if indicator == ACL then data_size octets
    else None

-- The length of the first packet, if it is whole.
abbrev pub size_if_whole : Octets → Option ℕ → Option ℕ
size_if_whole octets (Some size) = if nat_le size (length octets) then Some size else None
size_if_whole octets None = None

abbrev pub first_size : Octets → Option ℕ
first_size octets = size_if_whole octets (packet_size octets)

-- Octets cut into whole packets and a rest that begins with none.
pub record Packets : Type 0 where
  pub whole : List Octets
  pub rest : Octets

abbrev pub first_and_others : Octets → Option ℕ → (Octets → Packets) → Packets
first_and_others octets None others = record { whole = []; rest = octets }
first_and_others octets (Some size) others =
    record {
      whole = take size octets ∷ (others (drop size octets)).whole;
      rest = (others (drop size octets)).rest;
    }

-- The cut into at most `count` packets.
unfoldable pub packets_within : ℕ → Octets → Packets
packets_within zero octets = record { whole = []; rest = octets }
packets_within (suc count) octets =
    first_and_others octets (first_size octets) (packets_within count)

-- The cut into all packets, each of which has at least one octet.
unfoldable pub packets_in : Octets → Packets
packets_in octets = packets_within (length octets) octets

abbrev pub joined : List Octets → Octets
joined packets = flat_map (λ packet. packet) packets

-- A cut agrees with the headers and loses no octet.
pub record IsCutIntoPackets (octets : Octets) : Type 0 where
  pub parts : octets ≡ joined (packets_in octets).whole ++ (packets_in octets).rest
  pub packets : All (λ packet. packet_size packet ≡ Some (length packet)) (packets_in octets).whole
  pub behind : first_size (packets_in octets).rest ≡ None

-- The connection of ACL data: the lower 12 bits of its first field (5.4.2).
abbrev pub handle_of_data : Octets → Option ℕ
handle_of_data (indicator ∷ low ∷ high ∷ octets) =
    if indicator == ACL then Some (from_two low high % 2 ^ 12) else None
handle_of_data _ = None

abbrev pub is_one_of : List ℕ → Option ℕ → Bool
is_one_of connections (Some handle) = list_any (λ connection. connection == handle) connections
is_one_of connections None = false

abbrev pub is_data_for : List ℕ → Octets → Bool
is_data_for connections packet = is_one_of connections (handle_of_data packet)

-- The packets without the ACL data for these connections, and then the rest.
abbrev pub without : List ℕ → Packets → Octets
without connections packets =
    joined (filter (λ packet. not (is_data_for connections packet)) packets.whole) ++ packets.rest

unfoldable pub without_data_for : List ℕ → Octets → Octets
without_data_for connections octets = without connections (packets_in octets)

-- No packet in these octets is ACL data for a connection.
abbrev pub HasNoDataFor : ℕ → Octets → Type 0
HasNoDataFor handle octets =
    All (λ packet. handle_of_data packet ≢ Some handle) (packets_in octets).whole
