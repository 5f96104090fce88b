-- The PDUs of one connection as ACL packets (Core 5.0, Vol 3 Part A, 3.1 and 7.2.1).
use Rattle.std.specs.Prelude.{ℕ, zero, suc, ◌-◌, nat_lt, if◌then◌else◌, List, [], ◌∷◌, ◌++◌, length, take, drop, map}
use Rattle.std.specs.List.{flat_map}
use Rattle.octet_io.specs.Number.{Octets, two_octets}
use Rattle.le_acl.specs.Fragment.{Fragment, Beginning, Continuation}

-- A PDU: its channel and its payload.
abbrev pub Pdu : Type 0
Pdu = ℕ × Octets

-- The frame of a PDU: payload length, channel, payload.
abbrev pub frame_octets : Pdu → Octets
frame_octets pdu = two_octets (length pdu.1) ++ two_octets pdu.0 ++ pdu.1

-- Octets in pieces of a size; the last may be shorter.
abbrev pub pieces_within : ℕ → ℕ → Octets → List Octets
pieces_within zero size octets = []
pieces_within (suc count) size [] = []
pieces_within (suc count) size (octet ∷ octets) =
    take size (octet ∷ octets) ∷ pieces_within count size (drop size (octet ∷ octets))

unfoldable pub pieces : ℕ → Octets → List Octets
pieces size octets = pieces_within (length octets) size octets

abbrev pub fragments_of_pieces : List Octets → List Fragment
fragments_of_pieces [] = []
fragments_of_pieces (piece ∷ others) = Beginning piece ∷ map Continuation others

-- The packets of a PDU, each with at most `size` octets of data. (P-WIRE-6)
abbrev pub fragments_of : ℕ → Pdu → List Fragment
fragments_of size pdu = fragments_of_pieces (pieces size (frame_octets pdu))

-- The packets of several PDUs, in order.
abbrev pub all_packets : List (List Fragment) → List Fragment
all_packets = flat_map (λ packets. packets)

abbrev pub packets_of : ℕ → List Pdu → List Fragment
packets_of size pdus = all_packets (map (fragments_of size) pdus)

abbrev pub total : ℕ → List Pdu → ℕ
total size pdus = length (packets_of size pdus)

-- The unsent packets of each PDU after `given` packets.
abbrev pub rest : ℕ → List (List Fragment) → List (List Fragment)
rest given [] = []
rest given (packets ∷ pdus) =
    if nat_lt given (length packets) then drop given packets ∷ pdus
    else rest (given - length packets) pdus
