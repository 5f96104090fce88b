-- Device addresses as texts (this profile's own).
use Rattle.std.specs.Prelude.{ℕ, Bool, ◌==◌, ◌&&◌, ◌*◌, ◌+◌, if◌then◌else◌, [], ◌∷◌, ◌++◌, length, take, drop, reverse, slice_index_or, codes, Option, Some, None}
use Rattle.std.specs.List.{list_all}
use Rattle.std.specs.Option.{option_map}
use Rattle.std.specs.Result.{result_ok}
use Rattle.std.specs.Str.{bytes_eq}
use Rattle.hex.specs.Hex.{decode_sized}
use Rattle.octet_io.specs.Missing.{◌>>=◌}
use Rattle.octet_io.specs.Number.{Octets}
use Rattle.le_hci.specs.declared.peer.Peer.{Peer}
use Rattle.le_hci.specs.declared.peer.TheConstants.{PUBLIC_ADDRESS, RANDOM_ADDRESS}

-- Twelve digits write six octets, in reverse of wire order.
abbrev pub address_octets : Octets → Option Octets
address_octets digits = option_map reverse (result_ok (decode_sized digits 6))

abbrev pub pair : Octets → ℕ → Octets
pair text number = take 2 (drop (3 * number) text)

abbrev pub separator_behind : Octets → ℕ → ℕ
separator_behind text number = slice_index_or text (3 * number + 2) 0

abbrev pub colon : ℕ
colon = 58

abbrev pub is_joined : Octets → Bool
is_joined text =
    (length text == 17) && list_all (λ number. separator_behind text number == colon)
    (0 ∷ 1 ∷ 2 ∷ 3 ∷ 4 ∷ [])

-- An address is six pairs of digits joined by colons.
abbrev pub address_of : Octets → Option Octets
address_of text =
    if is_joined text
    then address_octets
    (pair text 0 ++ pair text 1 ++ pair text 2 ++ pair text 3 ++ pair text 4 ++ pair text 5)
    else None

-- The words for the address types (Core 5.0, Vol 2 Part E, 7.7.65.1).
abbrev pub address_type_of : Octets → Option ℕ
address_type_of word =
    if bytes_eq word (codes "public") then Some PUBLIC_ADDRESS
    else if bytes_eq word (codes "random") then Some RANDOM_ADDRESS
    else None

abbrev pub address_type_of_digit : Octets → Option ℕ
address_type_of_digit word =
    if bytes_eq word (codes "0") then Some PUBLIC_ADDRESS
    else if bytes_eq word (codes "1") then Some RANDOM_ADDRESS
    else None

unfoldable pub peer_of : Octets → Octets → Option Peer
peer_of kind address = do
  type ← address_type_of_digit kind
  octets ← address_of address
  Some (record { kind = type; address = octets })
