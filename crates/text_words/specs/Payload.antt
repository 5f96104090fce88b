-- Octets in a line (this profile's own).
use Rattle.std.specs.Prelude.{◌≡◌, ◌*◌, nat_lt, nat_le, if◌then◌else◌, [], length, codes, Option, Some, None, unwrap_or}
use Rattle.std.specs.Result.{result_ok}
use Rattle.std.specs.Str.{bytes_eq}
use Rattle.hex.specs.Hex.{decode_of}
use Rattle.octet_io.specs.Number.{Octets}
use Rattle.octet_io.specs.declared.pdu.TheConstants.{MAX_PDU}

-- At most a PDU's octets, two digits each.
unfoldable pub decoded : Octets → Option Octets
decoded digits = if nat_le (length digits) (2 * MAX_PDU) then result_ok (decode_of digits) else None

-- A hyphen means no octets, and an empty word is wrong.
unfoldable pub payload_of : Octets → Option Octets
payload_of word =
    if bytes_eq word (codes "-") then Some []
    else if nat_lt 0 (length word) then decoded word
    else None

unfoldable pub decoded_octets : Octets → Octets
decoded_octets digits = unwrap_or (decoded digits) []

abbrev pub IsWritten : Octets → Type 0
IsWritten digits = decoded digits ≡ Some (decoded_octets digits)
