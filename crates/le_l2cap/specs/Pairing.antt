-- Pairing is not supported (Core 5.0, Vol 3 Part H, 3.3 and 3.5.5).
use Rattle.std.specs.Prelude.{◌==◌, if◌then◌else◌, [], ◌∷◌, Option, Some, None}
use Rattle.octet_io.specs.Number.{Octets}
use Rattle.le_l2cap.specs.declared.pairing.TheConstants.{PAIRING_REQUEST}

-- Pairing Failed with reason Pairing Not Supported.
abbrev pub pairing_failed : Octets
pairing_failed = 0x05 ∷ 0x05 ∷ []

-- A Pairing Request is rejected; all else is ignored. (P-WIRE-7)
abbrev pub pairing_answer : Octets → Option Octets
pairing_answer [] = None
pairing_answer (code ∷ parameters) = if code == PAIRING_REQUEST then Some pairing_failed else None
