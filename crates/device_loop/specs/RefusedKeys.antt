-- The connections to which a host has no key to give.
use Rattle.std.specs.Prelude.{◌≡◌, ℕ, ◌<◌, ◌^◌, ◌==◌, if◌then◌else◌, ◌∷◌, Option, Some, None}
use Rattle.octet_io.specs.Number.{Octets, from_two}
use Rattle.le_h4.specs.declared.indicator.TheConstants.{COMMAND}
use Rattle.le_hci.specs.Command.{LeLongTermKeyRequestNegativeReply, packet_of}
use Rattle.le_hci.specs.declared.opcode.TheConstants.{LE_LONG_TERM_KEY_REQUEST_NEGATIVE_REPLY}

-- The connection of an LE Long Term Key Request Negative Reply: its only parameter (Core 5.0, Vol 2
-- Part E, 7.8.26, in a command packet as of 5.4.1).
abbrev pub refused_by : ℕ → ℕ → Option ℕ
refused_by code handle =
    if code == LE_LONG_TERM_KEY_REQUEST_NEGATIVE_REPLY then Some handle else None

abbrev pub refused_key : Octets → Option ℕ
refused_key (indicator ∷ low ∷ high ∷ size ∷ handle_low ∷ handle_high ∷ octets) =
    if indicator == COMMAND then refused_by (from_two low high) (from_two handle_low handle_high)
    else None
refused_key _ = None

-- The packet of the command is recognised.
abbrev pub RecognisesARefusal : Type 0
RecognisesARefusal = (handle : ℕ) → handle < 2 ^ 16
    → refused_key (COMMAND ∷ packet_of (LeLongTermKeyRequestNegativeReply handle)) ≡ Some handle
