-- The commands of LE signalling (Core 5.0, Vol 3 Part A, 4).
use Rattle.std.specs.Prelude.{◌≡◌, ◌≢◌, ℕ, ◌^◌, ◌<◌, Bool, false, ◌==◌, ◌&&◌, not, if◌then◌else◌, List, [], ◌∷◌, ◌++◌, length, Option, Some, None}
use Rattle.std.specs.List.{list_any}
use Rattle.octet_io.specs.Number.{Octets, two_octets, from_two}
use Rattle.le_l2cap.specs.declared.signalling_command.TheConstants.{COMMAND_REJECT, DISCONNECTION_RESPONSE, CONNECTION_PARAMETER_UPDATE_RESPONSE, LE_CREDIT_BASED_CONNECTION_RESPONSE, LE_FLOW_CONTROL_CREDIT}

pub record Command : Type 0 where
  pub code : ℕ
  pub identifier : ℕ
  pub payload : Octets

-- The octets of a command: code, identifier, data length, data.
abbrev pub command_spelled : Command → Octets
command_spelled command =
    command.code ∷ command.identifier ∷ two_octets (length command.payload) ++ command.payload

-- The identifier is not 0, and the length has 16 bits.
pub record HasCommandFields (command : Command) : Type 0 where
  pub identifier : command.identifier ≢ 0
  pub length : length command.payload < 2 ^ 16

-- The commands that need no response.
abbrev pub ignored_codes : List ℕ
ignored_codes =
    COMMAND_REJECT ∷ DISCONNECTION_RESPONSE ∷ CONNECTION_PARAMETER_UPDATE_RESPONSE
    ∷ LE_CREDIT_BASED_CONNECTION_RESPONSE
    ∷ LE_FLOW_CONTROL_CREDIT ∷ []

abbrev pub is_ignored_code : ℕ → Bool
is_ignored_code code = list_any (λ ignored. code == ignored) ignored_codes

-- The identifier of a payload that is one whole command and is rejected (this profile's own).
-- (P-WIRE-7)
abbrev pub rejected_identifier : Octets → Option ℕ
rejected_identifier (code ∷ identifier ∷ length_low ∷ length_high ∷ payload) =
    if length payload == from_two length_low length_high && not (identifier == 0)
    && not (is_ignored_code code) then Some identifier
    else None
rejected_identifier _ = None

-- The payload is a command with this identifier, and is not ignored.
pub record IsRejected (payload : Octets) (identifier : ℕ) : Type 0 where
  pub code : ℕ
  pub parameters : Octets
  pub whole : payload
      ≡ command_spelled (record { code = code; identifier = identifier; payload = parameters })
  pub not_ignored : is_ignored_code code ≡ false
  pub not_zero : identifier ≢ 0

abbrev pub not_understood : ℕ
not_understood = 0x0000

-- Command Reject with reason Command Not Understood (Core 5.0, Vol 3 Part A, 4.1).
abbrev pub command_reject : ℕ → Octets
command_reject identifier =
    command_spelled
    (record { code = COMMAND_REJECT; identifier = identifier; payload = two_octets not_understood })
