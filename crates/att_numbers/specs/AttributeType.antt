-- Attribute types, as numbers below 2 ^ 128 (Core 5.0, Vol 3 Part B, 2.5.1).
use Rattle.std.specs.Prelude.{ℕ, ◌+◌, ◌*◌, ◌/◌, ◌%◌, ◌^◌, List, Bool, ◌==◌, ◌&&◌, nat_lt, if◌then◌else◌}
use Rattle.std.specs.Int.{w16, w128, to_le_bytes}
use Rattle.att_numbers.specs.declared.attribute_type.TheConstants.{BASE_UUID}
use Rattle.att_numbers.specs.Types.{AttributeType}

-- The type of a 16-bit UUID.
abbrev pub of_16_bits : ℕ → AttributeType
of_16_bits number = number * 2 ^ 96 + BASE_UUID

-- The type is that of a 16-bit UUID.
abbrev pub is_of_16_bits : AttributeType → Bool
is_of_16_bits kind = (kind % 2 ^ 96 == BASE_UUID) && nat_lt (kind / 2 ^ 96) (2 ^ 16)

-- The octets of a type, lowest first: 2 for a 16-bit UUID, else 16 (Core 5.0, Vol 3 Part F, 3.2.1).
abbrev pub type_octets : AttributeType → List ℕ
type_octets kind =
    if is_of_16_bits kind then to_le_bytes w16 (kind / 2 ^ 96) else to_le_bytes w128 kind
