-- Attribute types in requests: 16-bit and 128-bit UUIDs.
use Rattle.std.specs.Prelude.{◌^◌, ◌<◌, ◌==◌, if◌then◌else◌, [], ◌∷◌, length, Option, Some, None}
use Rattle.std.specs.Int.{w128, from_le_bytes, to_le_bytes}
use Rattle.att_numbers.specs.AttributeType.{of_16_bits}
use Rattle.att_numbers.specs.Types.{AttributeType}
use Rattle.att_pdu.specs.declared.uuid.Uuid.{Uuid}
use Rattle.att_pdu.specs.declared.uuid.Uuid.TheVariants.{Short, Long}
use Rattle.octet_io.specs.Number.{Octets, two_octets, from_two}

-- The number by which types are compared (Core 5.0, Vol 3 Part B, 2.5.1). (P-LIST-2)
abbrev pub uuid_number : Uuid → AttributeType
uuid_number (Short short) = of_16_bits short
uuid_number (Long long) = long

-- A type is sent least significant octet first (Core 5.0, Vol 3 Part F, 3.2.1).
abbrev pub uuid_octets : Uuid → Octets
uuid_octets (Short short) = two_octets short
uuid_octets (Long long) = to_le_bytes w128 long

abbrev pub HasUuidOctets : Uuid → Type 0
HasUuidOctets (Short short) = short < 2 ^ 16
HasUuidOctets (Long long) = long < 2 ^ 128

abbrev pub long_form : Octets → Option Uuid
long_form octets = if length octets == 16 then Some (Long (from_le_bytes w128 octets)) else None

abbrev pub uuid_form : Octets → Option Uuid
uuid_form (low ∷ high ∷ []) = Some (Short (from_two low high))
uuid_form octets = long_form octets
