-- Attribute types as texts (this profile's own).
use Rattle.std.specs.Prelude.{Bool, ◌==◌, not, List, [], ◌∷◌, Option}
use Rattle.std.specs.Int.{w16, w128, from_be_bytes}
use Rattle.std.specs.List.{list_any}
use Rattle.std.specs.Option.{option_map, option_or}
use Rattle.std.specs.Result.{result_ok}
use Rattle.hex.specs.Hex.{decode_sized}
use Rattle.octet_io.specs.Number.{Octets}
use Rattle.uuid.specs.Text.{parsed}
use Rattle.att_numbers.specs.AttributeType.{of_16_bits}
use Rattle.att_numbers.specs.Types.{AttributeType}
use Rattle.att_numbers.specs.declared.attribute_type.TheConstants.{PRIMARY_SERVICE, SECONDARY_SERVICE, INCLUDE, CHARACTERISTIC, CLIENT_CHARACTERISTIC_CONFIGURATION}

abbrev pub short_type_named : Octets → Option AttributeType
short_type_named text =
    option_map (λ octets. of_16_bits (from_be_bytes w16 octets)) (result_ok (decode_sized text 2))

abbrev pub long_type_named : Octets → Option AttributeType
long_type_named text = option_map (from_be_bytes w128) (parsed text)

abbrev pub type_named : Octets → Option AttributeType
type_named text = option_or (short_type_named text) (long_type_named text)

-- The types of declarations and of a client configuration.
abbrev pub types_of_no_value : List AttributeType
types_of_no_value =
    PRIMARY_SERVICE ∷ SECONDARY_SERVICE ∷ INCLUDE ∷ CHARACTERISTIC
    ∷ CLIENT_CHARACTERISTIC_CONFIGURATION ∷ []

abbrev pub is_type_of_value : AttributeType → Bool
is_type_of_value kind = not (list_any (λ other. kind == other) types_of_no_value)
