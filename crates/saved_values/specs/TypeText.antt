-- Types as texts: four hexadecimal digits for 16 bits, otherwise a UUID with hyphens (RFC 4122, 3).
use Rattle.std.specs.Prelude.{◌/◌, ◌^◌, if◌then◌else◌}
use Rattle.std.specs.Int.{w16, w128, to_be_bytes}
use Rattle.hex.specs.Hex.{encode_lower}
use Rattle.uuid.specs.Text.{hyphenated_text, lower}
use Rattle.octet_io.specs.Number.{Octets}
use Rattle.att_numbers.specs.AttributeType.{is_of_16_bits}
use Rattle.att_numbers.specs.Types.{AttributeType}

abbrev pub short_type_text : AttributeType → Octets
short_type_text kind = encode_lower (to_be_bytes w16 (kind / 2 ^ 96))

abbrev pub long_type_text : AttributeType → Octets
long_type_text kind = hyphenated_text lower (to_be_bytes w128 kind)

abbrev pub type_text : AttributeType → Octets
type_text kind = if is_of_16_bits kind then short_type_text kind else long_type_text kind
