-- Types as texts: four hexadecimal digits with a name, or a UUID of 128 bits.
use Rattle.std.specs.Prelude.{[], ◌∷◌, ◌++◌, ◌==◌, if◌then◌else◌, map, slice_index, length, take, drop, codes, Option, Some, None}
use Rattle.std.specs.Fmt.{decimal}
use Rattle.hex.specs.Hex.{encode_lower}
use Rattle.octet_io.specs.Number.{Octets, from_two}
use Rattle.att_numbers.specs.AttributeType.{type_octets}
use Rattle.att_numbers.specs.Types.{AttributeType, Handle}
use Rattle.text_words.specs.Cells.{right}
use Rattle.policy_words.specs.TypeNames.{type_name}

-- The name follows a space.
abbrev pub space_and_name : Option Octets → Octets
space_and_name None = []
space_and_name (Some name) = 32 ∷ name

-- The octets of a UUID, highest first; a value has the lowest first.
abbrev pub highest_first : Octets → Octets
highest_first octets =
    map (slice_index octets)
    (15 ∷ 14 ∷ 13 ∷ 12 ∷ 11 ∷ 10 ∷ 9 ∷ 8 ∷ 7 ∷ 6 ∷ 5 ∷ 4 ∷ 3 ∷ 2 ∷ 1 ∷ 0 ∷ [])

-- Hyphens join groups of 4, 2, 2, 2 and 6 octets (RFC 4122, 3).
abbrev pub hyphenated : Octets → Octets
hyphenated octets =
    encode_lower (take 4 octets) ++ 45 ∷ encode_lower (take 2 (drop 4 octets)) ++ 45
    ∷ encode_lower (take 2 (drop 6 octets))
    ++ 45 ∷ encode_lower (take 2 (drop 8 octets)) ++ 45 ∷ encode_lower (drop 10 octets)

unfoldable pub uuid_text : Octets → Octets
uuid_text octets = hyphenated (highest_first octets)

-- Octets of another length are no type.
abbrev pub long_text : Octets → Octets
long_text octets = if length octets == 16 then uuid_text octets else []

unfoldable pub type_text : Octets → Octets
type_text (low ∷ high ∷ []) =
    encode_lower (high ∷ low ∷ []) ++ space_and_name (type_name (from_two low high))
type_text octets = long_text octets

-- An attribute, by its handle and its type.
unfoldable pub handle_and_type : Handle → AttributeType → Octets
handle_and_type handle kind = right 5 (decimal handle) ++ codes "  " ++ type_text (type_octets kind)
