-- The fields of a characteristic or descriptor (this profile's own).
use Rattle.std.specs.Prelude.{ℕ, ℤ, pos, negsuc, Bool, ◌==◌, ◌&&◌, ◌||◌, not, nat_le, if◌then◌else◌, List, [], ◌∷◌, length, codes, Option, Some, None, Result, Ok, Err}
use Rattle.std.specs.Int.RustNames.{bit_and, bit_or}
use Rattle.std.specs.List.{find}
use Rattle.std.specs.Option.{option_map}
use Rattle.std.specs.Str.{bytes_eq}
use Rattle.hex.specs.Hex.{decode_of}
use Rattle.hex.specs.declared.error.FromHexError.{FromHexError}
use Rattle.octet_io.specs.Number.{Octets}
use Rattle.att_policy.specs.declared.guard.Properties.{Properties}
use Rattle.att_policy.specs.declared.guard.TheConstants.Properties.{READ, WRITE_WITHOUT_RESPONSE, WRITE, NOTIFY, INDICATE}
use Rattle.att_table.specs.declared.table_fault.TableFault.{TableFault}
use Rattle.att_table.specs.declared.table_fault.TableFault.TheVariants.{BadHex, TooLong, BadSecurity}
use Rattle.att_numbers.specs.declared.limit.TheConstants.{MAX_VALUE}

abbrev pub value_decoded : Result Octets FromHexError → Result Octets TableFault
value_decoded (Err _) = Err BadHex
value_decoded (Ok octets) = if nat_le (length octets) MAX_VALUE then Ok octets else Err TooLong

-- A value is hexadecimal text of at most `MAX_VALUE` octets.
abbrev pub value_of : Octets → Result Octets TableFault
value_of text = value_decoded (decode_of text)

-- The largest length of a value: its length, unless the file states another.
abbrev pub largest_of : Option ℤ → Bool → ℕ → Result ℕ TableFault
largest_of None fixed length = Ok length
largest_of (Some (pos max)) fixed length =
    if nat_le length max && nat_le max MAX_VALUE && (not fixed || (max == length)) then Ok max
    else Err TooLong
largest_of (Some (negsuc _)) fixed length = Err TooLong

-- The words of the properties (Core 5.0, Vol 3 Part G, 3.3.1.1).
abbrev pub property_words : List (Octets × Properties)
property_words =
    (codes "read", READ) ∷ (codes "command", WRITE_WITHOUT_RESPONSE) ∷ (codes "write", WRITE)
    ∷ (codes "notify", NOTIFY) ∷ (codes "indicate", INDICATE) ∷ []

abbrev pub property_named : Octets → Option Properties
property_named word =
    option_map (λ (row : Octets × Properties). row.1)
    (find (λ (row : Octets × Properties). bytes_eq word row.0) property_words)

abbrev pub both_of : Properties → Properties → Properties
both_of some others = record { 0 = bit_or some.0 others.0 }

abbrev pub all_properties : List Properties → Properties
all_properties [] = record { 0 = 0 }
all_properties (first ∷ rest) = both_of first (all_properties rest)

abbrev pub has_all : Properties → Properties → Bool
has_all properties these = bit_and properties.0 these.0 == these.0

abbrev pub has_any : Properties → Properties → Bool
has_any properties these = not (bit_and properties.0 these.0 == 0)

-- A key size is 7 to 16 octets.
abbrev pub key_size_asked : Option ℤ → Result (Option ℕ) TableFault
key_size_asked None = Ok None
key_size_asked (Some (pos size)) =
    if nat_le 7 size && nat_le size 16 then Ok (Some size) else Err BadSecurity
key_size_asked (Some (negsuc _)) = Err BadSecurity
