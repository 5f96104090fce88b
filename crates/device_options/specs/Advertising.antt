-- Advertising data (Core 5.0, Vol 3 Part C, 11, and the Supplement to the Core Specification, Part
-- A, 1).
use Rattle.std.specs.Prelude.{◌≡◌, ℕ, ◌+◌, ◌-◌, nat_le, if◌then◌else◌, Bool, true, false, List, [], ◌∷◌, ◌++◌, length, take, Option, Some, None}
use Rattle.octet_io.specs.Missing.{◌>>=◌}
use Rattle.octet_io.specs.Number.{Octets}
use Rattle.att_numbers.specs.AttributeType.{is_of_16_bits, type_octets}
use Rattle.att_numbers.specs.Types.{AttributeType}
use Rattle.att_table.specs.file.TypeText.{type_named}
use Rattle.le_hci.specs.declared.command.TheConstants.{MAX_ADVERTISING_DATA}
use Rattle.device_options.specs.declared.advertising.TheConstants.{COMPLETE_NAME, SERVICES_OF_128_BITS, SERVICES_OF_16_BITS, SHORTENED_NAME}

-- General discovery, without BR/EDR.
abbrev pub flags : Octets
flags = 0x02 ∷ 0x01 ∷ 0x06 ∷ []

-- A part: its length, its kind, and its data. Without data there is none.
abbrev pub part : ℕ → Octets → Octets
part kind [] = []
part kind (octet ∷ octets) = (length (octet ∷ octets) + 1) ∷ kind ∷ octet ∷ octets

-- Octets that fit into advertising data.
abbrev pub that_fits : Octets → Option Octets
that_fits octets = if nat_le (length octets) MAX_ADVERTISING_DATA then Some octets else None

-- The UUIDs of services, those of 16 bits and those of 128 bits, each with its lowest octet first.
pub record Services : Type 0 where
  pub short : Octets
  pub long : Octets

abbrev pub no_services : Services
no_services = record { short = []; long = [] }

abbrev pub with_service : Services → AttributeType → Option Services
with_service services kind =
    if is_of_16_bits kind
    then that_fits (services.short ++ type_octets kind)
    >>= (λ short. Some (record services { short = short }))
    else that_fits (services.long ++ type_octets kind)
    >>= (λ long. Some (record services { long = long }))

-- The services that words name, each list in their order: none if a word names none, or they are
-- too many.
abbrev pub with_services : Services → List Octets → Option Services
with_services services [] = Some services
with_services services (word ∷ words) =
    type_named word >>= (λ kind. with_service services kind >>= (λ next. with_services next words))

abbrev pub with_part : Octets → ℕ → Octets → Option Octets
with_part built kind [] = Some built
with_part built kind (octet ∷ octets) = that_fits (built ++ part kind (octet ∷ octets))

-- The flags, and the services.
abbrev pub before_name : List Octets → Option Octets
before_name words =
    with_services no_services words
    >>= (λ services. with_part flags SERVICES_OF_16_BITS services.short
    >>= (λ built. with_part built SERVICES_OF_128_BITS services.long))

abbrev pub has_room_for : Octets → Octets → Bool
has_room_for name before = nat_le (length name) (MAX_ADVERTISING_DATA - (length before + 2))

-- Behind these octets is the whole name if it fits, else a prefix of it.
pub record IsNamed (name before built : Octets) : Type 0 where
  pub whole : has_room_for name before ≡ true → built ≡ before ++ part COMPLETE_NAME name
  pub front : ℕ
  pub shortened : has_room_for name before ≡ false
      → built ≡ before ++ part SHORTENED_NAME (take front name)

-- The data of these services and this name.
pub record Advertises (words : List Octets) (name built : Octets) : Type 0 where
  pub before : Octets
  pub services : before_name words ≡ Some before
  pub named : IsNamed name before built
