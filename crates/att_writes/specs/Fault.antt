-- The reasons and error codes for rejecting a write (Core 5.0, Vol 3 Part F, 3.4.1.1). Their order
-- is this profile's own.
use Rattle.std.specs.Prelude.{ℕ, ◌+◌, Bool, false, ◌==◌, ◌&&◌, not, nat_lt, if◌then◌else◌, List, [], ◌∷◌, length, Option, Some, None}
use Rattle.std.specs.Int.RustNames.{bit_and}
use Rattle.std.specs.Option.{option_map_or}
use Rattle.att_numbers.specs.Types.{Handle, Code}
use Rattle.att_numbers.specs.declared.error_code.TheConstants.{INVALID_OFFSET, INVALID_ATTRIBUTE_VALUE_LENGTH, OUT_OF_RANGE}
use Rattle.att_policy.specs.declared.policy.Access.{Access}
use Rattle.att_policy.specs.declared.policy.Rule.{Rule}
use Rattle.att_policy.specs.declared.standing.Standing.{Standing}
use Rattle.att_policy.specs.Policy.{first_broken_of}
use Rattle.att_attributes.specs.declared.attr.Attr.{Attr}
use Rattle.att_attributes.specs.Attributes.{attribute_at, configuration_bits_at, guard_at, is_configuration_at, is_fixed_at}
use Rattle.att_writes.specs.Entry.{Entry}
use Rattle.octet_io.specs.Number.{Octets}

-- The octets are allowed bits of a configuration, least significant octet first.
abbrev pub has_bits_within : ℕ → Octets → Bool
has_bits_within bits (low ∷ high ∷ []) = (bit_and low bits == low) && (high == 0)
has_bits_within bits octets = false

-- A configuration is written whole, with allowed bits; the error code for others is this profile's
-- own. (P-ATT-7, P-WRITE-5)
abbrev pub configuration_fault : List Attr → Entry → Option Code
configuration_fault attributes entry =
    if not (entry.offset == 0) then Some INVALID_OFFSET
    else if not (length entry.part == 2) then Some INVALID_ATTRIBUTE_VALUE_LENGTH
    else if has_bits_within (configuration_bits_at attributes entry.handle) entry.part then None
    else Some OUT_OF_RANGE

-- The largest length of a value of this length; a fixed value keeps its length. (P-WRITE-1)
abbrev pub room_for : List Attr → Handle → ℕ → ℕ
room_for attributes handle size =
    if is_fixed_at attributes handle then size
    else option_map_or (λ (attr : Attr). attr.largest) (attribute_at attributes handle) 0

-- Any other value: its offset is checked before its length. (P-ATT-7, P-WRITE-1)
abbrev pub value_fault : List Attr → ℕ → Entry → Option Code
value_fault attributes size entry =
    if nat_lt size entry.offset then Some INVALID_OFFSET
    else if nat_lt (room_for attributes entry.handle size) (entry.offset + length entry.part)
    then Some INVALID_ATTRIBUTE_VALUE_LENGTH
    else None

abbrev pub form_fault : List Attr → ℕ → Entry → Option Code
form_fault attributes size entry =
    if is_configuration_at attributes entry.handle then configuration_fault attributes entry
    else value_fault attributes size entry

-- The policy is checked before the entry's form.
abbrev pub unless_broken : Option (Rule × Code) → Option Code → Option Code
unless_broken (Some broken) fault = Some broken.1
unless_broken None fault = fault

-- The error code for an entry, if it is rejected; `size` is the value's length. (P-ATT-6, P-PREP-3)
abbrev pub entry_fault : Access → List Attr → Standing → ℕ → Entry → Option Code
entry_fault access attributes standing size entry =
    unless_broken (first_broken_of access (guard_at attributes entry.handle) standing)
    (form_fault attributes size entry)
