-- The reasons for rejecting requests that read (Core 5.0, Vol 3 Part F, 3.4.3 and 3.4.4).
use Rattle.std.specs.Prelude.{ℕ, ◌==◌, ◌||◌, nat_lt, if◌then◌else◌, List, [], ◌∷◌, length, Option, Some, None}
use Rattle.att_numbers.specs.Types.{Handle, AttributeType, Opcode}
use Rattle.att_numbers.specs.declared.error_code.TheConstants.{INVALID_HANDLE, INVALID_OFFSET, ATTRIBUTE_NOT_FOUND, UNSUPPORTED_GROUP_TYPE}
use Rattle.att_pdu.specs.Response.{Response, ErrorResponse}
use Rattle.att_policy.specs.Refusal.{Refusal}
use Rattle.att_attributes.specs.Group.{is_service_type}
use Rattle.octet_io.specs.Number.{Octets}

-- The first rejection, otherwise the given response.
abbrev pub unless_refused : Opcode → List (Option Refusal) → Response → Response
unless_refused request [] answer = answer
unless_refused request (Some refusal ∷ rest) answer =
    ErrorResponse request refusal.handle refusal.code
unless_refused request (None ∷ rest) answer = unless_refused request rest answer

-- A range is empty or begins with 0 (3.4.3.1). (P-ATT-5)
abbrev pub range_refusal : Handle → Handle → Option Refusal
range_refusal first last =
    if (first == 0) || nat_lt last first
    then Some (record { handle = first; code = INVALID_HANDLE }) else None

-- Only services can be read by group type (Core 5.0, Vol 3 Part G, 2.5.3). (P-ATT-5)
abbrev pub group_type_refusal : Handle → AttributeType → Option Refusal
group_type_refusal first type =
    if is_service_type type then None
    else Some (record { handle = first; code = UNSUPPORTED_GROUP_TYPE })

-- (P-LIST-1)
abbrev pub not_found : {A : Type 0} → Handle → List A → Option Refusal
not_found first [] = Some (record { handle = first; code = ATTRIBUTE_NOT_FOUND })
not_found first (found ∷ rest) = None

-- An offset is past the end of a value (3.4.4.5). (P-READ-1)
abbrev pub offset_refusal : Handle → ℕ → Octets → Option Refusal
offset_refusal handle offset value =
    if nat_lt (length value) offset then Some (record { handle = handle; code = INVALID_OFFSET })
    else None
