-- The rules of an access in this profile's order, with their error codes (Core 5.0, Vol 3 Part F,
-- 3.4.1.1), and which values a connection may be notified of.
use Rattle.std.specs.Prelude.{◌≡◌, ℕ, ◌+◌, ◌<◌, Bool, true, false, ◌==◌, ◌&&◌, ◌||◌, not, nat_lt, nat_le, is_none, if◌then◌else◌, List, [], ◌∷◌, Option, Some, None}
use Rattle.std.specs.Int.RustNames.{bit_and}
use Rattle.std.specs.List.{find}
use Rattle.std.specs.Option.{option_map, option_map_or}
use Rattle.att_numbers.specs.Types.{Code}
use Rattle.att_numbers.specs.declared.error_code.TheConstants.{INVALID_HANDLE, READ_NOT_PERMITTED, WRITE_NOT_PERMITTED, INSUFFICIENT_AUTHENTICATION, INSUFFICIENT_AUTHORIZATION, INSUFFICIENT_ENCRYPTION_KEY_SIZE, INSUFFICIENT_ENCRYPTION}
use Rattle.att_policy.specs.declared.guard.TheConstants.{NOTIFICATION, INDICATION}
use Rattle.att_policy.specs.declared.guard.TheConstants.Properties.{READ, WRITE, WRITE_WITHOUT_RESPONSE, NOTIFY, INDICATE}
use Rattle.att_policy.specs.declared.guard.Guard.{Guard}
use Rattle.att_policy.specs.declared.guard.Need.{Need}
use Rattle.att_policy.specs.declared.guard.Properties.{Properties}
use Rattle.att_policy.specs.declared.policy.Access.{Access}
use Rattle.att_policy.specs.declared.policy.Access.TheVariants.{Read, Write, Command}
use Rattle.att_policy.specs.declared.policy.Rule.{Rule}
use Rattle.att_policy.specs.declared.policy.Rule.TheVariants.{HandleExists, Property, Encryption, Authentication, KeySize, SecureConnections, Authorization}
use Rattle.att_policy.specs.declared.standing.KeyFacts.{KeyFacts}
use Rattle.att_policy.specs.declared.standing.Standing.{Standing}
use Rattle.att_policy.specs.Need.{needs_encryption_of, needs_authentication_of, key_size_of}

abbrev pub property_of : Access → Properties
property_of Read = READ
property_of Write = WRITE
property_of Command = WRITE_WITHOUT_RESPONSE

abbrev pub has_property : Properties → Properties → Bool
has_property properties property = bit_and properties.0 property.0 == property.0

abbrev pub need_of : Access → Guard → Need
need_of Read guard = guard.read
need_of Write guard = guard.write
need_of Command guard = guard.write

-- A link without a key has no authenticated or secure key, and key size 0.
abbrev pub has_authenticated_key : Standing → Bool
has_authenticated_key standing =
    option_map_or (λ (key : KeyFacts). key.authenticated) standing.key false

abbrev pub has_secure_key : Standing → Bool
has_secure_key standing = option_map_or (λ (key : KeyFacts). key.secure) standing.key false

abbrev pub size_of_key : Standing → ℕ
size_of_key standing = option_map_or (λ (key : KeyFacts). key.size) standing.key 0

-- The connection fails a rule of `rules_of_need`. (P-POL-1, P-POL-3)
abbrev pub is_unmet : Need → Standing → Rule → Bool
is_unmet need standing HandleExists = false
is_unmet need standing Property = false
is_unmet need standing Encryption = needs_encryption_of need && is_none standing.key
is_unmet need standing Authentication =
    needs_authentication_of need && not (has_authenticated_key standing)
is_unmet need standing KeySize = nat_lt (size_of_key standing) (key_size_of need)
is_unmet need standing SecureConnections = need.secure && not (has_secure_key standing)
is_unmet need standing Authorization = need.authorized && nat_le standing.until standing.now

-- An access without an attribute at its handle breaks only `HandleExists`.
abbrev pub is_broken : Access → Option Guard → Standing → Rule → Bool
is_broken access None standing HandleExists = true
is_broken access None standing _ = false
is_broken access (Some guard) standing Property =
    not (has_property guard.properties (property_of access))
is_broken access (Some guard) standing rule = is_unmet (need_of access guard) standing rule

-- The rules on the connection, in the order of checking.
abbrev pub rules_of_need : List Rule
rules_of_need = Encryption ∷ Authentication ∷ KeySize ∷ SecureConnections ∷ Authorization ∷ []

abbrev pub rules_in_order : List Rule
rules_in_order = HandleExists ∷ Property ∷ rules_of_need

abbrev pub rule_place : Rule → ℕ
rule_place HandleExists = 1
rule_place Property = 2
rule_place Encryption = 3
rule_place Authentication = 4
rule_place KeySize = 5
rule_place SecureConnections = 6
rule_place Authorization = 7

abbrev pub not_permitted_code : Access → Code
not_permitted_code Read = READ_NOT_PERMITTED
not_permitted_code Write = WRITE_NOT_PERMITTED
not_permitted_code Command = WRITE_NOT_PERMITTED

-- The error code of a broken rule: a peer with a key must encrypt, any other must authenticate
-- (Core 5.0, Vol 3 Part C, 10.3.1). (P-POL-2)
abbrev pub code_of : Access → Standing → Rule → Code
code_of access standing HandleExists = INVALID_HANDLE
code_of access standing Property = not_permitted_code access
code_of access standing Encryption =
    if standing.key_known then INSUFFICIENT_ENCRYPTION else INSUFFICIENT_AUTHENTICATION
code_of access standing Authentication = INSUFFICIENT_AUTHENTICATION
code_of access standing KeySize = INSUFFICIENT_ENCRYPTION_KEY_SIZE
code_of access standing SecureConnections = INSUFFICIENT_AUTHENTICATION
code_of access standing Authorization = INSUFFICIENT_AUTHORIZATION

abbrev pub first_unmet_rule_of : Need → Standing → Option Rule
first_unmet_rule_of need standing = find (is_unmet need standing) rules_of_need

-- The first rule that an access breaks; `first_broken_of` adds its error code. (P-POL-2)
abbrev pub first_broken_rule_of : Access → Option Guard → Standing → Option Rule
first_broken_rule_of access guard standing = find (is_broken access guard standing) rules_in_order

abbrev pub first_broken_of : Access → Option Guard → Standing → Option (Rule × Code)
first_broken_of access guard standing =
    option_map (λ rule. (rule, code_of access standing rule))
    (first_broken_rule_of access guard standing)

abbrev pub IsPermitted : Access → Option Guard → Standing → Type 0
IsPermitted access guard standing = (rule : Rule) → is_broken access guard standing rule ≡ false

-- Every connection may make the access.
abbrev pub is_open_of : Access → Guard → Bool
is_open_of access guard =
    has_property guard.properties (property_of access)
    && not (needs_encryption_of (need_of access guard) || (need_of access guard).authorized)

-- The access breaks this rule and no earlier one.
pub record IsFirstBroken (access : Access) (guard : Option Guard) (standing : Standing)
    (rule : Rule) : Type 0 where
  pub broken : is_broken access guard standing rule ≡ true
  pub none_before : (earlier : Rule) → rule_place earlier < rule_place rule
      → is_broken access guard standing earlier ≡ false

-- The bits that a client characteristic configuration may have (Core 5.0, Vol 3 Part G, 3.3.3.3).
-- (P-WRITE-5)
abbrev pub configuration_bits_of : Properties → ℕ
configuration_bits_of properties =
    (if has_property properties NOTIFY then NOTIFICATION else 0)
    + (if has_property properties INDICATE then INDICATION else 0)

-- A client with these bits may be notified: one is allowed and the requirements for reading are
-- met. The read property is not required (this profile's own). (P-SUB-1)
abbrev pub may_hear_of : Guard → ℕ → Standing → Bool
may_hear_of guard bits standing =
    not (bit_and bits (configuration_bits_of guard.properties) == 0)
    && is_none (first_unmet_rule_of guard.read standing)

-- `may_hear_of` in terms of the rules.
pub record MayHear (guard : Guard) (bits : ℕ) (standing : Standing) : Type 0 where
  pub allowed : 0 < bit_and bits (configuration_bits_of guard.properties)
  pub met : (rule : Rule) → is_unmet guard.read standing rule ≡ false
