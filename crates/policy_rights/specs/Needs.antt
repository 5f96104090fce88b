-- The requirements of an attribute, and whether they fit each other (this profile's own).
use Rattle.std.specs.Prelude.{◌+◌, Bool, false, ◌||◌, ◌&&◌, if◌then◌else◌, not, nat_lt, List, Option, Some, None}
use Rattle.std.specs.Option.{option_and_then, option_map_or}
use Rattle.att_numbers.specs.Types.{Handle}
use Rattle.att_policy.specs.declared.guard.Guard.{Guard}
use Rattle.att_policy.specs.declared.guard.Need.{Need}
use Rattle.att_policy.specs.declared.guard.Properties.{Properties}
use Rattle.att_policy.specs.declared.guard.TheConstants.Properties.{READ, WRITE_WITHOUT_RESPONSE, WRITE, NOTIFY, INDICATE}
use Rattle.att_policy.specs.Need.{needs_encryption_of, needs_authentication_of, key_size_of}
use Rattle.att_policy.specs.Policy.{has_property}
use Rattle.att_attributes.specs.declared.attr.Attr.{Attr}
use Rattle.att_attributes.specs.Attributes.{attribute_at, is_configuration}

abbrev pub is_notified_or_indicated : Properties → Bool
is_notified_or_indicated properties =
    has_property properties NOTIFY || has_property properties INDICATE

-- A notified or indicated value needs what reading needs.
abbrev pub is_heard : Properties → Bool
is_heard properties = has_property properties READ || is_notified_or_indicated properties

-- These need what writing needs.
abbrev pub is_written : Properties → Bool
is_written properties =
    has_property properties WRITE || has_property properties WRITE_WITHOUT_RESPONSE

abbrev pub has_no_property : Properties → Bool
has_no_property properties = not (is_heard properties || is_written properties)

abbrev pub asks_nothing : Need → Bool
asks_nothing need = not (needs_encryption_of need) && not need.authorized

-- One need has a part that the other lacks.
abbrev pub asks_more : Need → Need → Bool
asks_more one other =
    (needs_encryption_of one && not (needs_encryption_of other))
    || ((needs_authentication_of one && not (needs_authentication_of other))
    || (nat_lt (key_size_of other) (key_size_of one)
    || ((one.secure && not other.secure) || (one.authorized && not other.authorized))))

-- An authorization without encryption trusts the address of a peer.
abbrev pub trusts_address : Need → Bool
trusts_address need = need.authorized && not (needs_encryption_of need)

abbrev pub asks_less : Guard → Bool
asks_less guard =
    is_heard guard.properties && (is_written guard.properties && asks_more guard.read guard.write)

abbrev pub has_idle_read_rule : Guard → Bool
has_idle_read_rule guard = not (is_heard guard.properties) && not (asks_nothing guard.read)

abbrev pub has_idle_write_rule : Guard → Bool
has_idle_write_rule guard = not (is_written guard.properties) && not (asks_nothing guard.write)

abbrev pub trusts_an_address : Guard → Bool
trusts_an_address guard =
    (is_heard guard.properties && trusts_address guard.read)
    || (is_written guard.properties && trusts_address guard.write)

-- The need for the write of a configuration.
abbrev pub configuration_need : List Attr → Handle → Option Need
configuration_need attributes handle =
    option_and_then
    (λ (attr : Attr). if is_configuration attr.role then Some attr.guard.write else None)
    (attribute_at attributes handle)

-- The need for a subscription to the value at a handle.
abbrev pub subscription_need : List Attr → Handle → Option Need
subscription_need attributes handle =
    option_and_then (λ (attr : Attr). configuration_need attributes (handle + 1))
    (attribute_at attributes handle)

abbrev pub is_subscription_forgeable : List Attr → Handle → Bool
is_subscription_forgeable attributes handle =
    option_map_or trusts_address (subscription_need attributes handle) false
