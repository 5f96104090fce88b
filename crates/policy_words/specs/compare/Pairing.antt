-- The attribute of another table that corresponds to one of this (this profile's own).
use Rattle.std.specs.Prelude.{◌-◌, ◌==◌, ◌&&◌, Bool, true, false, is_none, is_some, nat_lt, if◌then◌else◌, List, [], ◌∷◌, filter, reverse, slice_get, count_by, Option, Some, None}
use Rattle.std.specs.List.{find, flat_map}
use Rattle.std.specs.Option.{option_and_then, option_map}
use Rattle.std.specs.Str.{bytes_eq}
use Rattle.octet_io.specs.Number.{Octets}
use Rattle.att_numbers.specs.Types.{Handle}
use Rattle.att_attributes.specs.declared.attr.Attr.{Attr}
use Rattle.att_attributes.specs.declared.attr.Role.{Role}
use Rattle.att_attributes.specs.declared.attr.Role.TheVariants.{Declaration, Value, Configuration, Descriptor}
use Rattle.att_attributes.specs.Attributes.{attribute_at, attributes_in, is_value}
use Rattle.att_attributes.specs.Group.{group_end_at, is_service_type}
use Rattle.att_table.specs.Changer.{last_service}
use Rattle.att_table.specs.Table.{Contents}
use Rattle.policy_rights.specs.Held.{is_used}
use Rattle.policy_words.specs.Table.{told_value}
use Rattle.policy_words.specs.declared.compare.pairing.Pair.{Pair}

abbrev pub is_passing_before : (Attr → Bool) → Handle → Attr → Bool
is_passing_before test handle attr = test attr && nat_lt attr.handle handle

-- The nth attribute that passes a test corresponds to the nth that passes the test of the other
-- table, if the same number pass.
abbrev pub corresponding :
    (Attr → Bool) → List Attr → Handle → (Attr → Bool) → List Attr → Option Attr
corresponding test attributes handle other_test others =
    if count_by test attributes == count_by other_test others
    then slice_get (filter other_test others) (count_by (is_passing_before test handle) attributes)
    else None

-- The attributes of the service or the characteristic that is declared at a handle.
abbrev pub end_of_group : List Attr → Handle → Handle
end_of_group attributes handle =
    if is_some (attribute_at attributes handle) then group_end_at attributes handle else 0

abbrev pub group_at : List Attr → Handle → List Attr
group_at attributes handle = attributes_in attributes handle (end_of_group attributes handle)

-- A service has the type that is the value of its declaration (Core 5.0, Vol 3 Part G, 3.1). It
-- corresponds to the nth service of this type.
abbrev pub is_service_of : Contents → Octets → Attr → Bool
is_service_of table uuid attr =
    is_service_type attr.kind && bytes_eq (told_value table attr.handle) uuid

abbrev pub service_with : Contents → Octets → Handle → Contents → Option Attr
service_with table uuid handle other =
    corresponding (is_service_of table uuid) table.attributes handle (is_service_of other uuid)
    other.attributes

abbrev pub other_service : Contents → Contents → Attr → Option Attr
other_service table other service =
    service_with table (told_value table service.handle) service.handle other

-- Values are alike if they have the same type, and so are descriptors.
abbrev pub has_role : Role → Role → Bool
has_role Declaration role = false
has_role Configuration role = false
has_role Value role = is_value role
has_role Descriptor Declaration = false
has_role Descriptor Value = false
has_role Descriptor Configuration = false
has_role Descriptor Descriptor = true

abbrev pub is_alike : Attr → Attr → Bool
is_alike one other = has_role one.role other.role && (one.kind == other.kind)

abbrev pub other_alike : Attr → List Attr → List Attr → Option Attr
other_alike attr attributes others =
    corresponding (is_alike attr) attributes attr.handle (is_alike attr) others

-- The last service before a value contains it (Core 5.0, Vol 3 Part G, 2.5.3). The value
-- corresponds to the nth of its type in the service that corresponds.
abbrev pub service_before : List Attr → Handle → Option Attr
service_before attributes handle = last_service (attributes_in attributes 1 (handle - 1))

abbrev pub value_in_service : Contents → Contents → Attr → Attr → Attr → Option Attr
value_in_service table other value service there =
    other_alike value (group_at table.attributes service.handle)
    (group_at other.attributes there.handle)

abbrev pub value_of_service : Contents → Contents → Attr → Attr → Option Attr
value_of_service table other value service =
    option_and_then (value_in_service table other value service) (other_service table other service)

abbrev pub other_value : Contents → Contents → Attr → Option Attr
other_value table other value =
    option_and_then (value_of_service table other value)
    (service_before table.attributes value.handle)

-- The last value before a descriptor is that of its characteristic, which is declared one handle
-- before (Core 5.0, Vol 3 Part G, 3.3). The descriptor corresponds to the nth of its type in the
-- characteristic that corresponds.
abbrev pub value_before : List Attr → Handle → Option Attr
value_before attributes handle =
    find (λ (attr : Attr). is_value attr.role) (reverse (attributes_in attributes 1 (handle - 1)))

abbrev pub descriptor_in : Contents → Contents → Attr → Attr → Attr → Option Attr
descriptor_in table other descriptor value there =
    other_alike descriptor (group_at table.attributes (value.handle - 1))
    (group_at other.attributes (there.handle - 1))

abbrev pub descriptor_of_value : Contents → Contents → Attr → Attr → Option Attr
descriptor_of_value table other descriptor value =
    option_and_then (descriptor_in table other descriptor value) (other_value table other value)

abbrev pub other_descriptor : Contents → Contents → Attr → Option Attr
other_descriptor table other descriptor =
    option_and_then (descriptor_of_value table other descriptor)
    (value_before table.attributes descriptor.handle)

abbrev pub other_by : Role → Contents → Contents → Attr → Option Attr
other_by Declaration table other attr = None
other_by Configuration table other attr = None
other_by Value table other attr = other_value table other attr
other_by Descriptor table other attr = other_descriptor table other attr

-- The handle of the attribute to which one surely corresponds.
abbrev pub sure_handle : Contents → Contents → Attr → Option Handle
sure_handle table other attr =
    option_map (λ (there : Attr). there.handle) (other_by attr.role table other attr)

abbrev pub pair_if_used : Contents → Contents → Attr → List Pair
pair_if_used table other attr =
    if is_used attr.role then record { attr = attr; there = sure_handle table other attr } ∷ []
    else []

-- The values and descriptors of a table, in order of handles.
abbrev pub pairs_of : Contents → Contents → List Pair
pairs_of table other = flat_map (pair_if_used table other) table.attributes

-- The nth uncertain one of a type is taken for the nth uncertain one of this type.
abbrev pub is_loose : Pair → Pair → Bool
is_loose pair other = is_none other.there && (other.attr.kind == pair.attr.kind)

abbrev pub is_loose_before : Pair → Pair → Bool
is_loose_before pair other = is_loose pair other && nat_lt other.attr.handle pair.attr.handle

abbrev pub loose_handle : List Pair → Pair → List Pair → Option Handle
loose_handle pairs pair others =
    option_map (λ (other : Pair). other.attr.handle)
    (slice_get (filter (is_loose pair) others) (count_by (is_loose_before pair) pairs))

abbrev pub place_by : Option Handle → List Pair → Pair → List Pair → Option Handle
place_by (Some handle) pairs pair others = Some handle
place_by None pairs pair others = loose_handle pairs pair others

-- The handle that an attribute has in the other table.
abbrev pub other_handle : List Pair → List Pair → Pair → Option Handle
other_handle pairs others pair = place_by pair.there pairs pair others
