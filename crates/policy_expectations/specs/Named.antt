-- The attributes that an expectation names (this profile's own).
use Rattle.std.specs.Prelude.{ℕ, ◌-◌, ◌==◌, ◌&&◌, Bool, true, false, is_some, if◌then◌else◌, List, [], ◌∷◌, take, drop, Option, Some, None}
use Rattle.std.specs.List.{flat_map}
use Rattle.std.specs.Option.{option_map_or}
use Rattle.std.specs.Str.{bytes_eq}
use Rattle.att_numbers.specs.AttributeType.{type_octets}
use Rattle.att_numbers.specs.Types.{AttributeType, Handle}
use Rattle.att_attributes.specs.declared.attr.Attr.{Attr}
use Rattle.att_attributes.specs.declared.attr.Role.{Role}
use Rattle.att_attributes.specs.declared.attr.Role.TheVariants.{Declaration, Value, Configuration, Descriptor}
use Rattle.att_attributes.specs.Attributes.{attribute_at, attributes_in, is_value}
use Rattle.att_attributes.specs.Group.{group_end_at}
use Rattle.att_table.specs.Changer.{last_service}
use Rattle.att_table.specs.Table.{Contents}
use Rattle.policy_words.specs.Table.{told_value}
use Rattle.policy_expectations.specs.declared.expectation.Expectation.{Expectation}

abbrev pub attribute_if : Bool → Attr → List Attr
attribute_if true attr = attr ∷ []
attribute_if false attr = []

-- The last service before an attribute contains it (Core 5.0, Vol 3 Part G, 2.5.3). Its type is the
-- value of its declaration (3.1).
abbrev pub is_in_service_of_type : Contents → AttributeType → Handle → Bool
is_in_service_of_type table service handle =
    option_map_or
    (λ (attr : Attr). bytes_eq (told_value table attr.handle) (type_octets service))
    (last_service (attributes_in table.attributes 1 (handle - 1))) false

abbrev pub is_in_named_service : Contents → Option AttributeType → Handle → Bool
is_in_named_service table None handle = true
is_in_named_service table (Some service) handle = is_in_service_of_type table service handle

-- A value has the type of its characteristic (Core 5.0, Vol 3 Part G, 3.3.2).
abbrev pub is_fitting : Contents → Expectation → Attr → Bool
is_fitting table expected attr =
    is_value attr.role && ((attr.kind == expected.characteristic)
    && is_in_named_service table expected.service attr.handle)

abbrev pub fitting_value : Contents → Expectation → Attr → List Attr
fitting_value table expected attr = attribute_if (is_fitting table expected attr) attr

-- The values of characteristics that fit, in order of handles.
abbrev pub fitting_values : Contents → Expectation → List Attr
fitting_values table expected = flat_map (fitting_value table expected) table.attributes

-- The one with a number, from 1; without a number all.
abbrev pub numbered : Option ℕ → List Attr → List Attr
numbered None values = values
numbered (Some number) values = drop (number - 1) (take number values)

-- The descriptors of a type in the characteristic of a value, which ends before the next one (Core
-- 5.0, Vol 3 Part G, 3.3).
abbrev pub is_descriptor : Role → Bool
is_descriptor Declaration = false
is_descriptor Value = false
is_descriptor Configuration = false
is_descriptor Descriptor = true

abbrev pub of_type : AttributeType → Attr → List Attr
of_type kind attr = attribute_if (is_descriptor attr.role && (attr.kind == kind)) attr

abbrev pub end_of_characteristic : List Attr → Handle → Handle
end_of_characteristic attributes handle =
    if is_some (attribute_at attributes (handle - 1)) then group_end_at attributes (handle - 1)
    else 0

abbrev pub descriptors_of : Contents → AttributeType → Attr → List Attr
descriptors_of table kind value =
    flat_map (of_type kind)
    (attributes_in table.attributes value.handle
    (end_of_characteristic table.attributes value.handle))

-- The values themselves, or their descriptors of a type.
abbrev pub named_among : Contents → Option AttributeType → List Attr → List Attr
named_among table None values = values
named_among table (Some kind) values = flat_map (descriptors_of table kind) values

abbrev pub attributes_named_by : Contents → Expectation → List Attr
attributes_named_by table expected =
    named_among table expected.descriptor
    (numbered expected.number (fitting_values table expected))
