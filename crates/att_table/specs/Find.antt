-- The search for a value by service and characteristic type (Core 5.0, Vol 3 Part G, 4.4.2 and
-- 4.6.2). Secondary services, and one count over services of one type, are this profile's own.
use Rattle.std.specs.Prelude.{ℕ, ◌-◌, Bool, false, ◌==◌, ◌&&◌, if◌then◌else◌, List, filter, slice_get, take, Option, None}
use Rattle.std.specs.Option.{option_map, option_map_or}
use Rattle.std.specs.Str.{bytes_eq}
use Rattle.octet_io.specs.Number.{Octets}
use Rattle.att_numbers.specs.AttributeType.{type_octets}
use Rattle.att_numbers.specs.Types.{Handle, AttributeType}
use Rattle.att_attributes.specs.declared.attr.Attr.{Attr}
use Rattle.att_attributes.specs.Attributes.{attribute_at, is_value}
use Rattle.att_attributes.specs.Group.{is_service_type}
use Rattle.att_table.specs.Changer.{last_service}
use Rattle.att_table.specs.Table.{Contents, value_at}

-- An attribute declares a service of a type, which is its value (Core 5.0, Vol 3 Part G, 3.1).
abbrev pub declares_service : Contents → AttributeType → Attr → Bool
declares_service table service attr =
    is_service_type attr.kind && bytes_eq (value_at table.values attr.handle) (type_octets service)

-- The last service before an attribute contains it (Core 5.0, Vol 3 Part G, 2.5.3).
abbrev pub is_in_service : Contents → AttributeType → List Attr → Bool
is_in_service table service before =
    option_map_or (declares_service table service) (last_service before) false

-- A value has the type of its characteristic (Core 5.0, Vol 3 Part G, 3.3.2).
abbrev pub is_value_of_type : AttributeType → Attr → Bool
is_value_of_type characteristic attr = is_value attr.role && (attr.kind == characteristic)

abbrev pub is_wanted : Contents → AttributeType → AttributeType → Attr → Bool
is_wanted table service characteristic attr =
    is_value_of_type characteristic attr
    && is_in_service table service (take (attr.handle - 1) table.attributes)

-- The values of a characteristic type in services of a type, in handle order.
abbrev pub values_wanted : Contents → AttributeType → AttributeType → List Attr
values_wanted table service characteristic =
    filter (is_wanted table service characteristic) table.attributes

-- The handle of an attribute by number, from 1.
abbrev pub handle_numbered : ℕ → List Attr → Option Handle
handle_numbered number attributes =
    if number == 0 then None
    else option_map (λ (attr : Attr). attr.handle) (slice_get attributes (number - 1))

abbrev pub value_found : Contents → AttributeType → AttributeType → ℕ → Option Handle
value_found table service characteristic number =
    handle_numbered number (values_wanted table service characteristic)

abbrev pub value_where : Contents → Handle → Option Octets
value_where table handle =
    option_map (λ (attr : Attr). value_at table.values handle)
    (attribute_at table.attributes handle)
