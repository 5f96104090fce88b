-- The Service Changed value of a table (Core 5.0, Vol 3 Part G, 7.1). It must be indicated, fixed
-- and the first (this profile's own).
use Rattle.std.specs.Prelude.{◌≡◌, true, ◌-◌, Bool, false, ◌==◌, ◌&&◌, List, reverse, take, Option}
use Rattle.std.specs.List.{find}
use Rattle.std.specs.Option.{option_map, option_map_or}
use Rattle.std.specs.Str.{bytes_eq}
use Rattle.octet_io.specs.Number.{two_octets}
use Rattle.att_numbers.specs.Types.{Handle}
use Rattle.att_numbers.specs.declared.attribute_type.TheConstants.{GENERIC_ATTRIBUTE_SERVICE, PRIMARY_SERVICE, SERVICE_CHANGED}
use Rattle.att_policy.specs.declared.guard.TheConstants.Properties.{INDICATE}
use Rattle.att_policy.specs.Policy.{has_property}
use Rattle.att_attributes.specs.declared.attr.Attr.{Attr}
use Rattle.att_attributes.specs.Attributes.{is_fixed_at, is_value, is_value_at}
use Rattle.att_attributes.specs.Group.{is_service_type}
use Rattle.att_table.specs.declared.changer.TheConstants.{CHANGER_LEN}
use Rattle.att_table.specs.Table.{Contents, room_at, value_at}

-- The last attribute that begins a service.
abbrev pub last_service : List Attr → Option Attr
last_service attributes = find (λ (attr : Attr). is_service_type attr.kind) (reverse attributes)

-- An attribute declares the Generic Attribute Profile as a primary service.
abbrev pub declares_generic_attribute : Contents → Attr → Bool
declares_generic_attribute table attr =
    (attr.kind == PRIMARY_SERVICE)
    && bytes_eq (value_at table.values attr.handle) (two_octets GENERIC_ATTRIBUTE_SERVICE)

-- A changer: an indicated, fixed Service Changed value of two handles in that service. (P-SUB-9)
abbrev pub is_changer : Contents → Attr → Bool
is_changer table attr =
    is_value attr.role && (attr.kind == SERVICE_CHANGED)
    && has_property attr.guard.properties INDICATE
    && attr.fixed && (attr.largest == CHANGER_LEN)
    && option_map_or (declares_generic_attribute table)
    (last_service (take (attr.handle - 1) table.attributes)) false

abbrev pub changer_of : Contents → Option Handle
changer_of table =
    option_map (λ (attr : Attr). attr.handle) (find (is_changer table) table.attributes)

-- The handle is that of a fixed value of four octets.
pub record IsOfAChanger (table : Contents) (handle : Handle) : Type 0 where
  pub value : is_value_at table.attributes handle ≡ true
  pub fixed : is_fixed_at table.attributes handle ≡ true
  pub room : room_at table handle ≡ CHANGER_LEN
