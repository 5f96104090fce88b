-- The attributes of a table file, or its first fault. The format is this profile's own, the result
-- that of Core 5.0, Vol 3 Part G, 3.
use Rattle.std.specs.Prelude.{◌+◌, Bool, false, not, ◌||◌, if◌then◌else◌, [], ◌∷◌, ◌++◌, Result, Ok, codes, is_some}
use Rattle.octet_io.specs.Number.{Octets, two_octets}
use Rattle.octet_io.specs.Text.{as_text}
use Rattle.toml.specs.Data.{Data, Members, as_integer, as_table}
use Rattle.toml.specs.Parse.{parse_document}
use Rattle.toml_schema.specs.Reading.{◌>>=◌, unless, require, each, flag_at, array_at, items_at, table_at}
use Rattle.toml_schema.specs.Shape.{is_shaped}
use Rattle.att_numbers.specs.AttributeType.{type_octets}
use Rattle.att_numbers.specs.Types.{Handle, AttributeType}
use Rattle.att_numbers.specs.declared.attribute_type.TheConstants.{PRIMARY_SERVICE, SECONDARY_SERVICE, INCLUDE, CHARACTERISTIC, CLIENT_CHARACTERISTIC_CONFIGURATION}
use Rattle.att_policy.specs.declared.guard.Need.{Need}
use Rattle.att_policy.specs.declared.guard.Properties.{Properties}
use Rattle.att_policy.specs.declared.guard.TheConstants.Properties.{READ, WRITE_WITHOUT_RESPONSE, WRITE, NOTIFY, INDICATE}
use Rattle.att_attributes.specs.declared.attr.Attr.{Attr}
use Rattle.att_attributes.specs.declared.attr.Role.TheVariants.{Value as ValueRole, Configuration, Descriptor}
use Rattle.att_table.specs.declared.table_fault.TableKey.TheVariants.{Service}
use Rattle.att_table.specs.declared.table_fault.TableFault.{TableFault}
use Rattle.att_table.specs.declared.table_fault.TableFault.TheVariants.{NotToml, Missing, BadProperty, BadInclude, Shape}
use Rattle.att_table.specs.file.Field.{all_properties, has_any}
use Rattle.att_table.specs.file.Fields.{attribute_type_in, placed_of}
use Rattle.att_table.specs.file.Keys.{table_file_keys, service_keys, characteristic_keys, descriptor_keys}
use Rattle.att_table.specs.file.Needs.{need_at, no_need}
use Rattle.att_table.specs.file.Placed.{next_handle, add, declare}
use Rattle.att_table.specs.file.Service.{earlier_service, include_value}
use Rattle.att_table.specs.Table.{Contents}

-- The properties that a descriptor or a client configuration may have.
abbrev pub read_and_write : Properties
read_and_write = all_properties (READ ∷ WRITE ∷ [])

abbrev pub descriptor_step : Contents → Data → Result Contents TableFault
descriptor_step table value = do
  members ← require (as_table value) Shape
  _ ← unless (is_shaped descriptor_keys members) Shape
  placed ← placed_of Descriptor (next_handle table) read_and_write members
  add table placed.0 placed.1

-- Only a value that notifies or indicates has a client configuration.
abbrev pub is_announced : Properties → Bool
is_announced properties = has_any properties (all_properties (NOTIFY ∷ INDICATE ∷ []))

abbrev pub config_at : Properties → Members → Result Need TableFault
config_at properties members = do
  need ← need_at (codes "config") members
  _ ← unless (is_announced properties || not (is_some (table_at (codes "config") members)))
      BadProperty
  Ok need

-- Each client has its own client configuration; the table stores none.
abbrev pub configuration : Handle → Need → Attr
configuration handle need = record {
  handle = handle;
  kind = CLIENT_CHARACTERISTIC_CONFIGURATION;
  largest = 0;
  fixed = false;
  role = Configuration;
  guard = record { properties = read_and_write; read = no_need; write = need };
}

abbrev pub configure : Contents → Properties → Need → Result Contents TableFault
configure table properties need =
    if is_announced properties then add table (configuration (next_handle table) need) []
    else Ok table

-- A characteristic: declaration, value, client configuration, descriptors (Core 5.0, Vol 3 Part G,
-- 3.3).
abbrev pub characteristic_value : Attr → Octets
characteristic_value attr =
    attr.guard.properties.0 ∷ two_octets attr.handle ++ type_octets attr.kind

abbrev pub characterize : Contents → Attr → Octets → Need → Result Contents TableFault
characterize table attr value need = do
  declared ← declare table CHARACTERISTIC (characteristic_value attr)
  valued ← add declared attr value
  configure valued attr.guard.properties need

abbrev pub any_property : Properties
any_property = all_properties (READ ∷ WRITE_WITHOUT_RESPONSE ∷ WRITE ∷ NOTIFY ∷ INDICATE ∷ [])

abbrev pub characteristic_step : Contents → Data → Result Contents TableFault
characteristic_step table value = do
  members ← require (as_table value) Shape
  _ ← unless (is_shaped characteristic_keys members) Shape
  placed ← placed_of ValueRole (next_handle table + 1) any_property members
  need ← config_at placed.0.guard.properties members
  characterized ← characterize table placed.0 placed.1 need
  each descriptor_step characterized (items_at (codes "descriptor") members)

-- An include of an earlier service (Core 5.0, Vol 3 Part G, 3.2).
abbrev pub include_step : Contents → Data → Result Contents TableFault
include_step table value = do
  position ← require (as_integer value) Shape
  service ← require (earlier_service table.attributes position) BadInclude
  declare table INCLUDE (include_value table.values service)

-- A service: declaration, includes, characteristics (Core 5.0, Vol 3 Part G, 3.1).
abbrev pub service_type_at : Members → AttributeType
service_type_at members = if flag_at (codes "secondary") members then SECONDARY_SERVICE
    else PRIMARY_SERVICE

abbrev pub service_step : Contents → Data → Result Contents TableFault
service_step table value = do
  members ← require (as_table value) Shape
  _ ← unless (is_shaped service_keys members) Shape
  kind ← attribute_type_in members
  declared ← declare table (service_type_at members) (type_octets kind)
  included ← each include_step declared (items_at (codes "include") members)
  each characteristic_step included (items_at (codes "characteristic") members)

-- The document has a table for each service.
abbrev pub no_attributes : Contents
no_attributes = record { attributes = []; values = [] }

abbrev pub table_of : Members → Result Contents TableFault
table_of members = do
  _ ← unless (is_shaped table_file_keys members) Shape
  services ← require (array_at (codes "service") members) (Missing Service)
  each service_step no_attributes services

abbrev pub table_read : Octets → Result Contents TableFault
table_read text = do
  members ← require (parse_document text) NotToml
  table_of members

-- The table of a file with these bytes.
unfoldable pub table_in : Octets → Result Contents TableFault
table_in bytes = as_text table_read NotToml bytes
