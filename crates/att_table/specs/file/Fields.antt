-- The common fields of characteristics and other descriptors: a value and its access rules.
use Rattle.std.specs.Prelude.{[], length, Result, Ok, codes}
use Rattle.octet_io.specs.Number.{Octets}
use Rattle.toml.specs.Data.{Data, Members, as_str}
use Rattle.toml_schema.specs.Reading.{◌>>=◌, unless, require, each, text_at, integer_at, flag_at, array_at}
use Rattle.att_numbers.specs.Types.{Handle, AttributeType}
use Rattle.att_policy.specs.declared.guard.Properties.{Properties}
use Rattle.att_attributes.specs.declared.attr.Attr.{Attr}
use Rattle.att_attributes.specs.declared.attr.Role.{Role}
use Rattle.att_table.specs.declared.table_fault.TableKey.TheVariants.{Uuid, Properties as PropertiesName, Value}
use Rattle.att_table.specs.declared.table_fault.TableFault.{TableFault}
use Rattle.att_table.specs.declared.table_fault.TableFault.TheVariants.{Missing, BadUuid, BadProperty, Shape}
use Rattle.att_table.specs.file.Field.{value_of, largest_of, property_named, both_of, all_properties, has_all}
use Rattle.att_table.specs.file.Needs.{need_at}
use Rattle.att_table.specs.file.TypeText.{type_named, is_type_of_value}

-- The type at `uuid`; a value's type is none of `types_of_no_value`.
abbrev pub attribute_type_in : Members → Result AttributeType TableFault
attribute_type_in members = do
  text ← require (text_at (codes "uuid") members) (Missing Uuid)
  require (type_named text) BadUuid

abbrev pub value_type_at : Members → Result AttributeType TableFault
value_type_at members = do
  kind ← attribute_type_in members
  _ ← unless (is_type_of_value kind) BadUuid
  Ok kind

-- Each word must name an allowed property.
abbrev pub no_properties : Properties
no_properties = all_properties []

abbrev pub property_step : Properties → Properties → Data → Result Properties TableFault
property_step allowed properties value = do
  word ← require (as_str value) Shape
  property ← require (property_named word) BadProperty
  _ ← unless (has_all allowed property) BadProperty
  Ok (both_of properties property)

abbrev pub properties_at : Properties → Members → Result Properties TableFault
properties_at allowed members = do
  words ← require (array_at (codes "properties") members) (Missing PropertiesName)
  each (property_step allowed) no_properties words

abbrev pub value_read_at : Members → Result Octets TableFault
value_read_at members = do
  text ← require (text_at (codes "value") members) (Missing Value)
  value_of text

abbrev pub placed_of : Role → Handle → Properties → Members → Result (Attr × Octets) TableFault
placed_of role handle allowed members = do
  kind ← value_type_at members
  properties ← properties_at allowed members
  value ← value_read_at members
  largest ← largest_of (integer_at (codes "max") members) (flag_at (codes "fixed") members)
      (length value)
  read ← need_at (codes "read") members
  write ← need_at (codes "write") members
  Ok (
    record {
      handle = handle;
      kind = kind;
      largest = largest;
      fixed = flag_at (codes "fixed") members;
      role = role;
      guard = record { properties = properties; read = read; write = write };
    },
    value,
  )
