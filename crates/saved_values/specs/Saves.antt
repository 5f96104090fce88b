-- The values that a device saves (this profile's own).
use Rattle.std.specs.Prelude.{Bool, true, false, ◌&&◌, ◌||◌, not, [], unwrap_or}
use Rattle.std.specs.Option.{option_map_or}
use Rattle.std.specs.Str.{bytes_eq}
use Rattle.octet_io.specs.Number.{Octets}
use Rattle.att_numbers.specs.Types.{Handle}
use Rattle.att_policy.specs.Policy.{has_property, property_of}
use Rattle.att_policy.specs.declared.guard.Guard.{Guard}
use Rattle.att_policy.specs.declared.policy.Access.TheVariants.{Write, Command}
use Rattle.att_attributes.specs.declared.attr.Attr.{Attr}
use Rattle.att_attributes.specs.declared.attr.Role.{Role}
use Rattle.att_attributes.specs.declared.attr.Role.TheVariants.{Declaration, Value, Configuration, Descriptor}
use Rattle.att_table.specs.Find.{value_where}
use Rattle.att_table.specs.Table.{Contents}
use Rattle.saved_values.specs.declared.saves.Saves.{Saves}
use Rattle.saved_values.specs.declared.saves.Saves.TheVariants as saves

-- A client characteristic configuration is not saved, because each client has its own.
abbrev pub is_value_or_descriptor : Role → Bool
is_value_or_descriptor Declaration = false
is_value_or_descriptor Value = true
is_value_or_descriptor Configuration = false
is_value_or_descriptor Descriptor = true

-- A client may write the value by a Write Request, a prepared write or a Write Command.
abbrev pub is_writable : Guard → Bool
is_writable guard =
    has_property guard.properties (property_of Write)
    || has_property guard.properties (property_of Command)

-- The value is saved if it has changed.
abbrev pub may_be_saved : Saves → Attr → Bool
may_be_saved saves.Writable attr = is_value_or_descriptor attr.role && is_writable attr.guard
may_be_saved saves.All attr = is_value_or_descriptor attr.role

-- The value at a handle is empty without an attribute.
abbrev pub value_told : Contents → Handle → Octets
value_told table handle = unwrap_or (value_where table handle) []

-- The value differs from that of the table file.
abbrev pub is_changed : Contents → Contents → Handle → Bool
is_changed table initial handle =
    option_map_or (λ value. not (bytes_eq value (value_told table handle)))
    (value_where initial handle) true

abbrev pub is_saved : Saves → Contents → Contents → Attr → Bool
is_saved choice table initial attr =
    may_be_saved choice attr && is_changed table initial attr.handle
