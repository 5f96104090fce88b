-- The limits of a table (this profile's own).
use Rattle.std.specs.Prelude.{ℕ, Bool, ◌&&◌, nat_le, List, length}
use Rattle.att_attributes.specs.declared.attr.Attr.{Attr}
use Rattle.att_attributes.specs.Attributes.{configurations_of}
use Rattle.att_table.specs.Table.{value_octets}
use Rattle.att_numbers.specs.declared.limit.TheConstants.{MAX_ATTRIBUTES, MAX_CONFIGURATIONS, MAX_VALUES_OCTETS}

abbrev pub is_within : ℕ → ℕ → ℕ → Bool
is_within attributes configurations octets =
    nat_le attributes MAX_ATTRIBUTES && nat_le configurations MAX_CONFIGURATIONS
    && nat_le octets MAX_VALUES_OCTETS

abbrev pub is_within_limits : List Attr → Bool
is_within_limits attributes =
    is_within (length attributes) (configurations_of attributes) (value_octets attributes)
