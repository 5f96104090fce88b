-- The keys that a table may have, and the TOML type of each.
use Rattle.std.specs.Prelude.{Bool, true, false, ◌&&◌, if◌then◌else◌, List, [], ◌∷◌, map, Option, Some, None, is_some}
use Rattle.octet_io.specs.Number.{Octets}
use Rattle.toml.specs.Data.{Data, Items, no_items, item, Members, no_members, member, same_key, as_str, as_bool, as_integer, as_array, as_table}
use Rattle.toml_schema.specs.declared.shape.Key.{Key}
use Rattle.toml_schema.specs.declared.shape.Shape.{Shape}
use Rattle.toml_schema.specs.declared.shape.Shape.TheVariants.{Text, Boolean, Integer, Table, Texts, Integers, Tables}

abbrev pub Keys : Type 0
Keys = List (Octets × Shape)

abbrev pub keys_view : List Key → Keys
keys_view keys = map (λ key. (key.name.now, key.shape)) keys

-- The value has this TOML type.
abbrev pub is_text : Data → Bool
is_text value = is_some (as_str value)

abbrev pub is_boolean : Data → Bool
is_boolean value = is_some (as_bool value)

abbrev pub is_integer : Data → Bool
is_integer value = is_some (as_integer value)

abbrev pub is_table : Data → Bool
is_table value = is_some (as_table value)

-- All elements of the array have the type.
abbrev pub all_items : (Data → Bool) → Items → Bool
all_items test no_items = true
all_items test (item value rest) = test value && all_items test rest

abbrev pub all_of : (Data → Bool) → Option Items → Bool
all_of test None = false
all_of test (Some items) = all_items test items

abbrev pub has_shape : Shape → Data → Bool
has_shape Text value = is_text value
has_shape Boolean value = is_boolean value
has_shape Integer value = is_integer value
has_shape Table value = is_table value
has_shape Texts value = all_of is_text (as_array value)
has_shape Integers value = all_of is_integer (as_array value)
has_shape Tables value = all_of is_table (as_array value)

-- The key is listed, and the value has its type.
abbrev pub is_listed_by : Keys → Octets → Data → Bool
is_listed_by [] key value = false
is_listed_by (listed ∷ keys) key value =
    if same_key listed.0 key then has_shape listed.1 value else is_listed_by keys key value

-- The table has only listed keys, with values of their types.
abbrev pub is_shaped : Keys → Members → Bool
is_shaped keys no_members = true
is_shaped keys (member key value rest) = is_listed_by keys key value && is_shaped keys rest
