-- Steps of reading a file: each returns a value or the first fault.
use Rattle.std.specs.Prelude.{ℤ, Bool, true, false, Option, Some, None, Result, Ok, Err}
use Rattle.std.specs.Option.{option_and_then}
use Rattle.octet_io.specs.Number.{Octets}
use Rattle.toml.specs.Data.{Data, Items, no_items, item, Members, get_member, as_str, as_bool, as_integer, as_array, as_table}

-- A step, then the next one if there was no fault.
infixl 10 ◌>>=◌
abbrev pub ◌>>=◌ : {A B E : Type 0} → Result A E → (A → Result B E) → Result B E
Ok x >>= next = next x
Err fault >>= next = Err fault

abbrev pub unless : {E : Type 0} → Bool → E → Result Bool E
unless true fault = Ok true
unless false fault = Err fault

abbrev pub require : {A E : Type 0} → Option A → E → Result A E
require None fault = Err fault
require (Some x) fault = Ok x

abbrev pub each : {S E : Type 0} → (S → Data → Result S E) → S → Items → Result S E
each step state no_items = Ok state
each step state (item value rest) = step state value >>= (λ next. each step next rest)

-- The value at a key, if it has this TOML type.
abbrev pub text_at : Octets → Members → Option Octets
text_at key members = option_and_then as_str (get_member key members)

abbrev pub boolean_at : Octets → Members → Option Bool
boolean_at key members = option_and_then as_bool (get_member key members)

abbrev pub integer_at : Octets → Members → Option ℤ
integer_at key members = option_and_then as_integer (get_member key members)

abbrev pub array_at : Octets → Members → Option Items
array_at key members = option_and_then as_array (get_member key members)

abbrev pub table_at : Octets → Members → Option Members
table_at key members = option_and_then as_table (get_member key members)

-- The boolean or the items at a key, else false or none.
abbrev pub is_true : Option Bool → Bool
is_true None = false
is_true (Some b) = b

abbrev pub flag_at : Octets → Members → Bool
flag_at key members = is_true (boolean_at key members)

abbrev pub or_no_items : Option Items → Items
or_no_items None = no_items
or_no_items (Some items) = items

abbrev pub items_at : Octets → Members → Items
items_at key members = or_no_items (array_at key members)
