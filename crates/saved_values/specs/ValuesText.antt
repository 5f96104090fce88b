-- The text of a table's saved values (this profile's own).
use Rattle.std.specs.Prelude.{◌++◌, List, [], ◌∷◌, map, filter}
use Rattle.std.specs.List.{flat_map}
use Rattle.octet_io.specs.Number.{Octets}
use Rattle.att_attributes.specs.declared.attr.Attr.{Attr}
use Rattle.att_table.specs.Table.{Contents}
use Rattle.saved_values.specs.SavedValue.{Saved, value_line}
use Rattle.saved_values.specs.Saves.{is_saved, value_told}
use Rattle.saved_values.specs.declared.saves.Saves.{Saves}

abbrev pub line_of : Octets → Octets
line_of words = words ++ 10 ∷ []

abbrev pub value_of : Contents → Attr → Saved
value_of table attr =
    record { handle = attr.handle; kind = attr.kind; octets = value_told table attr.handle }

-- The saved values of some attributes, in their order.
abbrev pub saved_of : Saves → Contents → Contents → List Attr → List Saved
saved_of saves table initial attributes =
    map (value_of table) (filter (is_saved saves table initial) attributes)

-- The saved values of a table; `initial` is the table of the file.
abbrev pub saved_values : Saves → Contents → Contents → List Saved
saved_values saves table initial = saved_of saves table initial table.attributes

abbrev pub values_text : List Saved → Octets
values_text values = flat_map value_line values

abbrev pub saved_lines : Saves → Contents → Contents → List Attr → Octets
saved_lines saves table initial attributes = values_text (saved_of saves table initial attributes)
