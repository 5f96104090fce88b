-- Saved values that are restored into a table (this profile's own).
use Rattle.std.specs.Prelude.{ℕ, ◌+◌, Bool, true, false, ◌==◌, ◌&&◌, nat_le, if◌then◌else◌, length, List, [], ◌∷◌, Result, Ok}
use Rattle.std.specs.Option.{option_map_or}
use Rattle.octet_io.specs.Number.{Octets}
use Rattle.toml_schema.specs.Reading.{◌>>=◌, require}
use Rattle.att_numbers.specs.Types.{Handle, AttributeType}
use Rattle.att_attributes.specs.declared.attr.Attr.{Attr}
use Rattle.att_attributes.specs.Attributes.{attribute_at}
use Rattle.att_table.specs.Table.{Contents, room_at, with_value}
use Rattle.saved_values.specs.SavedValue.{Saved, value_of_line}
use Rattle.saved_values.specs.Saves.{is_value_or_descriptor}
use Rattle.text_words.specs.Split.{lines_of}
use Rattle.saved_values.specs.declared.restoring.BadLine.{BadLine}

-- A fixed value has exactly the largest number of octets.
abbrev pub length_fits : Bool → ℕ → ℕ → Bool
length_fits fixed room count = if fixed then count == room else nat_le count room

-- The attribute is a value or a descriptor of this type, and may have this number of octets.
abbrev pub fits : Contents → Handle → AttributeType → ℕ → Bool
fits table handle kind count =
    option_map_or
    (λ (attr : Attr). (attr.kind == kind)
    && (is_value_or_descriptor attr.role && length_fits attr.fixed (room_at table handle) count))
    (attribute_at table.attributes handle) false

abbrev pub value_fits : Contents → Saved → Bool
value_fits table value = fits table value.handle value.kind (length value.octets)

-- A value that does not fit changes nothing.
abbrev pub with_restored : Contents → Saved → Contents
with_restored table value =
    if value_fits table value
    then record table { values = with_value table.values value.handle value.octets } else table

-- The table after a line, and whether its value fits; an empty line has no value.
abbrev pub line_restored : ℕ → Contents → Octets → Result (Contents × Bool) BadLine
line_restored number table [] = Ok (table, true)
line_restored number table (octet ∷ octets) = do
  value ← require (value_of_line (octet ∷ octets)) (record { 0 = number })
  Ok (with_restored table value, value_fits table value)

-- The table after lines, and the number of values that do not fit.
abbrev pub lines_restored : ℕ → Contents → ℕ → List Octets → Result (Contents × ℕ) BadLine
lines_restored number table left_out [] = Ok (table, left_out)
lines_restored number table left_out (line ∷ lines) =
    line_restored number table line
    >>= (λ next. lines_restored (number + 1) next.0 (if next.1 then left_out else left_out + 1)
    lines)

unfoldable pub values_restored : Octets → Contents → Result (Contents × ℕ) BadLine
values_restored text table = lines_restored 1 table 0 (lines_of text)
