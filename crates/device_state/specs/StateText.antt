-- The text of a state (this profile's own).
use Rattle.std.specs.Prelude.{ℕ, ◌==◌, ◌++◌, if◌then◌else◌, List, [], ◌∷◌, codes, Option, Some, None}
use Rattle.std.specs.List.{flat_map}
use Rattle.hex.specs.Hex.{encode_lower}
use Rattle.sha2.specs.Sha256.{sha256}
use Rattle.octet_io.specs.Number.{Octets}
use Rattle.gatt_subs.specs.Rows.{Subscriptions}
use Rattle.gatt_subs.specs.RowsText.{rows_text}
use Rattle.saved_values.specs.SavedValue.{Saved}
use Rattle.saved_values.specs.ValuesText.{line_of, values_text}
use Rattle.text_words.specs.Split.{lines_of}

-- The first line, and the headings of the sections.
abbrev pub first_line : Octets
first_line = codes "gihandop state 1"

abbrev pub table_heading : Octets
table_heading = codes "[table]"

abbrev pub subscriptions_heading : Octets
subscriptions_heading = codes "[subscriptions]"

abbrev pub values_heading : Octets
values_heading = codes "[values]"

-- A bar begins the line of a piece of the table text.
abbrev pub bar : ℕ
bar = 124

unfoldable pub piece_line : Octets → Octets
piece_line piece = bar ∷ piece ++ 10 ∷ []

abbrev pub piece_of : Octets → Option Octets
piece_of [] = None
piece_of (octet ∷ piece) = if octet == bar then Some piece else None

abbrev pub table_lines : Octets → Octets
table_lines text = flat_map piece_line (lines_of text)

-- All lines except the last one: the sections after their headings.
unfoldable pub lines_of_state : Octets → Subscriptions → List Saved → Octets
lines_of_state table_text rows values =
    line_of first_line ++ line_of table_heading ++ table_lines table_text
    ++ line_of subscriptions_heading ++ rows_text rows
    ++ line_of values_heading ++ values_text values

-- The last line has the SHA-256 of all octets before it.
abbrev pub checksum : Octets → Octets
checksum text = encode_lower (sha256 text)

unfoldable pub end_line : Octets → Octets
end_line text = codes "[end] " ++ checksum text ++ 10 ∷ []

abbrev pub ended : Octets → Octets
ended text = text ++ end_line text

abbrev pub state_text : Octets → Subscriptions → List Saved → Octets
state_text table_text rows values = ended (lines_of_state table_text rows values)
