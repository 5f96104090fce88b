-- The rows of the matrix, in blocks of columns (this profile's own).
use Rattle.std.specs.Prelude.{◌≡◌, ℕ, ◌-◌, ◌==◌, ◌&&◌, Bool, not, if◌then◌else◌, nat_lt, nat_le, List, [], ◌∷◌, ◌++◌, drop, length, take, codes}
use Rattle.std.specs.Fmt.{decimal}
use Rattle.std.specs.List.{flat_map, list_all}
use Rattle.hex.specs.Hex.{encode_lower}
use Rattle.octet_io.specs.Number.{Octets}
use Rattle.att_numbers.specs.AttributeType.{type_octets}
use Rattle.att_numbers.specs.Types.{AttributeType, Handle}
use Rattle.att_numbers.specs.declared.attribute_type.TheConstants.{SECONDARY_SERVICE}
use Rattle.att_attributes.specs.declared.attr.Attr.{Attr}
use Rattle.att_attributes.specs.declared.attr.Role.{Role}
use Rattle.att_attributes.specs.declared.attr.Role.TheVariants.{Declaration, Value, Configuration, Descriptor}
use Rattle.att_attributes.specs.Group.{is_service_type}
use Rattle.att_table.specs.Table.{Contents}
use Rattle.text_words.specs.Cells.{left, right}
use Rattle.policy_words.specs.Table.{length_text, told_value}
use Rattle.policy_words.specs.TypeText.{type_text}
use Rattle.policy_words.specs.declared.columns.Column.{Column}
use Rattle.policy_words.specs.declared.matrix.layout.Layout.{Layout}
use Rattle.policy_words.specs.Cell.{cell_text}

-- A name of more than 28 octets is cut.
abbrev pub cut_text : Octets → Octets
cut_text name = if nat_lt 28 (length name) then take 26 name ++ codes ".." else name

-- A UUID of 128 bits is cut in its middle.
abbrev pub middle_cut_text : Octets → Octets
middle_cut_text name =
    if nat_lt 28 (length name) then take 13 name ++ codes ".." ++ drop (length name - 13) name
    else name

abbrev pub short_name : Bool → Octets → Octets
short_name is_long name = if is_long then middle_cut_text name else cut_text name

-- A name is not cut if there is space for it.
abbrev pub cut_type_text : Bool → AttributeType → Octets
cut_type_text is_whole kind =
    if is_whole then type_text (type_octets kind)
    else short_name (length (type_octets kind) == 16) (type_text (type_octets kind))

-- A letter, a digit or a sign, but no quotation mark and no backslash.
abbrev pub is_plain : ℕ → Bool
is_plain octet =
    nat_le 32 octet && (nat_lt octet 127 && (not (octet == 34) && not (octet == 92)))

abbrev pub is_plain_text : Octets → Bool
is_plain_text value = nat_lt 2 (length value) && list_all is_plain value

-- A value as a text or in hexadecimal, in at most 12 octets.
abbrev pub quoted_text : Octets → Octets
quoted_text value =
    if nat_lt 10 (length value) then 34 ∷ take 8 value ++ codes "\".." else 34 ∷ value ++ 34 ∷ []

abbrev pub hex_text : Octets → Octets
hex_text value =
    if nat_lt 6 (length value) then encode_lower (take 5 value) ++ codes ".."
    else encode_lower value

abbrev pub short_value_text : Octets → Octets
short_value_text [] = codes "empty"
short_value_text (octet ∷ octets) =
    if is_plain_text (octet ∷ octets) then quoted_text (octet ∷ octets)
    else hex_text (octet ∷ octets)

-- The cells of an attribute, one a column.
abbrev pub cells_text : Layout → List Attr → List Column → Handle → Octets
cells_text layout attributes columns handle =
    flat_map
    (λ (column : Column). right layout.cell (cell_text attributes handle column.key)) columns

-- The handle and the name of an attribute, and its sizes and its value.
unfoldable pub name_cells : Layout → Attr → Octets
name_cells layout attr =
    right 5 (decimal attr.handle) ++ codes "  "
    ++ left layout.name (cut_type_text layout.is_whole attr.kind)
    ++ codes "  "

unfoldable pub value_cells : Layout → Contents → Attr → Octets
value_cells layout table attr =
    left 5 (length_text attr.role attr) ++ codes "  "
    ++ left layout.value (short_value_text (told_value table attr.handle))

unfoldable pub row_text : Layout → Contents → List Column → Attr → Octets
row_text layout table columns attr =
    name_cells layout attr ++ value_cells layout table attr
    ++ cells_text layout table.attributes columns attr.handle ++ 10 ∷ []

-- A service is a heading.
abbrev pub secondary_text : AttributeType → Octets
secondary_text kind = if kind == SECONDARY_SERVICE then codes " (secondary)" else []

abbrev pub heading_text : Contents → Attr → Octets
heading_text table attr =
    if is_service_type attr.kind
    then type_text (told_value table attr.handle) ++ secondary_text attr.kind ++ 10 ∷ []
    else []

-- Values and descriptors are rows.
abbrev pub line_by : Role → Layout → Contents → List Column → Attr → Octets
line_by Declaration layout table columns attr = heading_text table attr
line_by Value layout table columns attr = row_text layout table columns attr
line_by Configuration layout table columns attr = []
line_by Descriptor layout table columns attr = row_text layout table columns attr

abbrev pub matrix_line : Layout → Contents → List Column → Attr → Octets
matrix_line layout table columns attr = line_by attr.role layout table columns attr

-- The names of the columns are above them.
abbrev pub names_text : Layout → List Column → Octets
names_text layout columns =
    flat_map (λ (column : Column). right layout.cell (column.name ∷ [])) columns

unfoldable pub header_text : Layout → List Column → Octets
header_text layout columns =
    left 7 [] ++ left layout.name [] ++ codes "  " ++ left 5 (codes "size") ++ codes "  "
    ++ left layout.value (codes "at first")
    ++ names_text layout columns ++ 10 ∷ []

abbrev pub block_text : Layout → Contents → List Column → Octets
block_text layout table columns =
    header_text layout columns ++ flat_map (matrix_line layout table columns) table.attributes
    ++ 10 ∷ []

-- The columns are in one block or in several, each with all rows.
abbrev pub all_columns : List (List Column) → List Column
all_columns parts = flat_map (λ columns. columns) parts

pub record AddsBlocks (layout : Layout) (table : Contents) (columns : List Column)
    (old new : Octets) : Type 0 where
  pub parts : List (List Column)
  pub all : all_columns parts ≡ columns
  pub told : new ≡ old ++ flat_map (block_text layout table) parts
