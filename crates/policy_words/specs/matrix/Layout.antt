-- The widths of the cells of a row (this profile's own).
use Rattle.std.specs.Prelude.{◌≡◌, ℕ, ◌+◌, ◌-◌, ◌/◌, Bool, if◌then◌else◌, fold, length, max, min, nat_le, List}
use Rattle.att_numbers.specs.AttributeType.{type_octets}
use Rattle.att_attributes.specs.declared.attr.Attr.{Attr}
use Rattle.att_table.specs.Table.{Contents}
use Rattle.policy_rights.specs.Held.{is_used}
use Rattle.policy_words.specs.Table.{told_value}
use Rattle.policy_words.specs.TypeText.{type_text}
use Rattle.policy_words.specs.declared.columns.Column.{Column}
use Rattle.policy_words.specs.declared.matrix.layout.Layout.{Layout}
use Rattle.policy_words.specs.Cell.{cell_text}
use Rattle.policy_words.specs.matrix.Rows.{short_value_text}

-- The longest name of a value or a descriptor, not cut.
abbrev pub type_width : Attr → ℕ
type_width attr = if is_used attr.role then length (type_text (type_octets attr.kind)) else 0

abbrev pub widest_type : List Attr → ℕ
widest_type attributes = fold (λ widest attr. max widest (type_width attr)) 0 attributes

-- The longest text of a value; its heading has 8 octets.
abbrev pub value_width : Contents → Attr → ℕ
value_width table attr =
    if is_used attr.role then length (short_value_text (told_value table attr.handle)) else 0

abbrev pub widest_value : Contents → List Attr → ℕ
widest_value table attributes =
    fold (λ widest attr. max widest (value_width table attr)) 8 attributes

-- The longest cell of a row, after two spaces.
abbrev pub cell_width : List Attr → Attr → Column → ℕ
cell_width attributes attr column = length (cell_text attributes attr.handle column.key) + 2

abbrev pub widest_cell_of : List Attr → List Column → Attr → ℕ
widest_cell_of attributes columns attr =
    fold (λ widest column. max widest (cell_width attributes attr column)) 0 columns

abbrev pub row_width : List Attr → List Column → Attr → ℕ
row_width attributes columns attr =
    if is_used attr.role then widest_cell_of attributes columns attr else 0

abbrev pub widest_cell : List Attr → List Column → List Attr → ℕ
widest_cell attributes columns rows =
    fold (λ widest attr. max widest (row_width attributes columns attr)) 3 rows

-- The columns that a line has space for. The handle, the sizes and the spaces between cells have 16
-- octets.
abbrev pub columns_in : ℕ → ℕ → ℕ → ℕ → ℕ
columns_in width name value cell = (width - (16 + name + value)) / (max cell 1)

-- The names are whole if a line with them has space for all columns. Else they have 28 octets.
abbrev pub name_width : Bool → ℕ → ℕ
name_width is_whole widest = if is_whole then widest else min widest 28

pub record HasLeastWidths (layout : Layout) (table : Contents) (columns : List Column) (width : ℕ)
    : Type 0 where
  pub value : layout.value ≡ min (widest_value table table.attributes) 64
  pub cell : layout.cell ≡ min (widest_cell table.attributes columns table.attributes) 64
  pub is_whole : layout.is_whole ≡ nat_le (length columns)
      (columns_in width (min (widest_type table.attributes) 64) layout.value layout.cell)
  pub name : layout.name
      ≡ name_width layout.is_whole (min (widest_type table.attributes) 64)
