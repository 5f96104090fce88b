-- The saved values of a table come back from their text (this profile's own).
use Rattle.std.specs.Prelude.{◌≡◌, false, if◌then◌else◌, map, Ok}
use Rattle.std.specs.List.{All}
use Rattle.octet_io.specs.Number.{Octets}
use Rattle.att_attributes.specs.declared.attr.Attr.{Attr}
use Rattle.att_table.specs.Facts.{IsTable}
use Rattle.att_table.specs.Table.{Contents, value_at}
use Rattle.saved_values.specs.Restore.{values_restored}
use Rattle.saved_values.specs.Saves.{may_be_saved}
use Rattle.saved_values.specs.declared.saves.Saves.{Saves}

-- A value that may be saved is that of the table, and every other one that of the table file.
abbrev pub value_after : Saves → Contents → Contents → Attr → Octets
value_after saves table initial attr =
    if may_be_saved saves attr then value_at table.values attr.handle
    else value_at initial.values attr.handle

abbrev pub table_after : Saves → Contents → Contents → Contents
table_after saves table initial =
    record initial { values = map (value_after saves table initial) initial.attributes }

-- The text restores these values into the table of the file with the same attributes, and leaves
-- none out.
abbrev pub RestoresWhatWasSaved : Saves → Contents → Contents → Octets → Type 0
RestoresWhatWasSaved saves table initial text =
    IsTable initial → table.attributes ≡ initial.attributes
    → values_restored text initial ≡ Ok (table_after saves table initial, 0)

-- The tables have the same attributes, and differ only in values that may be saved.
pub record DiffersInSaved (saves : Saves) (table initial : Contents) : Type 0 where
  pub attributes : table.attributes ≡ initial.attributes
  pub others : All (λ (attr : Attr). may_be_saved saves attr ≡ false
      → value_at table.values attr.handle ≡ value_at initial.values attr.handle) initial.attributes

-- Then the text restores the table itself.
abbrev pub RestoresTheTable : Saves → Contents → Contents → Octets → Type 0
RestoresTheTable saves table initial text =
    IsTable initial → DiffersInSaved saves table initial
    → values_restored text initial ≡ Ok (table, 0)
