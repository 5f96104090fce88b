-- The length of a value after earlier entries.
use Rattle.std.specs.Prelude.{ℕ, ◌+◌, ◌==◌, if◌then◌else◌, List, [], ◌∷◌, length}
use Rattle.att_numbers.specs.Types.{Handle, Values}
use Rattle.att_attributes.specs.declared.attr.Attr.{Attr}
use Rattle.att_attributes.specs.Attributes.{is_fixed_at}
use Rattle.att_table.specs.Table.{value_at}
use Rattle.att_writes.specs.declared.queue.Place.{Place}

-- A variable value ends with the last part written to it.
abbrev pub size_with : Handle → ℕ → List Place → ℕ
size_with handle size [] = size
size_with handle size (place ∷ places) =
    size_with handle (if place.handle == handle then place.offset + place.len else size) places

-- A fixed value keeps its length.
abbrev pub size_after : List Attr → Values → Handle → List Place → ℕ
size_after attributes values handle places =
    if is_fixed_at attributes handle then length (value_at values handle)
    else size_with handle (length (value_at values handle)) places
