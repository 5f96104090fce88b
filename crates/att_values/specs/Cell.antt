-- The cells of a store, by handles from 1 without gaps.
use Rattle.std.specs.Prelude.{ℕ, ◌+◌, ◌-◌, ◌<◌, ◌≤◌, Bool, if◌then◌else◌, List, [], ◌++◌, length, take, drop, slice_index_or, slice_set}
use Rattle.octet_io.specs.Number.{Octets}
use Rattle.att_numbers.specs.Types.{Handle}

-- The largest length of a value and its octets.
pub record Cell : Type 0 where
  pub room : ℕ
  pub octets : Octets

abbrev pub no_cell : Cell
no_cell = record { room = 0; octets = [] }

-- A handle has a value.
abbrev pub IsUsed : List Cell → Handle → Type 0
IsUsed cells handle = (0 < handle) × (handle ≤ length cells)

abbrev pub cell_at : List Cell → Handle → Cell
cell_at cells handle = slice_index_or cells (handle - 1) no_cell

-- A value after a part is written at an offset; `keep` keeps the octets after the part. (P-WRITE-2)
abbrev pub value_with_part : Bool → Octets → ℕ → Octets → Octets
value_with_part keep value offset part =
    take offset value ++ part ++ (if keep then drop (offset + length part) value else [])

abbrev pub patched_cell : Bool → Cell → ℕ → Octets → Cell
patched_cell keep cell offset part =
    record { room = cell.room; octets = value_with_part keep cell.octets offset part }

-- The cells after a part is written to the value at a handle.
abbrev pub with_part : List Cell → Bool → Handle → ℕ → Octets → List Cell
with_part cells keep handle offset part =
    slice_set cells (handle - 1) (patched_cell keep (cell_at cells handle) offset part)
