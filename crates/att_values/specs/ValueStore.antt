-- The contents of a store as a map from handles to values.
use Rattle.std.specs.Prelude.{ℕ, ◌==◌, if◌then◌else◌, List, [], map, unwrap_or}
use Rattle.std.specs.List.{enumerate_from}
use Rattle.std.specs.Ordering.{nat_cmp}
use Rattle.std.specs.FinMap.{FinMap, get, from_entries}
use Rattle.octet_io.specs.Number.{Octets}
use Rattle.att_numbers.specs.Types.{Handle}
use Rattle.att_values.specs.Cell.{Cell, cell_at}

abbrev pub ByHandle : Type 0
ByHandle = FinMap nat_cmp Octets

-- The value at a handle, empty if there is none.
abbrev pub value_in : ByHandle → Handle → Octets
value_in contents handle = unwrap_or (get contents handle) []

abbrev pub contents_of : List Cell → ByHandle
contents_of cells = from_entries (enumerate_from 1 (map (λ (cell : Cell). cell.octets) cells))

-- The largest length of the value at a handle, 0 if there is none.
abbrev pub rooms_of : List Cell → Handle → ℕ
rooms_of cells handle = if handle == 0 then 0 else (cell_at cells handle).room
