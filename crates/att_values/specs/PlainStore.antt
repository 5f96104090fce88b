-- Values in separate buffers.
use Rattle.std.specs.Prelude.{◌≤◌, List, map}
use Rattle.arrayvec.specs.ArrayVec.{array_vec_len}
use Rattle.att_values.specs.declared.plain_store.Slot.{Slot}
use Rattle.att_values.specs.Cell.{Cell}
use Rattle.att_numbers.specs.declared.limit.TheConstants.{MAX_VALUE}

abbrev pub cell_of : Slot → Cell
cell_of slot = record { room = slot.room; octets = slot.octets.items }

abbrev pub cells_of : List Slot → List Cell
cells_of slots = map cell_of slots

-- A value is no longer than its room, a room no larger than `MAX_VALUE`.
abbrev pub IsWithinRoom : Slot → Type 0
IsWithinRoom slot = (array_vec_len slot.octets ≤ slot.room) × (slot.room ≤ MAX_VALUE)
