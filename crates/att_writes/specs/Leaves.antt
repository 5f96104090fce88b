-- The state that writes leave.
use Rattle.std.specs.Prelude.{◌≡◌}
use Rattle.att_numbers.specs.Types.{Row}
use Rattle.att_table.specs.ConfigRow.{IsRowOf}
use Rattle.att_table.specs.Table.{Contents}
use Rattle.att_writes.specs.Applied.{Stored}

-- The attributes stay, and the row is still one of the table.
pub record LeavesStored (stored : Stored) (before after : Contents) (row_after : Row) : Type 0 where
  pub values : after.values ≡ stored.values
  pub row : row_after ≡ stored.row
  pub attributes : after.attributes ≡ before.attributes
  pub table : IsRowOf after.attributes row_after
