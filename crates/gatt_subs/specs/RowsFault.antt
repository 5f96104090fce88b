-- The numbers of the faults of a subscriptions file (this profile's own).
use Rattle.std.specs.Prelude.{ℕ}
use Rattle.gatt_subs.specs.declared.rows_fault.RowsFault.{RowsFault}
use Rattle.gatt_subs.specs.declared.rows_fault.RowsFault.TheVariants.{BadLine, Twice, TooMany, OutOfMemory}

abbrev pub rows_fault_number : RowsFault → ℕ
rows_fault_number (BadLine line) = 1
rows_fault_number (Twice line) = 2
rows_fault_number TooMany = 3
rows_fault_number OutOfMemory = 4
