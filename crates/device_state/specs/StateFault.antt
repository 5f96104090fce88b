-- The line of a state's fault (this profile's own).
use Rattle.std.specs.Prelude.{ℕ, ◌+◌, ◌-◌, ◌^◌, min, Option, Some, None}
use Rattle.gatt_subs.specs.declared.rows_fault.RowsFault.{RowsFault}
use Rattle.gatt_subs.specs.declared.rows_fault.RowsFault.TheVariants as rows
use Rattle.device_state.specs.declared.state_fault.StateFault.{StateFault}
use Rattle.device_state.specs.declared.state_fault.StateFault.TheVariants as state

-- The line after the subscriptions' heading, or 0 if no single line has the fault.
abbrev pub line_after : RowsFault → ℕ
line_after (rows.BadLine line) = line
line_after (rows.Twice line) = line
line_after rows.TooMany = 0
line_after rows.OutOfMemory = 0

-- The faulty line, at most the largest number of 64 bits.
abbrev pub line_of_fault : StateFault → Option ℕ
line_of_fault state.Unended = None
line_of_fault state.OtherChecksum = None
line_of_fault state.NotText = None
line_of_fault state.OtherFormat = Some 1
line_of_fault (state.BadLine line) = Some line
line_of_fault (state.Subscriptions heading fault) =
    Some (min (heading + line_after fault) (2 ^ 64 - 1))
line_of_fault (state.BadValue line) = Some line
line_of_fault state.OutOfMemory = None
