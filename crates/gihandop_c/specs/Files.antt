-- The statuses of faulty files: a choice of this library.
use Rattle.std.specs.Prelude.{ℕ, ◌+◌, List, Result, Ok, Err}
use Rattle.att_table.specs.declared.table_fault.TableFault.{TableFault}
use Rattle.att_table.specs.Table.{Contents}
use Rattle.att_table.specs.TableFault.{table_fault_number}
use Rattle.gatt_subs.specs.declared.rows_fault.RowsFault.{RowsFault}
use Rattle.gatt_subs.specs.Rows.{Subscriptions}
use Rattle.gatt_subs.specs.RowsFault.{rows_fault_number}
use Rattle.gihandop_c.specs.declared.status.TheConstants.{BAD_KEYS, BAD_ROWS, BAD_TABLE, VALUES_BAD_LINE}
use Rattle.gihandop_c.specs.Values.{values_in}
use Rattle.le_security.specs.declared.entry.Entry.{Entry}
use Rattle.le_security.specs.declared.key_fault.KeyFault.{KeyFault}
use Rattle.le_security.specs.KeyFault.{key_fault_number}
use Rattle.octet_io.specs.Number.{Octets}
use Rattle.saved_values.specs.declared.restoring.BadLine.{BadLine}

-- The status of a file is that of its first fault, or else of the next file.
abbrev pub table_status : Result Contents TableFault → ℕ → ℕ
table_status (Ok table) behind = behind
table_status (Err fault) behind = BAD_TABLE + table_fault_number fault

abbrev pub keys_status : Result (List Entry) KeyFault → ℕ → ℕ
keys_status (Ok keys) behind = behind
keys_status (Err fault) behind = BAD_KEYS + key_fault_number fault

abbrev pub rows_status : Result Subscriptions RowsFault → ℕ → ℕ
rows_status (Ok rows) behind = behind
rows_status (Err fault) behind = BAD_ROWS + rows_fault_number fault

abbrev pub values_status : Result (Contents × ℕ) BadLine → ℕ → ℕ
values_status (Ok restored) behind = behind
values_status (Err line) behind = VALUES_BAD_LINE

abbrev pub values_status_for : Result Contents TableFault → Octets → ℕ → ℕ
values_status_for (Ok contents) values behind = values_status (values_in values contents) behind
values_status_for (Err fault) values behind = behind
