-- The text with the first fault: a choice of this library.
use Rattle.std.specs.Prelude.{◌≡◌, ℕ, List, length, take, codes, Option, Some, None, Result, Ok, Err}
use Rattle.att_table.specs.declared.table_fault.TableFault.{TableFault}
use Rattle.att_table.specs.Table.{Contents}
use Rattle.gatt_subs.specs.declared.rows_fault.RowsFault.{RowsFault}
use Rattle.gatt_subs.specs.Rows.{Subscriptions}
use Rattle.gihandop_c.specs.declared.faulty_text.FaultyText.{FaultyText}
use Rattle.gihandop_c.specs.declared.faulty_text.FaultyText.TheVariants.{Table, Keys, Rows, Values}
use Rattle.gihandop_c.specs.Values.{values_in}
use Rattle.le_security.specs.KeyFile.{keys_in}
use Rattle.gatt_subs.specs.Rows.{rows_in}
use Rattle.att_table.specs.file.TableFile.{table_in}
use Rattle.le_security.specs.declared.entry.Entry.{Entry}
use Rattle.le_security.specs.declared.key_fault.KeyFault.{KeyFault}
use Rattle.octet_io.specs.Number.{Octets}
use Rattle.saved_values.specs.declared.restoring.BadLine.{BadLine}

-- An accepted text leaves the fault to the next ones.
abbrev pub faulty_values : Result (Contents × ℕ) BadLine → Option FaultyText
faulty_values (Ok restored) = None
faulty_values (Err line) = Some (Values line.0)

abbrev pub faulty_rows : Result Subscriptions RowsFault → Option FaultyText → Option FaultyText
faulty_rows (Ok rows) behind = behind
faulty_rows (Err fault) behind = Some Rows

abbrev pub faulty_keys : Result (List Entry) KeyFault → Option FaultyText → Option FaultyText
faulty_keys (Ok keys) behind = behind
faulty_keys (Err fault) behind = Some Keys

abbrev pub faulty_table : Result Contents TableFault → (Contents → Option FaultyText)
    → Option FaultyText
faulty_table (Ok contents) behind = behind contents
faulty_table (Err fault) behind = Some Table

abbrev pub first_faulty : Octets → Octets → Octets → Octets → Option FaultyText
first_faulty table keys rows values = faulty_table (table_in table)
    (λ contents.
    faulty_keys (keys_in keys)
    (faulty_rows (rows_in rows) (faulty_values (values_in values contents))))

-- The name with which the words for a fault begin.
abbrev pub name_of : FaultyText → Octets
name_of Table = codes "table: "
name_of Keys = codes "keys: "
name_of Rows = codes "rows: "
name_of (Values line) = codes "values: "

abbrev pub BeginsWith : Octets → Octets → Type 0
BeginsWith front octets = take (length front) octets ≡ front
