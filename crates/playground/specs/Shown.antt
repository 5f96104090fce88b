-- The outputs that a page is given (this profile's own).
use Rattle.std.specs.Prelude.{◌≡◌, true, List, Ok}
use Rattle.octet_io.specs.Number.{Octets}
use Rattle.att_table.specs.Table.{Contents}
use Rattle.le_security.specs.declared.entry.Entry.{Entry}
use Rattle.gatt_commands.specs.declared.script_text.Shows.{Shows}
use Rattle.shell_files.specs.KeyFile.{keys_in}
use Rattle.shell_files.specs.TableFile.{table_in}
use Rattle.playground.specs.Fields.{rights_data}

-- The lines of the script, and the notices.
abbrev pub all_shown : Shows
all_shown = record { notices = true; lines = true }

-- The files are accepted; the data are those of their table and keys.
pub record HasRights (table_file key_file lines : Octets) : Type 0 where
  pub table : Contents
  pub has_table : table_in table_file ≡ Ok table
  pub keys : List Entry
  pub has_keys : keys_in key_file ≡ Ok keys
  pub told : lines ≡ rights_data table keys
