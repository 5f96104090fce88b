-- The opening of a host with its files: a choice of this profile.
use Rattle.std.specs.Prelude.{◌≡◌, ◌≢◌, ℕ, ◌+◌, ◌==◌, nat_lt, Bool, ◌||◌, if◌then◌else◌, take, List, [], Option, Some, None, Ok}
use Rattle.att_table.specs.declared.table_fault.TableFault.TheVariants.{OutOfMemory as NoMemoryForTheTable}
use Rattle.att_table.specs.Table.{Contents}
use Rattle.att_table.specs.TableFault.{table_fault_number}
use Rattle.gatt_host.specs.declared.config.Config.{Config}
use Rattle.gatt_host.specs.Opening.{is_configured, start_of}
use Rattle.gatt_host.specs.HostModel.{RefinesRun}
use Rattle.gatt_laws.specs.machine.Input.{run}
use Rattle.gatt_subs.specs.declared.rows_fault.RowsFault.TheVariants.{OutOfMemory as NoMemoryForTheRows}
use Rattle.gatt_subs.specs.Rows.{Subscriptions}
use Rattle.gatt_subs.specs.RowsFault.{rows_fault_number}
use Rattle.gihandop_c.specs.declared.config.HostConfig.{HostConfig}
use Rattle.gihandop_c.specs.declared.config.TheConstants.{CONFIG_SIZE}
use Rattle.gihandop_c.specs.declared.opened.Opened.{Opened}
use Rattle.gihandop_c.specs.declared.status.TheConstants.{BAD_CONFIG, BAD_KEYS, BAD_ROWS, BAD_TABLE, DONE, OUT_OF_MEMORY}
use Rattle.gihandop_c.specs.Files.{keys_status, rows_status, table_status, values_status_for}
use Rattle.gihandop_c.specs.Values.{values_in}
use Rattle.le_security.specs.KeyFile.{keys_in}
use Rattle.gatt_subs.specs.Rows.{rows_in}
use Rattle.att_table.specs.file.TableFile.{table_in}
use Rattle.le_hci.specs.declared.command.TheConstants.{MAX_ADVERTISING_DATA}
use Rattle.le_security.specs.declared.entry.Entry.{Entry}
use Rattle.le_security.specs.declared.key_fault.KeyFault.TheVariants.{OutOfMemory as NoMemoryForTheKeys}
use Rattle.le_security.specs.KeyFault.{key_fault_number}
use Rattle.octet_io.specs.Number.{Octets}

-- The configuration from C: the address counts if `is_random` is not 0, the advertising data up to
-- its length.
abbrev pub config_given : HostConfig → Config
config_given config = record {
  slots = config.slots;
  rx_mtu = config.rx_mtu;
  address = if config.is_random == 0 then None else Some config.address;
  advertising = record { items = take config.advertising_length config.advertising };
}

-- A host opened with these texts and this configuration.
pub record IsOpenedWith (table keys rows values : Octets) (config : HostConfig) (omitted : ℕ)
    (opened : Opened) : Type 0 where
  -- The host is in its start state with the values restored, and has sent nothing.
  pub host : (contents restored : Contents) (entries : List Entry) (said : Subscriptions)
      (count : ℕ)
      → table_in table ≡ Ok contents → keys_in keys ≡ Ok entries → rows_in rows ≡ Ok said
      → values_in values contents ≡ Ok (restored, count)
      → RefinesRun (run (start_of restored entries said (config_given config)) []) [] opened.host
  pub going : opened.host.fault ≡ None
  -- The number of values that do not fit the table.
  pub left_out : (contents restored : Contents) (count : ℕ)
      → table_in table ≡ Ok contents → values_in values contents ≡ Ok (restored, count)
      → omitted ≡ count
  -- The table of the file, without the values.
  pub initial : (contents : Contents) → table_in table ≡ Ok contents → opened.initial ≡ contents

abbrev pub IsOpenWith : Octets → Octets → Octets → Octets → HostConfig → ℕ → Option Opened → Type 0
IsOpenWith table keys rows values config left_out (Some opened) =
    IsOpenedWith table keys rows values config left_out opened
IsOpenWith table keys rows values config left_out None = ⊥

-- The structure is too small, or its advertising data too long.
abbrev pub is_unreadable : HostConfig → Bool
is_unreadable config =
    nat_lt config.size CONFIG_SIZE || nat_lt MAX_ADVERTISING_DATA config.advertising_length

abbrev pub config_status : HostConfig → ℕ
config_status config =
    if is_unreadable config then BAD_CONFIG
    else if is_configured (config_given config) then DONE else BAD_CONFIG

-- With enough memory, the status is that of the first fault, in the order of the texts and the
-- configuration.
abbrev pub open_status : Octets → Octets → Octets → Octets → HostConfig → ℕ
open_status table keys rows values config =
    table_status (table_in table) (keys_status (keys_in keys)
    (rows_status (rows_in rows) (values_status_for (table_in table) values (config_status config))))

-- The status is none of the four for refused memory.
pub record IsNotOfMemory (status : ℕ) : Type 0 where
  pub host : status ≢ OUT_OF_MEMORY
  pub table : status ≢ BAD_TABLE + table_fault_number NoMemoryForTheTable
  pub keys : status ≢ BAD_KEYS + key_fault_number NoMemoryForTheKeys
  pub rows : status ≢ BAD_ROWS + rows_fault_number NoMemoryForTheRows

-- With enough memory, the status is that of the file.
abbrev pub IsStatusOf : (ℕ → ℕ) → ℕ → Type 0
IsStatusOf of_file status = IsNotOfMemory status → (behind : ℕ) → status ≡ of_file behind
