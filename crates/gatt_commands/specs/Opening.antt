-- The host of the commands (this profile's own).
use Rattle.std.specs.Prelude.{◌≡◌, ℕ, ◌^◌, ◌&&◌, nat_le, if◌then◌else◌, List, [], ◌∷◌, Option, Some, None, Ok, IfSome}
use Rattle.arrayvec.specs.ArrayVec.{ArrayVec}
use Rattle.att_pdu.specs.declared.pdu_buf.TheConstants.{MAX_MTU, MIN_MTU}
use Rattle.att_table.specs.Table.{Contents}
use Rattle.gatt_host.specs.declared.config.Config.{Config}
use Rattle.gatt_host.specs.Opening.{start_of}
use Rattle.gatt_host.specs.HostModel.{RefinesRun, HostModel}
use Rattle.gatt_laws.specs.machine.Input.{run}
use Rattle.gatt_subs.specs.Rows.{Subscriptions}
use Rattle.le_security.specs.declared.entry.Entry.{Entry}
use Rattle.octet_io.specs.Missing.{◌>>=◌}
use Rattle.octet_io.specs.Number.{Octets}
use Rattle.text_words.specs.Numeral.{numeral_of}
use Rattle.gatt_commands.specs.declared.opening.TheConstants.{SLOTS}
use Rattle.gatt_conn.specs.declared.conn.TheConstants.{RX_MTU}
use Rattle.shell_files.specs.KeyFile.{keys_in}
use Rattle.shell_files.specs.RowsFile.{rows_in}
use Rattle.shell_files.specs.TableFile.{table_in}

-- General discovery, without BR/EDR (Core Specification Supplement 7, Part A, 1.3).
abbrev pub flags : ArrayVec ℕ
flags = record { items = 0x02 ∷ 0x01 ∷ 0x06 ∷ [] }

-- The ATT_MTU that a host can receive, in decimal digits. Without a word it is the usual one.
abbrev pub rx_mtu_of : Option Octets → Option ℕ
rx_mtu_of None = Some RX_MTU
rx_mtu_of (Some word) =
    numeral_of (2 ^ 64) word
    >>= (λ octets. if nat_le MIN_MTU octets && nat_le octets MAX_MTU then Some octets else None)

-- The host has the public address of its controller.
abbrev pub command_configuration : ℕ → Config
command_configuration rx_mtu =
    record { slots = SLOTS; rx_mtu = rx_mtu; address = None; advertising = flags }

-- An open host can receive PDUs of this many octets. It has no fault and exchanged no packet.
pub record IsOpened (table : Contents) (keys : List Entry) (rows : Subscriptions)
    (rx_mtu : ℕ) (host : HostModel) : Type 0 where
  pub refines : RefinesRun (run (start_of table keys rows (command_configuration rx_mtu)) []) []
      host
  pub going : host.fault ≡ None

-- The host is opened with these files, if known.
pub record IsOpenedWithFiles (table_file key_file rows_file : Option Octets)
    (host : HostModel) : Type 0 where
  pub table : Contents
  pub keys : List Entry
  pub rows : Subscriptions
  pub has_table : IfSome table_file (λ octets. table_in octets ≡ Ok table)
  pub has_keys : IfSome key_file (λ octets. keys_in octets ≡ Ok keys)
  pub has_rows : IfSome rows_file (λ octets. rows_in octets ≡ Ok rows)
  pub opened : IsOpened table keys rows RX_MTU host
