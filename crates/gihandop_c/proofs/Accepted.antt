-- What a host is opened with, where each text is accepted.
use Rattle.std.proofs.Common.{◌≡◌, ◌∙◌, ℕ, List, [], None, Result, Ok, ap, subst, sym}
use Rattle.att_table.specs.declared.table_fault.TableFault.{TableFault}
use Rattle.att_table.specs.Table.{Contents}
use Rattle.gatt_host.specs.HostModel.{RefinesRun}
use Rattle.gatt_host.specs.Opening.{start_of}
use Rattle.gatt_laws.specs.machine.Input.{run}
use Rattle.gatt_subs.specs.declared.rows_fault.RowsFault.{RowsFault}
use Rattle.gatt_subs.specs.Rows.{Subscriptions}
use Rattle.gihandop_c.specs.declared.config.HostConfig.{HostConfig}
use Rattle.gihandop_c.specs.declared.opened.Opened.{Opened}
use Rattle.gihandop_c.specs.declared.status.TheConstants.{DONE}
use Rattle.gihandop_c.specs.Files.{keys_status, rows_status, table_status, values_status, values_status_for}
use Rattle.gihandop_c.specs.Opening.{config_given, config_status, open_status, IsOpenedWith}
use Rattle.gihandop_c.specs.Values.{values_in}
use Rattle.gihandop_c.proofs.Carried.{same_ok}
use Rattle.le_security.specs.KeyFile.{keys_in}
use Rattle.gatt_subs.specs.Rows.{rows_in}
use Rattle.att_table.specs.file.TableFile.{table_in}
use Rattle.le_security.specs.declared.entry.Entry.{Entry}
use Rattle.le_security.specs.declared.key_fault.KeyFault.{KeyFault}
use Rattle.octet_io.specs.Number.{Octets}
use Rattle.saved_values.specs.declared.restoring.BadLine.{BadLine}

module _ (table keys rows values : Octets) (config : HostConfig) (served restored : Contents) (entries : List Entry) (said : Subscriptions)
    (omitted : ℕ) (is_table : table_in table ≡ Ok served) (is_keys : keys_in keys ≡ Ok entries) (is_rows : rows_in rows ≡ Ok said)
    (is_values : values_in values served ≡ Ok (restored, omitted)) where
  -- another reading of the values gives the same
  same_values : (contents again : Contents) (count : ℕ) → table_in table ≡ Ok contents → values_in values contents ≡ Ok (again, count)
      → ◌≡◌ {A = Contents × ℕ} (restored, omitted) (again, count)
  same_values contents again count read values_read =
      same_ok (values_in values served) (restored, omitted) (again, count) is_values
      (subst (λ (it : Contents). values_in values it ≡ Ok (again, count)) (sym (same_ok (table_in table) served contents is_table read)) values_read)

  pub opened_with : (opened : Opened) → RefinesRun (run (start_of restored entries said (config_given config)) []) [] opened.host
      → opened.host.fault ≡ None → opened.initial ≡ served → IsOpenedWith table keys rows values config omitted opened
  opened_with opened refines going initial = record {
    host = λ contents again others rest count read keys_read rows_read values_read.
        subst (λ (it : Contents). RefinesRun (run (start_of it others rest (config_given config)) []) [] opened.host)
        (ap (λ (pair : Contents × ℕ). pair.0) (same_values contents again count read values_read))
        (subst (λ (it : List Entry). RefinesRun (run (start_of restored it rest (config_given config)) []) [] opened.host)
        (same_ok (keys_in keys) entries others is_keys keys_read)
        (subst (λ (it : Subscriptions). RefinesRun (run (start_of restored entries it (config_given config)) []) [] opened.host)
        (same_ok (rows_in rows) said rest is_rows rows_read) refines));
    going = going;
    left_out = λ contents again count read values_read. ap (λ (pair : Contents × ℕ). pair.1) (same_values contents again count read values_read);
    initial = λ contents read. initial ∙ same_ok (table_in table) served contents is_table read;
  }

  pub opened_status : config_status config ≡ DONE → open_status table keys rows values config ≡ DONE
  opened_status is =
      ap (λ (read : Result Contents TableFault).
      table_status read (keys_status (keys_in keys) (rows_status (rows_in rows) (values_status_for read values (config_status config))))) is_table
      ∙ ap (λ (read : Result (List Entry) KeyFault).
      keys_status read (rows_status (rows_in rows) (values_status (values_in values served) (config_status config)))) is_keys
      ∙ ap (λ (read : Result Subscriptions RowsFault). rows_status read (values_status (values_in values served) (config_status config))) is_rows
      ∙ ap (λ (read : Result (Contents × ℕ) BadLine). values_status read (config_status config)) is_values
      ∙ is
