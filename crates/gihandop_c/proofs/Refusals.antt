-- The status of what refuses to open a host is that of its first fault.
use Rattle.std.proofs.Common.{◌≡◌, ◌≢◌, ◌∙◌, ℕ, ◌+◌, nat_eq, T, if◌then◌else◌, Bool, true, false, Result, Ok, Err, refl, ap, subst, sym}
use Rattle.att_table.specs.declared.table_fault.TableFault.{TableFault}
use Rattle.att_table.specs.declared.table_fault.TableFault.TheVariants.{OutOfMemory as NoMemoryForTheTable}
use Rattle.att_table.specs.Table.{Contents}
use Rattle.att_table.specs.TableFault.{table_fault_number}
use Rattle.host_api.specs.declared.app.AppFault.{AppFault}
use Rattle.host_api.specs.declared.app.AppFault.TheVariants as reason
use Rattle.gatt_host.specs.Calls.{fault_of_refused, refused_of}
use Rattle.gatt_host.specs.Opening.{is_configured}
use Rattle.gatt_subs.specs.declared.rows_fault.RowsFault.{RowsFault}
use Rattle.gatt_subs.specs.declared.rows_fault.RowsFault.TheVariants.{OutOfMemory as NoMemoryForTheRows}
use Rattle.gatt_subs.specs.RowsFault.{rows_fault_number}
use Rattle.gihandop_c.specs.declared.config.HostConfig.{HostConfig}
use Rattle.gihandop_c.specs.declared.status.TheConstants.{BAD_CONFIG, BAD_KEYS, BAD_ROWS, BAD_TABLE, DONE}
use Rattle.gihandop_c.specs.Files.{keys_status, rows_status, table_status}
use Rattle.gihandop_c.specs.Opening.{config_given, config_status, is_unreadable, IsNotOfMemory, IsStatusOf}
use Rattle.le_security.specs.KeyFile.{keys_in}
use Rattle.gatt_subs.specs.Rows.{rows_in}
use Rattle.att_table.specs.file.TableFile.{table_in}
use Rattle.le_security.specs.declared.key_fault.KeyFault.{KeyFault}
use Rattle.le_security.specs.declared.key_fault.KeyFault.TheVariants.{OutOfMemory as NoMemoryForTheKeys}
use Rattle.le_security.specs.KeyFault.{key_fault_number}
use Rattle.octet_io.specs.Memory.{Gives}
use Rattle.octet_io.specs.Number.{Octets}

pub table_refused : (octets : Octets) (fault : TableFault) (status : ℕ) → Gives NoMemoryForTheTable (table_in octets) (Err fault)
    → status ≡ BAD_TABLE + table_fault_number fault → IsStatusOf (table_status (table_in octets)) status
table_refused octets fault status gives is = λ enough behind.
    is ∙ ap (λ read. table_status read behind)
    (sym (gives (λ none. enough.table (is ∙ ap (λ (f : TableFault). BAD_TABLE + table_fault_number f) none))))

pub keys_refused : (octets : Octets) (fault : KeyFault) (status : ℕ) → Gives NoMemoryForTheKeys (keys_in octets) (Err fault)
    → status ≡ BAD_KEYS + key_fault_number fault → IsStatusOf (keys_status (keys_in octets)) status
keys_refused octets fault status gives is = λ enough behind.
    is ∙ ap (λ read. keys_status read behind)
    (sym (gives (λ none. enough.keys (is ∙ ap (λ (f : KeyFault). BAD_KEYS + key_fault_number f) none))))

pub rows_refused : (octets : Octets) (fault : RowsFault) (status : ℕ) → Gives NoMemoryForTheRows (rows_in octets) (Err fault)
    → status ≡ BAD_ROWS + rows_fault_number fault → IsStatusOf (rows_status (rows_in octets)) status
rows_refused octets fault status gives is = λ enough behind.
    is ∙ ap (λ read. rows_status read behind)
    (sym (gives (λ none. enough.rows (is ∙ ap (λ (f : RowsFault). BAD_ROWS + rows_fault_number f) none))))

-- what is accepted has no such status: it would be whatever comes behind
pub table_not_refused : (read : Result Contents TableFault) (contents : Contents) (status : ℕ) → IsStatusOf (table_status read) status
    → read ≡ Ok contents → ¬ (IsNotOfMemory status)
table_not_refused read contents status is accepted enough =
    let same : (behind : ℕ) → status ≡ behind = λ behind. is enough behind ∙ ap (λ r. table_status r behind) accepted in
    subst (λ (n : ℕ). T (nat_eq n 0)) (sym (same 0) ∙ same 1) tt

pub table_refused_for : (read : Result Contents TableFault) (fault : TableFault) (status : ℕ) → IsStatusOf (table_status read) status
    → read ≡ Err fault → IsNotOfMemory status → status ≡ BAD_TABLE + table_fault_number fault
table_refused_for read fault status is refused enough = is enough 0 ∙ ap (λ r. table_status r 0) refused

-- by the two tests of a configuration
abbrev status_by : Bool → Bool → ℕ
status_by unreadable configured = if unreadable then BAD_CONFIG else if configured then DONE else BAD_CONFIG

accepted : (configured : Bool) → configured ≢ false → status_by false configured ≡ DONE
accepted true not = refl
accepted false not = absurd (not refl)

pub config_accepted : (config : HostConfig) → is_unreadable config ≡ false
    → is_configured (config_given config) ≢ false → config_status config ≡ DONE
config_accepted config readable is =
    ap (λ test. status_by test (is_configured (config_given config))) readable ∙ accepted (is_configured (config_given config)) is

pub config_refused : (config : HostConfig) → is_unreadable config ≡ false
    → is_configured (config_given config) ≡ false → config_status config ≡ BAD_CONFIG
config_refused config readable is =
    ap (λ test. status_by test (is_configured (config_given config))) readable ∙ ap (status_by false) is

pub config_unreadable : (config : HostConfig) → is_unreadable config ≡ true → config_status config ≡ BAD_CONFIG
config_unreadable config is = ap (λ test. status_by test (is_configured (config_given config))) is

-- the reason for which the library refuses a call is that of the host
pub same_refusal : (fault : AppFault) → fault_of_refused (refused_of fault) ≡ fault
same_refusal reason.NoSuchHandle = refl
same_refusal reason.NotAValue = refl
same_refusal reason.BadLength = refl
same_refusal reason.NoSuchConnection = refl
same_refusal reason.TimeWentBack = refl
same_refusal reason.Stopped = refl
same_refusal reason.NoServiceChanged = refl
