-- The run of a script, line by line (this profile's own).
use Rattle.std.specs.Prelude.{◌≡◌, ◌≢◌, ◌⊎◌, ℕ, ◌++◌, Bool, true, false, is_some, List, [], ◌∷◌, length, Option, Result, Ok, Err, IfSome}
use Rattle.std.specs.Io.KnownBytes.{Appends, Keeps}
use Rattle.att_table.specs.Table.{Contents}
use Rattle.gatt_subs.specs.Rows.{Subscriptions}
use Rattle.gatt_subs.specs.RowsText.{rows_text}
use Rattle.le_acl.specs.declared.sender.TheConstants.{MIN_ACL_LEN}
use Rattle.le_security.specs.declared.entry.Entry.{Entry}
use Rattle.octet_io.specs.Number.{Octets}
use Rattle.octet_io.specs.Stream.{WritesFront}
use Rattle.scripts.specs.declared.act.Act.{Act}
use Rattle.scripts.specs.Script.{Acts}
use Rattle.sim_controller.specs.declared.config.SimConfig.{SimConfig}
use Rattle.sim_controller.specs.Simulated.{Simulated, simulated_at_start}
use Rattle.gatt_commands.specs.declared.refused.Refused.{Refused}
use Rattle.shell_files.specs.declared.fault.ShellFault.{ShellFault}
use Rattle.shell_files.specs.declared.fault.ShellFault.TheVariants.{Memory, Unwritten}
use Rattle.gatt_commands.specs.declared.notes.Notes.{Notes}
use Rattle.gatt_commands.specs.declared.script_text.Shows.{Shows}
use Rattle.gatt_commands.specs.declared.stage.Stage.{Stage}
use Rattle.gatt_commands.specs.declared.stage.TheConstants.{SIMULATED_PACKETS}
use Rattle.gatt_commands.specs.Doing.{DoesLine, NotesAct}
use Rattle.gatt_commands.specs.Echo.{Shown, echo_of, lines_shown, shown_behind}
use Rattle.gatt_commands.specs.Exchange.{ExchangesAll, ExchangesUntil, pair_of}
use Rattle.shell_files.specs.KeyFile.{keys_in}
use Rattle.gatt_commands.specs.Lines.{outcome_text, with_told_phones}
use Rattle.gatt_commands.specs.Notices.{NotesNothingYet}
use Rattle.gatt_commands.specs.Opening.{IsOpened}
use Rattle.shell_files.specs.RowsFile.{rows_in}
use Rattle.shell_files.specs.Saving.{Save, Saves}
use Rattle.shell_files.specs.ScriptFile.{script_in}
use Rattle.shell_files.specs.TableFile.{table_in, HasNextTable}

-- The controller has only LE buffers, of the least length, and fragments data for the host to it.
abbrev pub simulated : SimConfig
simulated =
    record { acl_len = MIN_ACL_LEN; packets = SIMULATED_PACKETS; shared = false; cut = MIN_ACL_LEN }

-- The act is done and its notices are recorded.
pub record LineIsDone (shows : Bool) (act : Act) (refused : Option Refused) (old acted : Stage)
    (heard : Notes) : Type 0 where
  pub begun : Notes
  pub fresh : NotesNothingYet shows begun
  pub does : DoesLine act refused old acted
  pub noted : NotesAct act old.next refused acted.host begun heard

-- The outcome precedes the notices.
abbrev pub line_text : List Octets → Option Refused → Simulated → Notes → Octets
line_text names refused sim notes = outcome_text names refused sim.phones ++ notes.text.items

-- After the act, all packets are exchanged, and the outcome and the notices are printed.
pub record RunsLine (shows : Bool) (names : List Octets) (act : Act) (old new : Stage)
    (held holds : Option Octets) : Type 0 where
  pub refused : Option Refused
  pub acted : Stage
  pub quiet : Simulated
  pub heard : Notes
  pub last : Notes
  pub done : LineIsDone shows act refused old acted heard
  pub exchanges : ExchangesAll (pair_of acted.host acted.sim heard) (pair_of new.host quiet last)
  pub kept : last.is_refused ≡ false
  pub printed : Appends held holds (line_text names refused quiet last)
  pub told : new.sim ≡ with_told_phones quiet (length names)
  pub next : new.next ≡ acted.next

-- Without notices, only the outcome is printed.
abbrev pub ShowsNothingUnasked : Type 0
ShowsNothingUnasked =
    (names : List Octets) (act : Act) (old new : Stage) (held holds : Option Octets)
    → RunsLine false names act old new held holds
    → (refused : Option Refused) × (acted : Stage) × (quiet : Simulated)
    × DoesLine act refused old acted × Appends held holds (outcome_text names refused quiet.phones)

-- The exchange fails, and nothing is printed.
pub record FailsToExchange (fault : ShellFault) (heard : Notes) (old new : Stage)
    (held holds : Option Octets) : Type 0 where
  pub last : Notes
  pub exchanges : ExchangesUntil (Err fault) (pair_of old.host old.sim heard)
      (pair_of new.host new.sim last)
  pub next : new.next ≡ old.next
  pub kept : Keeps held holds

-- Memory is refused for a shown notice, and nothing is printed.
pub record FailsToNote (shows : Bool) (heard : Notes) (old new : Stage)
    (held holds : Option Octets) : Type 0 where
  pub shown : shows ≡ true
  pub last : Notes
  pub exchanges : ExchangesAll (pair_of old.host old.sim heard) (pair_of new.host new.sim last)
  pub refused : last.is_refused ≡ true
  pub next : new.next ≡ old.next
  pub kept : Keeps held holds

-- The writer fails after a prefix of this text.
pub record FailsToPrint (names : List Octets) (refused : Option Refused) (heard : Notes)
    (old new : Stage) (held holds : Option Octets) : Type 0 where
  pub quiet : Simulated
  pub last : Notes
  pub exchanges : ExchangesAll (pair_of old.host old.sim heard) (pair_of new.host quiet last)
  pub next : new.next ≡ old.next
  pub printed : WritesFront (line_text names refused quiet last) held holds

abbrev pub Fails : ShellFault → Bool → List Octets → Option Refused → Notes → Stage → Stage
    → Option Octets → Option Octets → Type 0
Fails Unwritten shows names refused heard old new held holds =
    FailsToPrint names refused heard old new held holds
Fails Memory shows names refused heard old new held holds =
    FailsToNote shows heard old new held holds
Fails fault shows names refused heard old new held holds =
    FailsToExchange fault heard old new held holds

pub record EndsAtLine (fault : ShellFault) (shows : Bool) (names : List Octets) (act : Act)
    (old new : Stage) (held holds : Option Octets) : Type 0 where
  pub refused : Option Refused
  pub acted : Stage
  pub heard : Notes
  pub done : LineIsDone shows act refused old acted heard
  pub fails : Fails fault shows names refused heard acted new held holds

-- A shown line is printed before its act.
pub record RunsNext (shown : Shown) (names : List Octets) (act : Act) (old new : Stage)
    (held holds : Option Octets) : Type 0 where
  pub echoed : Option Octets
  pub echo : Appends held echoed (echo_of shown.lines)
  pub runs : RunsLine shown.notices names act old new echoed holds

-- The writer fails after a prefix of a shown line.
pub record FailsToEcho (fault : ShellFault) (shown : Shown) (old new : Stage)
    (held holds : Option Octets) : Type 0 where
  pub is_unwritten : fault ≡ Unwritten
  pub shows : shown.lines ≢ []
  pub kept : new ≡ old
  pub printed : WritesFront (echo_of shown.lines) held holds

pub record EndsInNext (fault : ShellFault) (shown : Shown) (names : List Octets) (act : Act)
    (old new : Stage) (held holds : Option Octets) : Type 0 where
  pub echoed : Option Octets
  pub echo : Appends held echoed (echo_of shown.lines)
  pub ends : EndsAtLine fault shown.notices names act old new echoed holds

abbrev pub EndsAtNext : ShellFault → Shown → List Octets → Act → Stage → Stage → Option Octets
    → Option Octets → Type 0
EndsAtNext fault shown names act old new held holds =
    FailsToEcho fault shown old new held holds ⊎ EndsInNext fault shown names act old new held holds

abbrev pub Runs : Shown → List Octets → List Act → Stage → Stage → Option Octets → Option Octets
    → Type 0
Runs shown names [] old new held holds = (new ≡ old) × Keeps held holds
Runs shown names (act ∷ acts) old new held holds =
    (middle : Stage) × (between : Option Octets) × RunsNext shown names act old middle held between
    × Runs (shown_behind shown) names acts middle new between holds

-- One of the lines ends the run.
abbrev pub EndsAmong : ShellFault → Shown → List Octets → List Act → Stage → Stage → Option Octets
    → Option Octets → Type 0
EndsAmong fault shown names [] old new held holds = ⊥
EndsAmong fault shown names (act ∷ acts) old new held holds =
    EndsAtNext fault shown names act old new held holds
    ⊎ ((middle : Stage) × (between : Option Octets)
    × RunsNext shown names act old middle held between
    × EndsAmong fault (shown_behind shown) names acts middle new between holds)

-- All packets are exchanged before the first line.
pub record RunsAll (shown : Shown) (script : Acts) (old new : Stage) (held holds : Option Octets) :
    Type 0 where
  pub begun : Stage
  pub silent : Notes
  pub last : Notes
  pub exchanges : ExchangesAll (pair_of old.host old.sim silent) (pair_of begun.host begun.sim last)
  pub next : begun.next ≡ old.next
  pub lines : Runs shown script.names script.acts begun new held holds

-- A fault ends the run in one of the lines.
pub record EndsInLines (fault : ShellFault) (shown : Shown) (script : Acts) (old new : Stage)
    (held holds : Option Octets) : Type 0 where
  pub begun : Stage
  pub silent : Notes
  pub last : Notes
  pub exchanges : ExchangesAll (pair_of old.host old.sim silent) (pair_of begun.host begun.sim last)
  pub next : begun.next ≡ old.next
  pub lines : EndsAmong fault shown script.names script.acts begun new held holds

abbrev pub EndsEarly : ShellFault → Shown → Acts → Stage → Stage → Option Octets → Option Octets
    → Type 0
EndsEarly fault shown script old new held holds =
    ((silent : Notes) × FailsToExchange fault silent old new held holds)
    ⊎ EndsInLines fault shown script old new held holds

-- At the end a store saves the subscriptions.
pub record RunsHost (shown : Shown) (script : Acts) (old new : Stage) (held holds : Option Octets)
    (saves saves_then : Option (List Save)) : Type 0 where
  pub runs : RunsAll shown script old new held holds
  pub saved : Saves (rows_text new.host.server.rows) true saves saves_then

-- The run ends early and the store is asked to save, or the store fails.
pub record EndsHost (fault : ShellFault) (shown : Shown) (script : Acts) (old new : Stage)
    (held holds : Option Octets) (saves saves_then : Option (List Save)) : Type 0 where
  pub is_saved : Bool
  pub ends : EndsEarly fault shown script old new held holds
      ⊎ ((fault ≡ Unwritten) × (is_saved ≡ false) × RunsAll shown script old new held holds)
  pub saved : Saves (rows_text new.host.server.rows) is_saved saves saves_then

abbrev pub HostRuns : Result (Unit {0}) ShellFault → Shown → Acts → Stage → Stage
    → Option Octets → Option Octets → Option (List Save) → Option (List Save) → Type 0
HostRuns (Ok done) shown script old new held holds saves saves_then =
    RunsHost shown script old new held holds saves saves_then
HostRuns (Err fault) shown script old new held holds saves saves_then =
    EndsHost fault shown script old new held holds saves saves_then

-- An open stage has a new host of these files and this ATT_MTU, a new controller, and this next
-- table.
pub record IsStageOpened (table : Contents) (next : Option Contents) (keys : List Entry)
    (rows : Subscriptions) (rx_mtu : ℕ) (stage : Stage) : Type 0 where
  pub opened : IsOpened table keys rows rx_mtu stage.host
  pub fresh : stage.sim ≡ simulated_at_start simulated
  pub given : stage.next ≡ next

-- Host and controller are new, and the script is the file's, if known.
pub record RunsFile (result : Result (Unit {0}) ShellFault) (shows : Shows) (rx_mtu : ℕ)
    (table : Contents) (next : Option Contents) (keys : List Entry) (rows : Subscriptions)
    (script_file held holds : Option Octets) (saves saves_then : Option (List Save)) : Type 0 where
  pub script : Acts
  pub has_script : IfSome script_file (λ octets. script_in (is_some next) octets ≡ Ok script)
  pub shown : Shown
  pub has_notices : shown.notices ≡ shows.notices
  pub has_lines : IfSome script_file (λ octets. shown.lines ≡ lines_shown shows.lines octets)
  pub begun : Stage
  pub opened : IsStageOpened table next keys rows rx_mtu begun
  pub last : Stage
  pub runs : HostRuns result shown script begun last held holds saves saves_then

-- The octets of a run's files, if known.
pub record Files : Type 0 where
  pub table_file : Option Octets
  pub next_file : Option (Option Octets)
  pub key_file : Option Octets
  pub rows_file : Option Octets
  pub script_file : Option Octets

abbrev pub files_of : Option Octets → Option (Option Octets) → Option Octets → Option Octets
    → Option Octets → Files
files_of table next keys rows script =
    record {
      table_file = table;
      next_file = next;
      key_file = keys;
      rows_file = rows;
      script_file = script;
    }

pub record RunsFiles (result : Result (Unit {0}) ShellFault) (shows : Shows) (rx_mtu : ℕ)
    (files : Files) (held holds : Option Octets) (saves saves_then : Option (List Save))
    : Type 0 where
  pub table : Contents
  pub next : Option Contents
  pub keys : List Entry
  pub rows : Subscriptions
  pub has_table : IfSome files.table_file (λ octets. table_in octets ≡ Ok table)
  pub has_next : HasNextTable files.next_file next
  pub has_keys : IfSome files.key_file (λ octets. keys_in octets ≡ Ok keys)
  pub has_rows : IfSome files.rows_file (λ octets. rows_in octets ≡ Ok rows)
  pub runs : RunsFile result shows rx_mtu table next keys rows files.script_file held holds saves
      saves_then
