-- A run ends as the script does, and then the rows are saved.
use Rattle.std.proofs.Common.{◌≡◌, ◌⊎◌, Bool, Option, List, Result, Ok, Err, refl, sym, subst, inl, inr}
use Rattle.std.specs.Prelude.{IfErr, OnOk}
use Rattle.gatt_subs.specs.Rows.{Subscriptions}
use Rattle.gatt_subs.specs.RowsText.{rows_text}
use Rattle.octet_io.specs.Number.{Octets}
use Rattle.scripts.specs.Script.{Acts}
use Rattle.shell_files.specs.declared.fault.ShellFault.{ShellFault}
use Rattle.shell_files.specs.declared.fault.ShellFault.TheVariants.{Unwritten}
use Rattle.gatt_commands.specs.declared.stage.Stage.{Stage}
use Rattle.gatt_commands.specs.Echo.{Shown}
use Rattle.gatt_commands.specs.Runs.{EndsEarly, HostRuns, RunsAll}
use Rattle.shell_files.specs.Saving.{Save, Saves, SavesAfter}

module _ (shown : Shown) (script : Acts) (old new : Stage) (held holds : Option Octets) (saves saves_then : Option (List Save)) where
  abbrev Runs-all : Type 0
  Runs-all = RunsAll shown script old new held holds

  abbrev Ends-early : ShellFault → Type 0
  Ends-early fault = EndsEarly fault shown script old new held holds

  abbrev Saves-rows : Bool → Type 0
  Saves-rows is_done = Saves (rows_text new.host.server.rows) is_done saves saves_then

  abbrev Host-runs : Result (Unit {0}) ShellFault → Type 0
  Host-runs result = HostRuns result shown script old new held holds saves saves_then

  by-results : (ran result : Result (Unit {0}) ShellFault)
      → ((fault : ShellFault) → ran ≡ Err fault → result ≡ Err fault) → (ran ≡ Ok tt → IfErr result (λ fault. fault ≡ Unwritten))
      → OnOk ran Runs-all → IfErr ran Ends-early → SavesAfter ran result (rows_text new.host.server.rows) saves saves_then → Host-runs result
  by-results (Err fault) result failed unwritten runs ends saved =
      subst Host-runs (sym (failed fault refl)) (record { is_saved = saved.is_done; ends = inl ends; saved = saved.saves })
  by-results (Ok done) (Err fault) failed unwritten runs ends saved =
      record { is_saved = saved.is_done; ends = inr (unwritten refl, saved.answered refl, runs); saved = saved.saves }
  by-results (Ok done) (Ok last_done) failed unwritten runs ends saved =
      record { runs = runs; saved = subst Saves-rows (saved.answered refl) saved.saves }

  pub host_runs : (rows : Subscriptions) (ran result : Result (Unit {0}) ShellFault) → rows ≡ new.host.server.rows
      → ((fault : ShellFault) → ran ≡ Err fault → result ≡ Err fault) → (ran ≡ Ok tt → IfErr result (λ fault. fault ≡ Unwritten))
      → OnOk ran Runs-all → IfErr ran Ends-early → SavesAfter ran result (rows_text rows) saves saves_then → Host-runs result
  host_runs rows ran result same failed unwritten runs ends saved =
      by-results ran result failed unwritten runs ends
      (subst (λ (rows : Subscriptions). SavesAfter ran result (rows_text rows) saves saves_then) same saved)

-- what is run of a script is run of its files too
pub or_more : {A B C : Type 0} → (B → C) → A ⊎ B → A ⊎ C
or_more more (inl kept) = inl kept
or_more more (inr runs) = inr (more runs)
