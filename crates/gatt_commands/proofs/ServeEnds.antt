-- A serving ends, and then the rows are saved.
use Rattle.std.proofs.Common.{◌≡◌, Bool, Option, Some, None, List, Result, Ok, Err, sym, subst}
use Rattle.std.specs.Prelude.{IfErr}
use Rattle.gatt_host.specs.declared.host_fault.HostFault.{HostFault}
use Rattle.gatt_host.specs.Numbers.{number_of_fault}
use Rattle.gatt_subs.specs.Rows.{Subscriptions}
use Rattle.gatt_subs.specs.RowsText.{rows_text}
use Rattle.octet_io.specs.Number.{Octets}
use Rattle.shell_files.specs.declared.fault.ShellFault.{ShellFault}
use Rattle.shell_files.specs.declared.fault.ShellFault.TheVariants.{Host, Unwritten}
use Rattle.shell_files.specs.Saving.{Save, Saves, SavesAfter}
use Rattle.gatt_commands.specs.Serving.{fault_told_of, IsOutcomeOf, SavesBy}

module _ (text : Octets) (saves saves_then : Option (List Save)) where
  by-answer : (ran result : Result (Unit {0}) ShellFault) → ran ≡ Ok tt → IfErr result (λ fault. fault ≡ Unwritten)
      → SavesAfter ran result text saves saves_then → SavesBy result text saves saves_then
  by-answer ran (Ok done) well unwritten saved = subst (λ (is_done : Bool). Saves text is_done saves saves_then) (saved.answered well) saved.saves
  by-answer ran (Err fault) well unwritten saved =
      subst (λ (fault : ShellFault). SavesBy (Err fault) text saves saves_then) (sym unwritten)
      (subst (λ (is_done : Bool). Saves text is_done saves saves_then) (saved.answered well) saved.saves)

  by-fault : (refines : Option HostFault) (ran result : Result (Unit {0}) ShellFault) → ran ≡ fault_told_of refines
      → ((fault : ShellFault) → ran ≡ Err fault → result ≡ Err fault) → (ran ≡ Ok tt → IfErr result (λ fault. fault ≡ Unwritten))
      → SavesAfter ran result text saves saves_then → SavesBy result text saves saves_then
  by-fault None ran result told failed unwritten saved = by-answer ran result told (unwritten told) saved
  by-fault (Some fault) ran result told failed unwritten saved =
      subst (λ (result : Result (Unit {0}) ShellFault). SavesBy result text saves saves_then) (sym (failed (Host (number_of_fault fault)) told))
      (saved.is_done, saved.saves)

-- of the rows that stand
pub saves_rows : (rows held : Subscriptions) (saves saves_then : Option (List Save)) (refines : Option HostFault) (ran result : Result (Unit {0}) ShellFault)
    → rows ≡ held
    → ran ≡ fault_told_of refines → ((fault : ShellFault) → ran ≡ Err fault → result ≡ Err fault) → (ran ≡ Ok tt → IfErr result (λ fault. fault ≡ Unwritten))
    → SavesAfter ran result (rows_text rows) saves saves_then → SavesBy result (rows_text held) saves saves_then
saves_rows rows held saves saves_then refines ran result same told failed unwritten saved =
    by-fault (rows_text held) saves saves_then refines ran result told failed unwritten
    (subst (λ (rows : Subscriptions). SavesAfter ran result (rows_text rows) saves saves_then) same saved)

-- a fault of the host comes before one of the store
pub is_outcome : (fault : Option HostFault) (ran result : Result (Unit {0}) ShellFault) → ran ≡ fault_told_of fault
    → ((why : ShellFault) → ran ≡ Err why → result ≡ Err why) → (ran ≡ Ok tt → IfErr result (λ why. why ≡ Unwritten))
    → IsOutcomeOf fault result
is_outcome None ran result told failed unwritten = unwritten told
is_outcome (Some fault) ran result told failed unwritten = failed (Host (number_of_fault fault)) told
