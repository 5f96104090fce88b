-- A call, and a table that replaces another, lead a host on in its run.
use Rattle.std.proofs.Common.{◌≡◌, Bool, true, false, List, Option, None, Result, Ok, Err, refl, sym, ap, subst, ◌∙◌}
use Rattle.std.specs.Prelude.{IsOk, IsOkAnd, IfOk, IfErr, OnErr, OnOk, if◌then◌else◌}
use Rattle.att_table.specs.Changer.{changer_of}
use Rattle.att_table.specs.Table.{Contents}
use Rattle.gatt_host.proofs.asking.Calls.{call_is_refused, call_led, call_refusal_same, table_is_refused, table_led}
use Rattle.gatt_host.proofs.meaning.Drained.{all_sent, drained_in}
use Rattle.gatt_host.proofs.model.Silence.{stands_in_silence}
use Rattle.gatt_host.proofs.model.Items.{drained_where, no_fault, takes_item}
use Rattle.gatt_host.specs.Calls.{refused_of}
use Rattle.gatt_host.specs.Asked.{call_happening, refusal_in_result, replacement_happening}
use Rattle.host_api.specs.declared.app.AppFault.{AppFault}
use Rattle.gatt_host.specs.declared.host_fault.HostFault.{HostFault}
use Rattle.gatt_host.specs.ServerState.{ServerState, after_replacing, without_notices}
use Rattle.gatt_host.specs.Meaning.{IncomingFrames, IsAfter}
use Rattle.gatt_host.specs.Notices.{last_notices}
use Rattle.gatt_host.specs.RunRefinement.{IsDrainedIn, ServerRefinesRun}
use Rattle.gatt_host.specs.Telling.{noticed_in}
use Rattle.gatt_host.specs.HostModel.{HoldsStream, SameFault, RefinesRun, Takes, HostModel, all_out}
use Rattle.gatt_laws.specs.machine.Calls.{Call, NoServiceChanged, Refused, call_event, replacement_event, same_changer}
use Rattle.gatt_laws.specs.machine.Event.{Event, Happening, Replaced}
use Rattle.gatt_laws.specs.machine.Input.{ACall, ATable, Run, after_event, after_result, call_refusal, refusal_in}
use Rattle.gatt_laws.specs.machine.Packets.{Fault}
use Rattle.host_connections.specs.Slots.{Place}
use Rattle.le_h4.specs.Deframer.{Deframing}
use Rattle.octet_io.specs.Number.{Octets}

-- nothing but what is held changes
pub record KeepsTheRest (old new : HostModel) : Type 0 where
  pub frames : new.frames ≡ old.frames
  pub stream : new.stream ≡ old.stream
  pub fault : new.fault ≡ old.fault

module _ (old new : HostModel) (keeps : KeepsTheRest old new) where
  stands-then : {E : Type 0} (run : Run) (sent : List Octets) (result : Result Event E) → RefinesRun run sent old
      → ServerRefinesRun (after_result run result) sent new.server old.frames → RefinesRun (after_result run result) sent new
  stands-then run sent (Ok event) is refines = record {
    refines = subst (λ (frames : IncomingFrames). ServerRefinesRun (after_event run event) sent new.server frames) (sym keeps.frames) refines;
    same = subst (λ (fault : Option HostFault). SameFault run.intake.fault fault) (sym keeps.fault) is.same;
    stream = subst (λ (stream : Deframing). HoldsStream run stream) (sym keeps.stream) is.stream;
  }
  stands-then run sent (Err refused) is refines = record {
    refines = subst (λ (frames : IncomingFrames). ServerRefinesRun run sent new.server frames) (sym keeps.frames) refines;
    same = subst (λ (fault : Option HostFault). SameFault run.intake.fault fault) (sym keeps.fault) is.same;
    stream = subst (λ (stream : Deframing). HoldsStream run stream) (sym keeps.stream) is.stream;
  }

module _ (call : Call) (old new : HostModel) (none : old.fault ≡ None) (out : all_out old ≡ true) where
  drained-there : (run : Run) (sent : List Octets) → ServerRefinesRun run sent old.server old.frames → IsDrainedIn run old.server old.frames
  drained-there run sent is = drained_in run sent old.server old.frames is (drained_where old none out)

  call-stands : (result : Result Unit AppFault)
      → (IsOk result → IsOkAnd (call_happening old.server call) (λ happening. IsAfter happening old.server new.server))
      → IfErr result (λ fault. call_happening old.server call ≡ Err (refused_of fault)) → OnErr result (new.server ≡ without_notices old.server)
      → (run : Run) (sent : List Octets) → ServerRefinesRun run sent old.server old.frames
      → ServerRefinesRun (after_result run (call_event run.intake.state call)) sent new.server old.frames
  call-stands (Ok done) after refused same run sent is =
      subst (λ (packets : List Octets). ServerRefinesRun (after_result run (call_event run.intake.state call)) packets new.server old.frames)
      (all_sent run sent old.server old.frames is (drained_where old none out))
      (call_led run old.server old.frames (drained-there run sent is) new.server call (after refl)).refines
  call-stands (Err fault) after refused same run sent is =
      let refusal = call_is_refused run old.server old.frames (drained-there run sent is) call (refused_of fault) refused in
      subst (λ (result : Result Event Refused). ServerRefinesRun (after_result run result) sent new.server old.frames) (sym refusal)
      (subst (λ (server : ServerState). ServerRefinesRun run sent server old.frames) (sym same) (stands_in_silence run sent old.server old.frames is))

  -- and what is told of it is what the run has
  pub call_told : (result : Result Unit AppFault)
      → (IsOk result → IsOkAnd (call_happening old.server call) (λ happening. IsAfter happening old.server new.server))
      → IfErr result (λ fault. call_happening old.server call ≡ Err (refused_of fault)) → OnErr result (new.server ≡ without_notices old.server)
      → (run : Run) (sent : List Octets) → ServerRefinesRun run sent old.server old.frames
      → last_notices new.server ≡ noticed_in run.intake.state (call_event run.intake.state call)
  call_told (Ok done) after refused same run sent is = (call_led run old.server old.frames (drained-there run sent is) new.server call (after refl)).told
  call_told (Err fault) after refused same run sent is =
      let refusal = call_is_refused run old.server old.frames (drained-there run sent is) call (refused_of fault) refused in
      ap last_notices same ∙ sym (ap (λ (result : Result Event Refused). noticed_in run.intake.state result) refusal)

  pub takes_call : (result : Result Unit AppFault)
      → (IsOk result → IsOkAnd (call_happening old.server call) (λ happening. IsAfter happening old.server new.server))
      → IfErr result (λ fault. call_happening old.server call ≡ Err (refused_of fault)) → OnErr result (new.server ≡ without_notices old.server)
      → KeepsTheRest old new
      → Takes (ACall call) old new
  takes_call result after refused same keeps =
      takes_item (ACall call) old new none (λ run sent no_why is.
      stands-then old new keeps run sent (call_event run.intake.state call) is (call-stands result after refused same run sent is.refines))

-- it is refused for the same reason
none-refused : (outcome : Result (Happening Place) Refused) (P : Happening Place → Type 0) → IsOkAnd outcome P → None ≡ refusal_in None outcome
none-refused (Ok happening) P so = refl
none-refused (Err refused) P so = absurd so

call-reason : (old : ServerState) (call : Call) (P : Happening Place → Type 0) (result : Result Unit AppFault)
    → (IsOk result → IsOkAnd (call_happening old call) P)
    → IfErr result (λ fault. call_happening old call ≡ Err (refused_of fault)) → refusal_in_result result ≡ refusal_in None (call_happening old call)
call-reason old call P (Ok done) after refused = none-refused (call_happening old call) P (after refl)
call-reason old call P (Err fault) after refused = ap (λ (outcome : Result (Happening Place) Refused). refusal_in None outcome) (sym refused)

pub call_refused : (call : Call) (old : HostModel) (P : Happening Place → Type 0) (result : Result Unit AppFault) → old.fault ≡ None → all_out old ≡ true
    → (IsOk result → IsOkAnd (call_happening old.server call) P) → IfErr result (λ fault. call_happening old.server call ≡ Err (refused_of fault))
    → (run : Run) (sent : List Octets) → RefinesRun run sent old → refusal_in_result result ≡ call_refusal run.intake call
call_refused call old P result none out after refused run sent is =
    let in_run : IsDrainedIn run old.server old.frames = drained_in run sent old.server old.frames is.refines (drained_where old none out) in
    call-reason old.server call P result after refused
    ∙ sym (call_refusal_same run old.server old.frames in_run call)
    ∙ sym (ap (λ (why : Option Fault). refusal_in why (call_event run.intake.state call)) (no_fault run sent old none is))

-- a table that is accepted replaces the other
if-same : (same : Bool) (table : Contents) (P : Happening Place → Type 0) → same ≡ true → P (Replaced table)
    → IsOkAnd (if same then Ok (Replaced table) else Err NoServiceChanged) P
if-same true table P is so = so
if-same false table P is so = cc is

module _ {A : Type 0} (table : Contents) (old new : HostModel) (none : old.fault ≡ None) (out : all_out old ≡ true) where
  table-stands : (result : Result A (AppFault × Contents)) → OnOk result (new.server ≡ after_replacing table old.server)
      → (IsOk result → same_changer old.server.changer (changer_of table) ≡ true)
      → IfErr result (λ fault. replacement_happening old.server table ≡ Err (refused_of fault.0)) → OnErr result (new.server ≡ without_notices old.server)
      → (run : Run) (sent : List Octets) → ServerRefinesRun run sent old.server old.frames
      → ServerRefinesRun (after_result run (replacement_event run.intake.state table)) sent new.server old.frames
  table-stands (Ok given) after accepts refused same run sent is =
      let drained = drained_where old none out in
      subst (λ (packets : List Octets). ServerRefinesRun (after_result run (replacement_event run.intake.state table)) packets new.server old.frames)
      (all_sent run sent old.server old.frames is drained)
      (table_led run old.server old.frames (drained_in run sent old.server old.frames is drained) new.server table
      (if-same (same_changer old.server.changer (changer_of table)) table (λ happening. IsAfter happening old.server new.server) (accepts refl) after)).refines
  table-stands (Err fault) after accepts refused same run sent is =
      let drained = drained_where old none out in
      let refusal = table_is_refused run old.server old.frames (drained_in run sent old.server old.frames is drained) table (refused_of fault.0) refused in
      subst (λ (result : Result Event Refused). ServerRefinesRun (after_result run result) sent new.server old.frames) (sym refusal)
      (subst (λ (server : ServerState). ServerRefinesRun run sent server old.frames) (sym same) (stands_in_silence run sent old.server old.frames is))

  pub table_told : (result : Result A (AppFault × Contents)) → OnOk result (new.server ≡ after_replacing table old.server)
      → (IsOk result → same_changer old.server.changer (changer_of table) ≡ true)
      → IfErr result (λ fault. replacement_happening old.server table ≡ Err (refused_of fault.0)) → OnErr result (new.server ≡ without_notices old.server)
      → (run : Run) (sent : List Octets) → ServerRefinesRun run sent old.server old.frames
      → last_notices new.server ≡ noticed_in run.intake.state (replacement_event run.intake.state table)
  table_told (Ok given) after accepts refused same run sent is =
      (table_led run old.server old.frames (drained_in run sent old.server old.frames is (drained_where old none out)) new.server table
      (if-same (same_changer old.server.changer (changer_of table)) table (λ happening. IsAfter happening old.server new.server) (accepts refl) after)).told
  table_told (Err fault) after accepts refused same run sent is =
      let refusal =
      table_is_refused run old.server old.frames (drained_in run sent old.server old.frames is (drained_where old none out)) table
      (refused_of fault.0) refused in
      ap last_notices same ∙ sym (ap (λ (result : Result Event Refused). noticed_in run.intake.state result) refusal)

  pub takes_table : (result : Result A (AppFault × Contents)) → OnOk result (new.server ≡ after_replacing table old.server)
      → (IsOk result → same_changer old.server.changer (changer_of table) ≡ true)
      → IfErr result (λ fault. replacement_happening old.server table ≡ Err (refused_of fault.0)) → OnErr result (new.server ≡ without_notices old.server)
      → KeepsTheRest old new
      → Takes (ATable table) old new
  takes_table result after accepts refused same keeps =
      takes_item (ATable table) old new none (λ run sent no_why is.
      stands-then old new keeps run sent (replacement_event run.intake.state table) is
      (table-stands result after accepts refused same run sent is.refines))

-- what is held once a table has replaced another
pub replaced_after : (table : Contents) (old new : ServerState) (result : Result Contents (AppFault × Contents))
    → IfOk result (λ given. (given ≡ old.table) × (new ≡ after_replacing table old)) → OnOk result (new ≡ after_replacing table old)
replaced_after table old new (Ok given) after = after.1
replaced_after table old new (Err fault) after = tt
