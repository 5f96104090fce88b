-- The acts of a script's line (this profile's own).
use Rattle.std.specs.Prelude.{◌≡◌, ℕ, if◌then◌else◌, is_some, List, Option, Some, None, IsSome}
use Rattle.std.specs.Option.{option_map}
use Rattle.att_table.specs.Table.{Contents}
use Rattle.gatt_host.specs.Telling.{silent}
use Rattle.gatt_host.specs.HostModel.{Takes, HostModel, RefinesRun}
use Rattle.gatt_laws.specs.machine.Calls.{Call, UpdateCall, AuthorizeCall, TickCall}
use Rattle.gatt_host.specs.Calls.{number_of_refused}
use Rattle.gatt_laws.specs.machine.Calls as why
use Rattle.gatt_laws.specs.machine.Input.{Item, ACall, ATable, call_refusal, run, replacement_refusal}
use Rattle.gatt_laws.specs.machine.Start.{Start}
use Rattle.octet_io.specs.Number.{Octets}
use Rattle.scripts.specs.declared.act.Act.{Act}
use Rattle.scripts.specs.declared.act.Act.TheVariants as line
use Rattle.scripts.specs.declared.act.ScriptedAct.{ScriptedAct}
use Rattle.scripts.specs.declared.act.ScriptedAct.TheVariants as does
use Rattle.sim_controller.specs.Acts as sim
use Rattle.sim_controller.specs.Acts.{act_fault, phone_in}
use Rattle.sim_controller.specs.Calls.{Acts, after_call}
use Rattle.sim_controller.specs.declared.fault.SimFault.{SimFault}
use Rattle.sim_controller.specs.Phones.{handle_of_phone}
use Rattle.sim_controller.specs.SimFault.{sim_fault_number}
use Rattle.sim_controller.specs.Simulated.{Simulated}
use Rattle.gatt_commands.specs.declared.refused.Refused.{Refused}
use Rattle.gatt_commands.specs.declared.refused.Refused.TheVariants as refused
use Rattle.gatt_commands.specs.declared.notes.Notes.{Notes}
use Rattle.gatt_commands.specs.declared.stage.Stage.{Stage}
use Rattle.gatt_commands.specs.Notices.{NotesWhatIsTold}

abbrev pub sim_act : ℕ → ScriptedAct → sim.SimulatedAct
sim_act phone (does.Connect peer) = sim.Connect phone peer
sim_act phone does.Drop = sim.Drop phone
sim_act phone (does.Encrypt random_number diversifier) = sim.Encrypt phone random_number diversifier
sim_act phone does.Clear = sim.Clear phone
sim_act phone (does.Send channel payload) = sim.Send phone channel payload
sim_act phone does.Hold = sim.Hold phone
sim_act phone (does.Done packets) = sim.Done phone packets

-- A refused act changes nothing.
abbrev pub refused_act : ℕ → SimFault → Refused
refused_act phone fault = refused.Act phone (sim_fault_number fault)

pub record PhoneActs (act : sim.SimulatedAct) (told : Option Refused) (old new : Simulated) : Type 0
  where
    pub refused : told ≡ option_map (refused_act (phone_in act)) (act_fault old act)
    pub after : new ≡ after_call old (Acts act)

abbrev pub refused_call : why.Refused → Refused
refused_call reason = refused.Call (number_of_refused reason)

-- For any run that the host may have had, the report is the reason of the refusal, if any.
abbrev pub TellsWhy : Call → Option Refused → HostModel → Type 0
TellsWhy call told old =
    (start : Start) (input : List Item) (sent : List Octets) → RefinesRun (run start input) sent old
    → told ≡ option_map refused_call (call_refusal (run start input).intake call)

-- The host accepts the call, or refuses it and forgets its last notices.
pub record Calls (call : Call) (told : Option Refused) (old new : HostModel) : Type 0 where
  pub takes : old.fault ≡ None → Takes (ACall call) old new
  pub refused : old.fault ≡ None → TellsWhy call told old
  pub stopped : IsSome old.fault → told ≡ Some (refused_call why.Stopped)
  pub unchanged : IsSome told → new ≡ silent old

abbrev pub TellsWhyNot : Contents → Option Refused → HostModel → Type 0
TellsWhyNot table told old =
    (start : Start) (input : List Item) (sent : List Octets) → RefinesRun (run start input) sent old
    → told ≡ option_map refused_call (replacement_refusal (run start input).intake table)

-- The two tables are exchanged unless the host refuses.
pub record Replaces (table : Contents) (told : Option Refused) (old new : HostModel)
    (next : Option Contents) : Type 0 where
  pub takes : old.fault ≡ None → Takes (ATable table) old new
  pub refused : old.fault ≡ None → TellsWhyNot table told old
  pub stopped : IsSome old.fault → told ≡ Some (refused_call why.Stopped)
  pub unchanged : IsSome told → new ≡ silent old
  pub next_then : next ≡ Some (if is_some told then table else old.server.table)

-- Without another table nothing changes.
pub record ReplacesNone (told : Option Refused) (old new : HostModel) (next : Option Contents) :
    Type 0 where
  pub not_told : told ≡ None
  pub same : new ≡ old
  pub still_none : next ≡ None

abbrev pub ReplacesBy : Option Contents → Option Refused → HostModel → HostModel → Option Contents
    → Type 0
ReplacesBy None told old new next = ReplacesNone told old new next
ReplacesBy (Some table) told old new next = Replaces table told old new next

-- The effect of a line, and its refusal if any.
pub record ByPhone (act : sim.SimulatedAct) (told : Option Refused) (old new : Stage) : Type 0 where
  pub acts : PhoneActs act told old.sim new.sim
  pub host : new.host ≡ old.host
  pub next : new.next ≡ old.next

pub record ByCall (call : Call) (told : Option Refused) (old new : Stage) : Type 0 where
  pub calls : Calls call told old.host new.host
  pub sim : new.sim ≡ old.sim
  pub next : new.next ≡ old.next

pub record ByReplacing (told : Option Refused) (old new : Stage) : Type 0 where
  pub replaces : ReplacesBy old.next told old.host new.host new.next
  pub sim : new.sim ≡ old.sim

abbrev pub DoesLine : Act → Option Refused → Stage → Stage → Type 0
DoesLine (line.Phone phone act) told old new = ByPhone (sim_act phone act) told old new
DoesLine (line.Authorize phone until) told old new =
    ByCall (AuthorizeCall (handle_of_phone phone) until) told old new
DoesLine (line.Update handle value) told old new = ByCall (UpdateCall handle value) told old new
DoesLine (line.Tick time) told old new = ByCall (TickCall time) told old new
DoesLine line.Replace told old new = ByReplacing told old new

-- The notices are recorded unless the call is refused.
abbrev pub NotesUnless : Option Refused → HostModel → Notes → Notes → Type 0
NotesUnless None host old new = NotesWhatIsTold host old new
NotesUnless (Some refused) host old new = new ≡ old

abbrev pub NotesReplacing : Option Contents → Option Refused → HostModel → Notes → Notes → Type 0
NotesReplacing None told host old new = new ≡ old
NotesReplacing (Some table) told host old new = NotesUnless told host old new

-- The notices of a line, which the host processes at once or not at all.
abbrev pub NotesAct : Act → Option Contents → Option Refused → HostModel → Notes → Notes → Type 0
NotesAct (line.Phone phone act) next told host old new = new ≡ old
NotesAct line.Replace next told host old new = NotesReplacing next told host old new
NotesAct act next told host old new = NotesUnless told host old new
