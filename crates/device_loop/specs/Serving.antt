-- The effect of events on a host.
use Rattle.std.specs.Prelude.{◌≡◌, ℕ, ◌<◌, ◌≤◌, length, IfErr, List, [], ◌∷◌, ◌++◌, Option, None, Result, Ok, Err}
use Rattle.std.specs.Io.KnownBytes.{Consumes}
use Rattle.gatt_host.specs.declared.host_fault.HostFault.{HostFault}
use Rattle.gatt_host.specs.Feeding.{Feeds, TakesAll}
use Rattle.gatt_host.specs.Listening.{Listens}
use Rattle.gatt_host.specs.HostModel.{RefinesRun, HostModel}
use Rattle.gatt_host.specs.Promises.{ContinuesWriting, KeepsConnectionsApartIn, KeepsThePolicyIn}
use Rattle.gatt_laws.specs.machine.Calls.{Call}
use Rattle.gatt_laws.specs.laws.Deadline.{deadline}
use Rattle.gatt_laws.specs.machine.Input.{Run, Item, after_items, call_refusal, run}
use Rattle.gatt_laws.specs.machine.Notice.{Received}
use Rattle.gatt_laws.specs.machine.Start.{Start}
use Rattle.octet_io.specs.Number.{Octets}
use Rattle.device_loop.specs.declared.serving.End.{End}
use Rattle.device_loop.specs.declared.serving.End.TheVariants as end
use Rattle.device_loop.specs.Happenings.{DeviceInput, Came, Asked, HistoryEntry, Waited, Happened, Answered, Ended, Failed, Hands, Records, octets_that_came, calls_in, input_items_of, items_in}

-- The known future octets and calls, and the known history.
pub record Known : Type 0 where
  pub octets : Option Octets
  pub calls : Option (List Call)
  pub history : Option (List HistoryEntry)

abbrev pub known : Option Octets → Option (List Call) → Option (List HistoryEntry) → Known
known octets calls history = record { octets = octets; calls = calls; history = history }

abbrev pub RecordsTheAnswer : Call → HostModel → Option (List HistoryEntry)
    → Option (List HistoryEntry) → Type 0
RecordsTheAnswer call old before after =
    (start : Start) (input : List Item) (sent : List Octets) → RefinesRun (run start input) sent old
    → Records (Answered (call_refusal (run start input).intake call) ∷ []) before after

-- The entries of a turn: the wait until the deadline, the event, and the answer to a call.
abbrev pub entries_recorded_of : Run → DeviceInput → List HistoryEntry
entries_recorded_of run (Came octets) =
    Waited (deadline run.intake.state) ∷ Happened (Came octets) ∷ []
entries_recorded_of run (Asked call) =
    Waited (deadline run.intake.state) ∷ Happened (Asked call)
    ∷ Answered (call_refusal run.intake call) ∷ []

abbrev pub entries_recorded : Run → List DeviceInput → List HistoryEntry
entries_recorded run [] = []
entries_recorded run (happening ∷ happened) =
    entries_recorded_of run happening
    ++ entries_recorded (after_items run (input_items_of happening)) happened

-- The entries of the last turn, in which the stream ends or cannot be read.
abbrev pub last_entries : Run → Result End HostFault → List HistoryEntry
last_entries run (Ok end.Ended) = Waited (deadline run.intake.state) ∷ Ended ∷ []
last_entries run (Ok end.Failed) = Waited (deadline run.intake.state) ∷ Failed ∷ []
last_entries run (Ok end.Turns) = []
last_entries run (Err fault) = []

abbrev pub all_entries : Run → List DeviceInput → Result End HostFault → List HistoryEntry
all_entries run happened result =
    entries_recorded run happened ++ last_entries (after_items run (items_in happened)) result

abbrev pub RecordsAll : List DeviceInput → Result End HostFault → HostModel
    → Option (List HistoryEntry) → Option (List HistoryEntry) → Type 0
RecordsAll happened result old before after =
    (start : Start) (input : List Item) (sent : List Octets) → RefinesRun (run start input) sent old
    → Records (all_entries (run start input) happened result) before after

-- The number of events is `turns`, or less if the stream ended, or at most `turns` if the host
-- stopped.
abbrev pub IsOver : Result End HostFault → ℕ → ℕ → Type 0
IsOver (Ok end.Ended) turns count = count < turns
IsOver (Ok end.Failed) turns count = count < turns
IsOver (Ok end.Turns) turns count = count ≡ turns
IsOver (Err fault) turns count = count ≤ turns

-- The host stops at the last event, or at its pending output before any event.
pub record StopsAtTheLast (happened : List DeviceInput) (old new : HostModel)
    (before after : Option Octets) : Type 0 where
  pub first : List DeviceInput
  pub last : List DeviceInput
  pub parts : happened ≡ first ++ last
  pub one : length last ≤ 1
  pub between : HostModel
  pub written : Option Octets
  pub takes : TakesAll (items_in first) old between before written
  pub going : between.fault ≡ None
  pub stops : Feeds (items_in last) between new written after new.fault

-- The events have the octets and calls that arrived, in their order. The output and the notices are
-- those of the state machine; the history has the events and answers. Each run in which the host
-- was continues by these events and keeps the laws.
pub record ServesDevice (result : Result End HostFault) (turns : ℕ) (old new : HostModel)
    (come comes : Known) (before after : Option Octets) (heard hears : Option (List Received)) :
    Type 0 where
  pub happened : List DeviceInput
  pub octets : Consumes come.octets comes.octets (octets_that_came happened)
  pub calls : Hands come.calls comes.calls (calls_in happened)
  pub feeds : Feeds (items_in happened) old new before after new.fault
  pub policy : ContinuesWriting KeepsThePolicyIn (items_in happened) old new before after
  pub apart : ContinuesWriting KeepsConnectionsApartIn (items_in happened) old new before after
  pub listens : Listens (items_in happened) old new new.fault heard hears
  pub records : RecordsAll happened result old come.history comes.history
  pub over : IsOver result turns (length happened)
  pub stops : IfErr result (λ fault. StopsAtTheLast happened old new before after)
