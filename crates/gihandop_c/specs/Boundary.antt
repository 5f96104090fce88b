-- The effects of a function on the host behind a pointer.
use Rattle.std.specs.Prelude.{◌≡◌, ℕ, ◌+◌, false, List, drop, Option, Some, None, IsSome, IfSome}
use Rattle.att_table.specs.Table.{Contents}
use Rattle.gatt_host.specs.declared.host_fault.HostFault.{HostFault}
use Rattle.gatt_host.specs.Calls.{number_of_refused}
use Rattle.gatt_host.specs.Numbers.{number_of_fault}
use Rattle.gatt_host.specs.Telling.{notices_told, silent}
use Rattle.gatt_host.specs.HostModel.{is_own_fault, Refines, RefinesRun}
use Rattle.gatt_laws.specs.machine.Calls.{Call, Refused}
use Rattle.gatt_laws.specs.machine.Input.{Run, Item, run, call_refusal, replacement_refusal}
use Rattle.gatt_laws.specs.machine.Notice.{Notice, notices_in, notices_of}
use Rattle.gatt_laws.specs.machine.Start.{Start}
use Rattle.gihandop_c.specs.declared.opened.Opened.{Opened}
use Rattle.gihandop_c.specs.declared.status.TheConstants.{DONE, REFUSED, STOPPED}
use Rattle.octet_io.specs.Number.{Octets}

-- The relation holds of the host before and after, or no host is open before or after.
abbrev pub OfTheHost : (Opened → Opened → Type 0) → Option Opened → Option Opened → Type 0
OfTheHost Holds (Some old) (Some new) = Holds old new
OfTheHost Holds None None = Unit
OfTheHost Holds old new = ⊥

-- A host without a fault accepts these items and sends these packets.
abbrev pub OpenedRefines : List Item → List Octets → Opened → Opened → Type 0
OpenedRefines items packets old new =
    old.host.fault ≡ None → Refines items packets old.host new.host

abbrev pub HostRefines : List Item → List Octets → Option Opened → Option Opened → Type 0
HostRefines items packets = OfTheHost (OpenedRefines items packets)

-- The notices that the program has not fetched.
abbrev pub untold : Opened → List Notice
untold opened = drop opened.told (notices_told opened.host)

-- In every run, the state machine has these notices for the items: none if the host stops at them.
abbrev pub TellsItems : List Item → Opened → Opened → Type 0
TellsItems items old new =
    (start : Start) (input : List Item) (sent : List Octets)
    → RefinesRun (run start input) sent old.host
    → old.host.fault ≡ None → untold new ≡ notices_in (run start input) items

-- In every run, the state machine has these notices for the item, if the host goes on.
abbrev pub TellsItem : Item → Opened → Opened → Type 0
TellsItem item old new =
    (start : Start) (input : List Item) (sent : List Octets)
    → RefinesRun (run start input) sent old.host
    → old.host.fault ≡ None → new.host.fault ≡ None → untold new ≡ notices_of (run start input) item

abbrev pub HostTellsItems : List Item → Option Opened → Option Opened → Type 0
HostTellsItems items = OfTheHost (TellsItems items)

abbrev pub HostTellsItem : Item → Option Opened → Option Opened → Type 0
HostTellsItem item = OfTheHost (TellsItem item)

abbrev pub KeepsInitial : Opened → Opened → Type 0
KeepsInitial old new = new.initial ≡ old.initial

abbrev pub HostKeepsInitial : Option Opened → Option Opened → Type 0
HostKeepsInitial = OfTheHost KeepsInitial

-- The host neither stops nor gets another fault.
abbrev pub KeepsFault : Opened → Opened → Type 0
KeepsFault old new = new.host.fault ≡ old.host.fault

abbrev pub HostKeepsFault : Option Opened → Option Opened → Type 0
HostKeepsFault = OfTheHost KeepsFault

-- If the host stops, its input is the reason: the fault is none of a reader, a writer or turns.
abbrev pub StopsByItsInput : Opened → Opened → Type 0
StopsByItsInput old new =
    old.host.fault ≡ None → IfSome new.host.fault (λ fault. is_own_fault fault ≡ false)

abbrev pub HostStopsByItsInput : Option Opened → Option Opened → Type 0
HostStopsByItsInput = OfTheHost StopsByItsInput

-- Notices and tables do not change.
pub record KeepsNotices (old new : Opened) : Type 0 where
  pub notices : untold new ≡ untold old
  pub table : new.host.server.table ≡ old.host.server.table
  pub initial : new.initial ≡ old.initial

pub record Stays (old new : Opened) : Type 0 where
  pub host : new.host ≡ old.host
  pub told : new.told ≡ old.told

abbrev pub HostStays : Option Opened → Option Opened → Type 0
HostStays = OfTheHost Stays

abbrev pub StaysIfStopped : Opened → Opened → Type 0
StaysIfStopped old new = IsSome old.host.fault → new.host ≡ old.host

abbrev pub HostStaysIfStopped : Option Opened → Option Opened → Type 0
HostStaysIfStopped = OfTheHost StaysIfStopped

-- The host only loses its notices.
abbrev pub FallsSilent : Opened → Opened → Type 0
FallsSilent old new = new.host ≡ silent old.host

abbrev pub HostFallsSilent : Option Opened → Option Opened → Type 0
HostFallsSilent = OfTheHost FallsSilent

abbrev pub fault_status : HostFault → ℕ
fault_status fault = STOPPED + number_of_fault fault

abbrev pub call_status : Option Refused → ℕ
call_status None = DONE
call_status (Some refused) = REFUSED + number_of_refused refused

-- In every run, the status is that of the state machine's refusal.
abbrev pub AnswersBy : (Run → Option Refused) → ℕ → Opened → Type 0
AnswersBy refusal status opened =
    (start : Start) (input : List Item) (sent : List Octets)
    → RefinesRun (run start input) sent opened.host
    → opened.host.fault ≡ None → status ≡ call_status (refusal (run start input))

abbrev pub AnswersCall : Call → ℕ → Opened → Type 0
AnswersCall call = AnswersBy (λ at. call_refusal at.intake call)

abbrev pub AnswersTable : Contents → ℕ → Opened → Type 0
AnswersTable table = AnswersBy (λ at. replacement_refusal at.intake table)
