-- The notices of a host's last input.
use Rattle.std.specs.Prelude.{◌≡◌, is_some, if◌then◌else◌, List, [], ◌∷◌, map, Option, Some, None, Result, Ok, Err}
use Rattle.gatt_host.specs.declared.host_fault.HostFault.{HostFault}
use Rattle.gatt_host.specs.ServerState.{ServerState, without_notices}
use Rattle.gatt_host.specs.Meaning.{IncomingFrames}
use Rattle.host_api.specs.declared.notice.Notice.{Notice as Lent}
use Rattle.gatt_host.specs.Notices.{HasTheValue, last_notices, notice_of}
use Rattle.gatt_host.specs.RunRefinement.{ServerRefinesRun}
use Rattle.gatt_host.specs.HostModel.{RefinesRun, HostModel}
use Rattle.att_table.specs.Table.{Contents}
use Rattle.gatt_laws.specs.machine.Event.{Event}
use Rattle.gatt_laws.specs.machine.Input.{Run, Item, run}
use Rattle.gatt_laws.specs.machine.Notice.{Notice, Received, noticed, notices_in, notices_of, received_with}
use Rattle.gatt_laws.specs.machine.Packets.{packet_event}
use Rattle.gatt_laws.specs.machine.Start.{Start}
use Rattle.gatt_laws.specs.machine.State.{State}
use Rattle.le_h4.specs.Packet.{Packet}
use Rattle.octet_io.specs.Number.{Octets}

abbrev pub notices_told : HostModel → List Notice
notices_told host = if is_some host.fault then [] else last_notices host.server

abbrev pub received_told : HostModel → List Received
received_told host = map (received_with host.server.table) (notices_told host)

-- A refused call only clears the notices. A host that has stopped has none.
abbrev pub silent_unless : Option HostFault → HostModel → HostModel
silent_unless (Some fault) host = host
silent_unless None host = record host { server = without_notices host.server }

abbrev pub silent : HostModel → HostModel
silent host = silent_unless host.fault host

-- The notices are those of the state machine for an item, unless the host stops at it.
abbrev pub TellsOf : Item → HostModel → HostModel → Type 0
TellsOf item old new =
    (start : Start) (input : List Item) (sent : List Octets) → RefinesRun (run start input) sent old
    → old.fault ≡ None → new.fault ≡ None → notices_told new ≡ notices_of (run start input) item

-- The notices of items are those of the state machine in order; there are none if the host stops.
abbrev pub TellsOfAll : List Item → HostModel → HostModel → Type 0
TellsOfAll items old new =
    (start : Start) (input : List Item) (sent : List Octets) → RefinesRun (run start input) sent old
    → old.fault ≡ None → notices_told new ≡ notices_in (run start input) items

abbrev pub noticed_in : {E : Type 0} → State → Result Event E → List Notice
noticed_in state (Ok event) = noticed state event
noticed_in state (Err fault) = []

abbrev pub TellsOfPacket : Packet → ServerState → IncomingFrames → ServerState → Type 0
TellsOfPacket packet old frames new =
    (run : Run) (sent : List Octets) → ServerRefinesRun run sent old frames
    → last_notices new
    ≡ noticed_in run.intake.state (packet_event run.intake.state run.intake.fragments packet)

-- The notices that are not yet returned, and the table with their values.
pub record Untold : Type 0 where
  pub notices : List Notice
  pub table : Contents

-- The iterator returns the first remaining notice with its value in the table, if there is one.
abbrev pub GivesTheFirst : Untold → Option Lent → Untold → Type 0
GivesTheFirst old None new = (old.notices ≡ []) × (new ≡ old)
GivesTheFirst old (Some notice) new =
    (old.notices ≡ notice_of notice ∷ new.notices) × HasTheValue old.table notice
    × (new.table ≡ old.table)
