-- A host as one value, and its place in a run.
use Rattle.std.specs.Prelude.{◌≡◌, is_some, Bool, true, false, ◌||◌, List, [], ◌∷◌, ◌++◌, Option, Some, None, Result, Ok, Err}
use Rattle.att_table.specs.ConfigRow.{IsRowOf}
use Rattle.gatt_host.specs.Answers.{told_fault}
use Rattle.gatt_host.specs.declared.host_fault.HostFault.{HostFault}
use Rattle.gatt_host.specs.declared.host_fault.HostFault.TheVariants as stop
use Rattle.gatt_host.specs.GoingOut.{is_drained}
use Rattle.gatt_host.specs.ServerState.{ServerState, open_slots}
use Rattle.gatt_host.specs.Meaning.{IncomingFrames}
use Rattle.gatt_host.specs.RunRefinement.{ServerRefinesRun}
use Rattle.gatt_laws.specs.machine.Input.{Item, Run, after_packet, run}
use Rattle.gatt_laws.specs.machine.Packets.{Fault}
use Rattle.gatt_laws.specs.machine.Start.{Start}
use Rattle.le_h4.specs.Deframer.{Deframing, still}
use Rattle.le_h4.specs.Division.{division}
use Rattle.le_h4.specs.Packet.{Packet}
use Rattle.le_hci.specs.declared.peer.Peer.{Peer}
use Rattle.octet_io.specs.Number.{Octets}

-- The host's state, incoming frames and stream, and the fault that stopped it, if any.
pub record HostModel : Type 0 where
  pub server : ServerState
  pub frames : IncomingFrames
  pub stream : Deframing
  pub fault : Option HostFault

abbrev pub going : ServerState → IncomingFrames → Deframing → HostModel
going server frames stream =
    record { server = server; frames = frames; stream = stream; fault = None }

-- No output is pending, or the host has stopped.
abbrev pub all_out : HostModel → Bool
all_out host = is_some host.fault || is_drained host.server.controller (open_slots host.server)

abbrev pub fault_outcome : Option HostFault → Result Unit HostFault
fault_outcome None = Ok tt
fault_outcome (Some fault) = Err fault

abbrev pub write_outcome : Bool → Result Unit HostFault
write_outcome true = Ok tt
write_outcome false = Err stop.Write

-- The host has the fault of its run, or one of its own: of its reader, writer or turns.
abbrev pub is_own_fault : HostFault → Bool
is_own_fault stop.Read = true
is_own_fault stop.Write = true
is_own_fault stop.Turns = true
is_own_fault fault = false

abbrev pub SameFault : Option Fault → Option HostFault → Type 0
SameFault None None = Unit
SameFault None (Some fault) = is_own_fault fault ≡ true
SameFault (Some why) None = ⊥
SameFault (Some why) (Some fault) = told_fault why ≡ fault

-- A packet leads the host on in its run, or stops it for the same fault.
pub record RefinesRunWithFault (run : Run) (sent : List Octets) (server : ServerState)
    (frames : IncomingFrames) (fault : Option HostFault) : Type 0 where
  pub refines : ServerRefinesRun run sent server frames
  pub same : SameFault run.intake.fault fault

abbrev pub RefinesPacket : Packet → ServerState → IncomingFrames → ServerState → IncomingFrames
    → Option HostFault
    → Type 0
RefinesPacket packet old frames new after fault =
    (run : Run) (sent : List Octets) → run.intake.fault ≡ None
    → ServerRefinesRun run sent old frames
    → RefinesRunWithFault (after_packet run packet) sent new after fault

-- The stream continues as the unfinished octets of the run do.
abbrev pub HoldsStream : Run → Deframing → Type 0
HoldsStream run stream =
    run.intake.fault ≡ None → (rest : Octets)
    → still stream rest ≡ division (run.intake.unfinished ++ rest)

-- The host is in a run of which these packets have been sent.
pub record RefinesRun (run : Run) (sent : List Octets) (host : HostModel) : Type 0 where
  pub refines : ServerRefinesRun run sent host.server host.frames
  pub same : SameFault run.intake.fault host.fault
  pub stream : HoldsStream run host.stream

-- The host processes these items and sends these packets, in any run.
abbrev pub Refines : List Item → List Octets → HostModel → HostModel → Type 0
Refines items packets old new =
    (start : Start) (input : List Item) (sent : List Octets) → RefinesRun (run start input) sent old
    → RefinesRun (run start (input ++ items)) (sent ++ packets) new

abbrev pub Takes : Item → HostModel → HostModel → Type 0
Takes item old new = Refines (item ∷ []) [] old new

abbrev pub HasRowsOfTheStart : Start → Type 0
HasRowsOfTheStart start = (peer : Peer) → IsRowOf start.table.attributes (start.bonds peer)

pub record IsReached (host : HostModel) : Type 0 where
  pub start : Start
  pub rows : HasRowsOfTheStart start
  pub input : List Item
  pub sent : List Octets
  pub refines : RefinesRun (run start input) sent host

-- Some host that has not stopped has this state.
abbrev pub IsStateOfOne : ServerState → Type 0
IsStateOfOne server =
    (frames : IncomingFrames) × (stream : Deframing) × IsReached (going server frames stream)
