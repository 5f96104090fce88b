-- The place of a host in a run: its state, and the output sent so far.
use Rattle.std.specs.Prelude.{◌≡◌, ℕ, ◌-◌, ◌^◌, ◌≤◌, min, List, [], ◌++◌, length, get_or, slice_get, Some, Err}
use Rattle.gatt_host.specs.Answers.{told_fault}
use Rattle.gatt_host.specs.declared.host_fault.HostFault.{HostFault}
use Rattle.gatt_host.specs.ServerState.{ServerState}
use Rattle.gatt_host.specs.Meaning.{IncomingFrames, IsOfItsTable, once_heard}
use Rattle.gatt_host.specs.Packet.{packet_stop}
use Rattle.gatt_host.specs.StateRefinement.{RefinesState, IsSound}
use Rattle.gatt_laws.specs.machine.Event.{Ordinal}
use Rattle.gatt_laws.specs.machine.Input.{Run}
use Rattle.gatt_laws.specs.machine.Packets.{Fault, Fragments, Heard, packet_event}
use Rattle.gatt_laws.specs.laws.RowsOfTheTable.{HasRowsOfItsTable}
use Rattle.gatt_laws.specs.laws.WaitingOfTheTable.{HasWaitingOfItsTable}
use Rattle.gatt_laws.specs.machine.State.{State}
use Rattle.host_connections.specs.Arrivals.{counted_on}
use Rattle.host_connections.specs.declared.arrivals.Arrivals.{Arrivals}
use Rattle.le_acl.specs.Reassembler.{assembly_after, no_assembly}
use Rattle.le_h4.specs.Packet.{Packet}
use Rattle.octet_io.specs.Number.{Octets}

-- The host counts accepted connections up to 2^64 - 1.
abbrev pub accepted_before : Ordinal → ℕ
accepted_before next = min next (2 ^ 64 - 1)

-- The host's ordinals are those of the state, counted from 1, and its number of accepted
-- connections agrees.
pub record AreNumbered (state : State) (arrivals : Arrivals) : Type 0 where
  pub there : (place : ℕ) (ordinal : Ordinal) → slice_get state.slots place ≡ Some (Some ordinal)
      → get_or arrivals.ordinals place 0 ≡ counted_on ordinal
  pub accepted : arrivals.accepted ≡ accepted_before state.next
  pub enough : state.shared.slots ≤ length arrivals.ordinals

-- The host has the time of the last packet of each connection.
pub record HasTimes (state : State) (heard : Heard) (times : List ℕ) : Type 0 where
  pub there : (place : ℕ) (ordinal : Ordinal) → slice_get state.slots place ≡ Some (Some ordinal)
      → get_or times place 0 ≡ heard ordinal
  pub enough : state.shared.slots ≤ length times

-- The frame of each slot is assembled from its connection's fragments; a future connection has
-- none. Each slot that may be opened has a frame.
pub record IsPutTogether (state : State) (fragments : Fragments) (heard : Heard)
    (frames : IncomingFrames) : Type 0 where
  pub there : (place : ℕ) (ordinal : Ordinal) → slice_get state.slots place ≡ Some (Some ordinal)
      → get_or frames.assembled place no_assembly ≡ once_heard (assembly_after (fragments ordinal))
  pub fresh : (ordinal : Ordinal) → state.next ≤ ordinal → fragments ordinal ≡ []
  pub enough : state.shared.slots ≤ length frames.assembled
  pub numbered : AreNumbered state frames.arrivals
  pub timed : HasTimes state heard frames.arrivals.heard

-- These packets have been sent, and the rest of the run's output is pending.
pub record ServerRefinesRun (run : Run) (sent : List Octets) (server : ServerState)
    (frames : IncomingFrames) : Type 0 where
  pub owed : List Octets
  pub all : run.sent ≡ sent ++ owed
  pub sound : IsSound run.intake.state
  pub refines : RefinesState run.intake.state owed server
  pub together : IsPutTogether run.intake.state run.intake.fragments run.intake.heard frames

-- All output of the run has been sent.
pub record IsDrainedIn (run : Run) (server : ServerState) (frames : IncomingFrames) : Type 0 where
  pub sound : IsSound run.intake.state
  pub refines : RefinesState run.intake.state [] server
  pub together : IsPutTogether run.intake.state run.intake.fragments run.intake.heard frames

-- A drained host stops when the run does, for the same fault.
pub record StopsForFault (result : Fault) (fault : HostFault) : Type 0 where
  pub same : told_fault result ≡ fault

abbrev pub PacketStops : Type 0
PacketStops =
    (run : Run) (server : ServerState) (frames : IncomingFrames) (packet : Packet)
    (fault : HostFault)
    → IsDrainedIn run server frames
    → packet_stop packet server ≡ Some fault
    → (why : Fault) × (packet_event run.intake.state run.intake.fragments packet ≡ Err why)
    × StopsForFault why fault

-- The host's rows and pending indications are of its table if those of the state are.
abbrev pub HoldsWhatIsOfItsTable : Type 0
HoldsWhatIsOfItsTable =
    (run : Run) (server : ServerState) (frames : IncomingFrames) → IsDrainedIn run server frames
    → HasRowsOfItsTable run.intake.state → HasWaitingOfItsTable run.intake.state
    → IsOfItsTable server
