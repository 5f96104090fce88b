-- The exchange of packets of host and controller (this profile's own).
use Rattle.std.specs.Prelude.{◌≡◌, ◌⊎◌, ℕ, zero, suc, ◌<◌, ◌≤◌, Bool, true, false, List, [], ◌∷◌, drop, slice_get, Some, None, Result, Ok, Err, IsSome}
use Rattle.std.specs.Option.{option_map}
use Rattle.gatt_host.specs.declared.host_fault.HostFault.{HostFault}
use Rattle.gatt_host.specs.declared.host_fault.HostFault.TheVariants.{Desync}
use Rattle.gatt_host.specs.Numbers.{number_of_fault}
use Rattle.gatt_host.specs.HostModel.{Refines, Takes, HostModel, all_out}
use Rattle.gatt_laws.specs.machine.Input.{APacket}
use Rattle.le_h4.specs.Division.{End, Unfinished, Lost, division}
use Rattle.le_h4.specs.Packet.{Packet}
use Rattle.octet_io.specs.Number.{Octets}
use Rattle.sim_controller.specs.Answers.{after_host, host_fault}
use Rattle.sim_controller.specs.FromHost.{host_packet_of}
use Rattle.sim_controller.specs.SimFault.{sim_fault_number}
use Rattle.sim_controller.specs.Simulated.{Simulated}
use Rattle.sim_controller.specs.Told.{sent_octets, sent_of}
use Rattle.shell_files.specs.declared.fault.ShellFault.{ShellFault}
use Rattle.gatt_commands.specs.declared.exchange.TheConstants.{MAX_EXCHANGED}
use Rattle.gatt_commands.specs.declared.notes.Notes.{Notes}
use Rattle.gatt_commands.specs.Notices.{NotesWhatIsTold}
use Rattle.shell_files.specs.declared.fault.ShellFault.TheVariants.{Host, Controller, TooLong}

-- A host, its controller, and recorded notices.
pub record Pair : Type 0 where
  pub host : HostModel
  pub sim : Simulated
  pub notes : Notes

abbrev pub pair_of : HostModel → Simulated → Notes → Pair
pair_of host sim notes = record { host = host; sim = sim; notes = notes }

-- Neither has a packet to send.
pub record IsQuiet (host : HostModel) (sim : Simulated) : Type 0 where
  pub out : all_out host ≡ true
  pub taken : sim.waiting ≡ []

pub record HostGives (packet : Octets) (old new : HostModel) : Type 0 where
  pub due : all_out old ≡ false
  pub goes : Refines [] (packet ∷ []) old new
  pub going : new.fault ≡ None

-- The controller accepts the packet, or refuses it without a change.
pub record ControllerTakes (packet : Octets) (old new : Simulated) : Type 0 where
  pub accepted : host_fault old (host_packet_of packet) ≡ None
  pub after : new ≡ after_host old (host_packet_of packet)

pub record ControllerRefuses (number : ℕ) (packet : Octets) (old new : Simulated) : Type 0 where
  pub refused : option_map sim_fault_number (host_fault old (host_packet_of packet)) ≡ Some number
  pub unchanged : new ≡ old

-- The first waiting packet is sent.
pub record ControllerGives (packet : Octets) (old new : Simulated) : Type 0 where
  pub first : option_map (λ told. sent_octets (sent_of told)) (slice_get old.waiting 0)
      ≡ Some packet
  pub after : new ≡ record old { waiting = drop 1 old.waiting }

-- The host processes a division's first packet without a fault.
pub record TakesAndGoesOn (packet : Packet) (old new : HostModel) : Type 0 where
  pub takes : Takes (APacket packet) old new
  pub going : new.fault ≡ None

abbrev pub TakesFirst : List Packet → End → HostModel → HostModel → Type 0
TakesFirst (packet ∷ packets) end old new = TakesAndGoesOn packet old new
TakesFirst [] Unfinished old new = new ≡ old
TakesFirst [] (Lost indicator) old new = ⊥

abbrev pub NotesFirst : List Packet → HostModel → Notes → Notes → Type 0
NotesFirst (packet ∷ packets) host old new = NotesWhatIsTold host old new
NotesFirst [] host old new = new ≡ old

-- The host stops at the packet, had stopped before, or loses the stream.
pub record Stops (fault : HostFault) (packet : Packet) (old new : HostModel) : Type 0 where
  pub takes : old.fault ≡ None → Takes (APacket packet) old new
  pub stopped : IsSome old.fault → new ≡ old
  pub fault_then : new.fault ≡ Some fault

pub record LosesTheStream (fault : HostFault) (indicator : ℕ) (old new : HostModel) : Type 0 where
  pub desync : fault ≡ Desync indicator
  pub unchanged : new ≡ old

abbrev pub StopsAtFirst : HostFault → List Packet → End → HostModel → HostModel → Type 0
StopsAtFirst fault (packet ∷ packets) end old new = Stops fault packet old new
StopsAtFirst fault [] Unfinished old new = ⊥
StopsAtFirst fault [] (Lost indicator) old new = LosesTheStream fault indicator old new

-- The host processes the first packet of octets.
abbrev pub HostTakes : Octets → HostModel → HostModel → Type 0
HostTakes octets old new = TakesFirst (division octets).packets (division octets).end old new

abbrev pub NotesTaken : Octets → HostModel → Notes → Notes → Type 0
NotesTaken octets host old new = NotesFirst (division octets).packets host old new

abbrev pub HostStops : HostFault → Octets → HostModel → HostModel → Type 0
HostStops fault octets old new =
    StopsAtFirst fault (division octets).packets (division octets).end old new

abbrev pub HostHears : Octets → Result (Unit {0}) HostFault → HostModel → HostModel → Type 0
HostHears octets (Ok done) old new = HostTakes octets old new
HostHears octets (Err fault) old new = HostStops fault octets old new

pub record StopsForNumber (number : ℕ) (packet : Octets) (old new : HostModel) : Type 0 where
  pub fault : HostFault
  pub numbered : number ≡ number_of_fault fault
  pub stops : HostStops fault packet old new

abbrev pub ControllerAnswers : Octets → Result (Unit {0}) ShellFault → Simulated → Simulated
    → Type 0
ControllerAnswers packet (Ok done) old new = ControllerTakes packet old new
ControllerAnswers packet (Err (Controller number)) old new = ControllerRefuses number packet old new
ControllerAnswers packet (Err fault) old new = ⊥

abbrev pub HostAnswers : Octets → Result (Unit {0}) ShellFault → HostModel → HostModel → Type 0
HostAnswers packet (Ok done) old new = HostTakes packet old new
HostAnswers packet (Err (Host number)) old new = StopsForNumber number packet old new
HostAnswers packet (Err fault) old new = ⊥

-- A packet of the host is handed over, or else one of the controller.
pub record GoesOut (before after : Pair) : Type 0 where
  pub packet : Octets
  pub gives : HostGives packet before.host after.host
  pub takes : ControllerTakes packet before.sim after.sim
  pub same : after.notes ≡ before.notes

pub record GoesIn (before after : Pair) : Type 0 where
  pub packet : Octets
  pub out : all_out before.host ≡ true
  pub gives : ControllerGives packet before.sim after.sim
  pub takes : HostTakes packet before.host after.host
  pub noted : NotesTaken packet after.host before.notes after.notes

abbrev pub HandsOver : Pair → Pair → Type 0
HandsOver before after = GoesOut before after ⊎ GoesIn before after

-- The packet is refused, or the host stops at it.
pub record IsRefused (number : ℕ) (before after : Pair) : Type 0 where
  pub packet : Octets
  pub gives : HostGives packet before.host after.host
  pub refuses : ControllerRefuses number packet before.sim after.sim

pub record IsStopped (number : ℕ) (before after : Pair) : Type 0 where
  pub packet : Octets
  pub out : all_out before.host ≡ true
  pub gives : ControllerGives packet before.sim after.sim
  pub stops : StopsForNumber number packet before.host after.host

abbrev pub Exchanges : ℕ → Pair → Pair → Type 0
Exchanges zero before after = after ≡ before
Exchanges (suc count) before after =
    (middle : Pair) × HandsOver before middle × Exchanges count middle after

-- Packets are handed over until neither side has another one.
pub record ExchangesAll (before after : Pair) : Type 0 where
  pub count : ℕ
  pub most : count ≤ MAX_EXCHANGED
  pub exchanges : Exchanges count before after
  pub quiet : IsQuiet after.host after.sim

-- The largest number is handed over, and another packet exists.
pub record ExchangesTooMany (before : Pair) (host : HostModel) : Type 0 where
  pub last : Pair
  pub exchanges : Exchanges MAX_EXCHANGED before last
  pub more : IsQuiet last.host last.sim → ⊥
  pub host_then : host ≡ last.host

-- A packet ends the exchange early.
pub record EndsBy (Ends : Pair → Pair → Type 0) (before after : Pair) : Type 0 where
  pub count : ℕ
  pub fewer : count < MAX_EXCHANGED
  pub last : Pair
  pub exchanges : Exchanges count before last
  pub ends : Ends last after

-- The next packet is handed over, missing or refused.
abbrev pub HandsNext : Result Bool ShellFault → Pair → Pair → Type 0
HandsNext (Ok true) before after = HandsOver before after
HandsNext (Ok false) before after = IsQuiet before.host before.sim × (after ≡ before)
HandsNext (Err (Host number)) before after = IsStopped number before after
HandsNext (Err (Controller number)) before after = IsRefused number before after
HandsNext (Err fault) before after = ⊥

abbrev pub ExchangesUntil : Result (Unit {0}) ShellFault → Pair → Pair → Type 0
ExchangesUntil (Ok done) before after = ExchangesAll before after
ExchangesUntil (Err (Host number)) before after = EndsBy (IsStopped number) before after
ExchangesUntil (Err (Controller number)) before after = EndsBy (IsRefused number) before after
ExchangesUntil (Err TooLong) before after = ExchangesTooMany before after.host
ExchangesUntil (Err fault) before after = ⊥
