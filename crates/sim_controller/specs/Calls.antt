-- The packets from a controller to its host, whatever the calls (this profile's own).
use Rattle.std.specs.Prelude.{◌≡◌, ℕ, ◌<◌, List, [], ◌∷◌, ◌++◌, length, take, drop, All, ⊤, Option, Some, None, Ok}
use Rattle.octet_io.specs.Number.{Octets}
use Rattle.le_h4.specs.Packet.{FirstPacket, first_of}
use Rattle.le_hci.specs.Event.{event_of}
use Rattle.le_hci.specs.EventPacket.{event_packet, event_code, fields_of}
use Rattle.sim_controller.specs.declared.config.SimConfig.{SimConfig}
use Rattle.sim_controller.specs.declared.fault.SimFault.{SimFault}
use Rattle.sim_controller.specs.declared.handle.TheConstants.{PHONES}
use Rattle.sim_controller.specs.declared.told.Told.{Told}
use Rattle.sim_controller.specs.Acts.{SimulatedAct, Connect, Drop, Encrypt, Clear, Send, Hold, Done, told_of_act, act_fault, simulated_after_act}
use Rattle.sim_controller.specs.Answers.{phone_here, answers, completions_for, host_fault, after_host}
use Rattle.sim_controller.specs.FromHost.{Taken, Command, Data, host_packet_of}
use Rattle.sim_controller.specs.Phone.{phone_after_hearing, after_telling}
use Rattle.sim_controller.specs.Simulated.{Simulated, simulated_at_start, phone_at, with_phone}
use Rattle.sim_controller.specs.Told as packets
use Rattle.sim_controller.specs.Told.{Sent, sent_of, sent_octets, sent_packet}

-- A call: an act, a packet of the host, or a request for a packet, a frame of a client, or the
-- reason of its disconnection.
pub data SimulatedCall : Type 0 where
  Acts : (act : SimulatedAct) → SimulatedCall
  Takes : (octets : Octets) → SimulatedCall
  Gives : SimulatedCall
  Hears : (phone : ℕ) → SimulatedCall
  Tells : (phone : ℕ) → SimulatedCall

abbrev pub if_accepted : {X : Type 0} → Option SimFault → X → X → X
if_accepted None accepted refused = accepted
if_accepted (Some fault) accepted refused = refused

abbrev pub after_call : Simulated → SimulatedCall → Simulated
after_call old (Acts act) = if_accepted (act_fault old act) (simulated_after_act old act) old
after_call old (Takes octets) =
    if_accepted (host_fault old (host_packet_of octets)) (after_host old (host_packet_of octets))
    old
after_call old Gives = record old { waiting = drop 1 old.waiting }
after_call old (Hears phone) = with_phone old phone (phone_after_hearing (phone_at old phone))
after_call old (Tells phone) = with_phone old phone (after_telling (phone_at old phone))

-- The state after calls, of which the newest is first.
abbrev pub after_calls : SimConfig → List SimulatedCall → Simulated
after_calls config [] = simulated_at_start config
after_calls config (call ∷ earlier) = after_call (after_calls config earlier) call

abbrev pub told_of_data : Simulated → Option ℕ → List Told
told_of_data old None = []
told_of_data old (Some phone) = completions_for old phone

abbrev pub told_of_host : Simulated → Option Taken → List Told
told_of_host old None = []
told_of_host old (Some (Command asked)) = answers old asked
told_of_host old (Some (Data handle fragment)) = told_of_data old (phone_here old.phones handle)

-- The packets that a call causes, and those that it returns.
abbrev pub told_by : Simulated → SimulatedCall → List Told
told_by old (Acts act) = if_accepted (act_fault old act) (told_of_act old.config act) []
told_by old (Takes octets) =
    if_accepted (host_fault old (host_packet_of octets)) (told_of_host old (host_packet_of octets))
    []
told_by old Gives = []
told_by old (Hears phone) = []
told_by old (Tells phone) = []

abbrev pub given_by_call : Simulated → SimulatedCall → List Told
given_by_call old (Acts act) = []
given_by_call old (Takes octets) = []
given_by_call old Gives = take 1 old.waiting
given_by_call old (Hears phone) = []
given_by_call old (Tells phone) = []

abbrev pub told_in_calls : SimConfig → List SimulatedCall → List Told
told_in_calls config [] = []
told_in_calls config (call ∷ earlier) =
    told_in_calls config earlier ++ told_by (after_calls config earlier) call

abbrev pub given_in_calls : SimConfig → List SimulatedCall → List Told
given_in_calls config [] = []
given_in_calls config (call ∷ earlier) =
    given_in_calls config earlier ++ given_by_call (after_calls config earlier) call

-- The packets returned and queued are those of acts and responses, in order.
abbrev pub GivesInOrder : SimConfig → Type 0
GivesInOrder config =
    (calls : List SimulatedCall) → given_in_calls config calls ++ (after_calls config calls).waiting
    ≡ told_in_calls config calls

-- The address has 6 octets, and the random number 8.
abbrev pub IsFit : SimulatedAct → Type 0
IsFit (Connect phone peer) = (phone < PHONES) × (length peer.address ≡ 6)
IsFit (Encrypt phone random_number diversifier) = (phone < PHONES) × (length random_number ≡ 8)
IsFit (Drop phone) = phone < PHONES
IsFit (Clear phone) = phone < PHONES
IsFit (Send phone channel payload) = phone < PHONES
IsFit (Hold phone) = phone < PHONES
IsFit (Done phone packets) = phone < PHONES

abbrev pub IsFitCall : SimulatedCall → Type 0
IsFitCall (Acts act) = IsFit act
IsFitCall _ = ⊤

-- The packet is read whole, and an event as itself.
abbrev pub ReportsItself : Sent → Type 0
ReportsItself (packets.Event report) =
    event_of (event_packet (event_code report) (fields_of report)) ≡ Ok report
ReportsItself (packets.Data handle boundary octets) = ⊤

pub record IsReadWhole (told : Told) : Type 0 where
  pub first : first_of (sent_octets (sent_of told)) ≡ FirstPacket (sent_packet (sent_of told)) []
  pub event : ReportsItself (sent_of told)

abbrev pub TellsWhatIsRead : Type 0
TellsWhatIsRead =
    (old : Simulated) (call : SimulatedCall) → IsFitCall call → All IsReadWhole (told_by old call)
