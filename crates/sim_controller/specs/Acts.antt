-- The effects of acts of clients (this profile's own).
use Rattle.std.specs.Prelude.{ℕ, Bool, true, false, ◌&&◌, not, if◌then◌else◌, List, [], ◌∷◌, find, Option, Some, None, Result}
use Rattle.std.specs.Option.{option_map}
use Rattle.octet_io.specs.Number.{Octets}
use Rattle.le_hci.specs.declared.peer.Peer.{Peer}
use Rattle.le_acl.specs.Packets.{frame_octets}
use Rattle.sim_controller.specs.declared.act.PhoneAct.{PhoneAct}
use Rattle.sim_controller.specs.declared.act.PhoneAct.TheVariants as variant
use Rattle.sim_controller.specs.declared.config.SimConfig.{SimConfig}
use Rattle.sim_controller.specs.declared.fault.SimFault.{SimFault}
use Rattle.sim_controller.specs.declared.fault.SimFault.TheVariants.{NotHere, AlreadyHere, NotAdvertising, Full, BadPacket, OutOfMemory}
use Rattle.le_hci.specs.declared.reason.TheConstants.{REMOTE_USER_TERMINATED}
use Rattle.sim_controller.specs.declared.told.Told.{Told}
use Rattle.sim_controller.specs.declared.told.Told.TheVariants as told
use Rattle.sim_controller.specs.Frames.{told_frame}
use Rattle.sim_controller.specs.Phone.{new_link, held_link}
use Rattle.sim_controller.specs.Simulated.{Simulated, phone_at, is_here, with_phone, with_told, is_too_much, IsDone}

pub data SimulatedAct : Type 0 where
  Connect : (phone : ℕ) (peer : Peer) → SimulatedAct
  Drop : (phone : ℕ) → SimulatedAct
  Encrypt : (phone : ℕ) (random_number : Octets) (diversifier : ℕ) → SimulatedAct
  Clear : (phone : ℕ) → SimulatedAct
  Send : (phone channel : ℕ) (payload : Octets) → SimulatedAct
  Hold : (phone : ℕ) → SimulatedAct
  Done : (phone packets : ℕ) → SimulatedAct

abbrev pub act_of : PhoneAct → SimulatedAct
act_of (variant.Connect phone peer) = Connect phone peer
act_of (variant.Drop phone) = Drop phone
act_of (variant.Encrypt phone random_number diversifier) = Encrypt phone random_number diversifier
act_of (variant.Clear phone) = Clear phone
act_of (variant.Send phone channel payload) = Send phone channel payload.now
act_of (variant.Hold phone) = Hold phone
act_of (variant.Done phone packets) = Done phone packets

abbrev pub phone_in : SimulatedAct → ℕ
phone_in (Connect phone peer) = phone
phone_in (Drop phone) = phone
phone_in (Encrypt phone random_number diversifier) = phone
phone_in (Clear phone) = phone
phone_in (Send phone channel payload) = phone
phone_in (Hold phone) = phone
phone_in (Done phone packets) = phone

abbrev pub payload_in : SimulatedAct → Octets
payload_in (Send phone channel payload) = payload
payload_in _ = []

-- The packets to the host that an act causes.
abbrev pub told_of_act : SimConfig → SimulatedAct → List Told
told_of_act config (Connect phone peer) = told.ConnectionComplete phone peer ∷ []
told_of_act config (Drop phone) = told.DisconnectionComplete phone REMOTE_USER_TERMINATED ∷ []
told_of_act config (Encrypt phone random_number diversifier) =
    told.LongTermKeyRequest phone random_number diversifier ∷ []
told_of_act config (Clear phone) = told.EncryptionChange phone 0x00 ∷ []
told_of_act config (Send phone channel payload) =
    told_frame phone config.cut (frame_octets (channel, payload))
told_of_act config (Hold phone) = []
told_of_act config (Done phone packets) = told.CompletedPackets phone packets ∷ []

abbrev pub is_connect : SimulatedAct → Bool
is_connect (Connect phone peer) = true
is_connect _ = false

-- The faults of an act, in order.
abbrev pub act_faults : List SimFault
act_faults = NotHere ∷ AlreadyHere ∷ NotAdvertising ∷ Full ∷ []

abbrev pub act_breaks : Simulated → SimulatedAct → SimFault → Bool
act_breaks old act NotHere = not (is_connect act) && not (is_here old (phone_in act))
act_breaks old act AlreadyHere = is_connect act && is_here old (phone_in act)
act_breaks old act NotAdvertising = is_connect act && not old.advertising
act_breaks old act Full = is_too_much old (told_of_act old.config act)
act_breaks old act BadPacket = false
act_breaks old act OutOfMemory = false

abbrev pub act_fault : Simulated → SimulatedAct → Option SimFault
act_fault old act = find (act_breaks old act) act_faults

abbrev pub telling_fault : Simulated → ℕ → List Told → Option SimFault
telling_fault old phone packets =
    if not (is_here old phone) then Some NotHere else if is_too_much old packets then Some Full
    else None

abbrev pub simulated_after_doing : Simulated → SimulatedAct → Simulated
simulated_after_doing old (Connect phone peer) =
    record (with_phone old phone (record (phone_at old phone) { link = Some new_link }))
    { advertising = false }
simulated_after_doing old (Drop phone) =
    with_phone old phone (record (phone_at old phone) { link = None })
simulated_after_doing old (Hold phone) =
    with_phone old phone
    (record (phone_at old phone) { link = option_map held_link (phone_at old phone).link })
simulated_after_doing old _ = old

abbrev pub simulated_after_act : Simulated → SimulatedAct → Simulated
simulated_after_act old act = with_told (simulated_after_doing old act) (told_of_act old.config act)

abbrev pub DoesAct : SimulatedAct → Simulated → Simulated → Result (Unit {0}) SimFault → Type 0
DoesAct act old new result = IsDone (act_fault old act) (simulated_after_act old act) old new result
