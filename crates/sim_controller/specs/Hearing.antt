-- The frames that a client receives, for any calls (this profile's own, by Core 5.0, Vol 3 Part
-- A, 7.2.1).
use Rattle.std.specs.Prelude.{◌≡◌, ℕ, ◌<◌, ◌==◌, if◌then◌else◌, Bool, false, List, [], ◌∷◌, ◌++◌, take, Option, Some, None}
use Rattle.std.specs.Option.{option_to_list}
use Rattle.octet_io.specs.Number.{Octets}
use Rattle.le_acl.specs.Fragment.{Fragment}
use Rattle.le_acl.specs.Frame.{frame_at}
use Rattle.sim_controller.specs.declared.config.SimConfig.{SimConfig}
use Rattle.sim_controller.specs.declared.handle.TheConstants.{PHONES}
use Rattle.sim_controller.specs.Acts.{SimulatedAct, Connect, act_fault}
use Rattle.sim_controller.specs.Answers.{phone_here, host_fault}
use Rattle.sim_controller.specs.Calls.{SimulatedCall, Acts, Takes, Gives, Hears, Tells, if_accepted, after_calls}
use Rattle.sim_controller.specs.FromHost.{Taken, Command, Data, host_packet_of}
use Rattle.sim_controller.specs.Simulated.{Simulated, phone_at}

abbrev pub fragment_to : ℕ → Fragment → Option ℕ → Option Fragment
fragment_to phone fragment None = None
fragment_to phone fragment (Some other) = if other == phone then Some fragment else None

abbrev pub fragment_in : Simulated → ℕ → Option Taken → Option Fragment
fragment_in old phone None = None
fragment_in old phone (Some (Command asked)) = None
fragment_in old phone (Some (Data handle fragment)) =
    fragment_to phone fragment (phone_here old.phones handle)

-- The fragment for a client in a call.
abbrev pub handed_by : Simulated → ℕ → SimulatedCall → Option Fragment
handed_by old phone (Acts act) = None
handed_by old phone (Takes octets) =
    if_accepted (host_fault old (host_packet_of octets))
    (fragment_in old phone (host_packet_of octets)) None
handed_by old phone Gives = None
handed_by old phone (Hears other) = None
handed_by old phone (Tells other) = None

abbrev pub is_connect_of : ℕ → SimulatedAct → Bool
is_connect_of phone (Connect other peer) = other == phone
is_connect_of phone _ = false

abbrev pub connects : Simulated → ℕ → SimulatedCall → Bool
connects old phone (Acts act) = if_accepted (act_fault old act) (is_connect_of phone act) false
connects old phone _ = false

-- The fragments for a client since it connected, newest first.
abbrev pub fragments_for : SimConfig → ℕ → List SimulatedCall → List Fragment
fragments_for config phone [] = []
fragments_for config phone (call ∷ earlier) =
    if connects (after_calls config earlier) phone call then []
    else option_to_list (handed_by (after_calls config earlier) phone call)
    ++ fragments_for config phone earlier

-- The frames made of the fragments for a client.
abbrev pub frames_by : Option Fragment → List Fragment → List Octets
frames_by None older = []
frames_by (Some fragment) older = option_to_list (frame_at (fragment ∷ older))

abbrev pub frames_for : SimConfig → ℕ → List SimulatedCall → List Octets
frames_for config phone [] = []
frames_for config phone (call ∷ earlier) =
    frames_for config phone earlier ++ frames_by (handed_by (after_calls config earlier) phone call)
    (fragments_for config phone earlier)

abbrev pub frames_heard_by : Simulated → ℕ → SimulatedCall → List Octets
frames_heard_by old phone (Hears other) =
    if other == phone then take 1 (phone_at old phone).heard else []
frames_heard_by old phone _ = []

abbrev pub frames_heard_in : SimConfig → ℕ → List SimulatedCall → List Octets
frames_heard_in config phone [] = []
frames_heard_in config phone (call ∷ earlier) =
    frames_heard_in config phone earlier ++ frames_heard_by (after_calls config earlier) phone call

-- The frames that a client received, and those queued, are those of the host's data, in order.
abbrev pub HearsItsFrames : SimConfig → Type 0
HearsItsFrames config = (phone : ℕ) (calls : List SimulatedCall) → phone < PHONES
    → frames_heard_in config phone calls ++ (phone_at (after_calls config calls) phone).heard
    ≡ frames_for config phone calls
