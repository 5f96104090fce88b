-- The responses of a controller to packets of the host (Core 5.0, Vol 2 Part E, 7, and Vol 3 Part
-- A, 7.2).
use Rattle.std.specs.Prelude.{ℕ, ◌||◌, if◌then◌else◌, List, [], ◌∷◌, ◌++◌, slice_index_or, is_some, Option, Some, None, Result}
use Rattle.std.specs.Option.{option_map, option_and_then, option_to_list}
use Rattle.octet_io.specs.Number.{Octets, two_octets}
use Rattle.le_hci.specs.declared.opcode.TheConstants as opcode
use Rattle.le_acl.specs.Fragment.{Fragment}
use Rattle.sim_controller.specs.declared.command.Asked.{Asked}
use Rattle.sim_controller.specs.declared.command.Asked.TheVariants.{Status, ReadBufferSize, LeReadBufferSize, Advertise, Disconnect, GiveKey, RefuseKey}
use Rattle.sim_controller.specs.declared.config.SimConfig.{SimConfig}
use Rattle.sim_controller.specs.declared.fault.SimFault.{SimFault}
use Rattle.sim_controller.specs.declared.fault.SimFault.TheVariants.{Full, BadPacket}
use Rattle.le_hci.specs.declared.reason.TheConstants.{LOCAL_HOST_TERMINATED}
use Rattle.sim_controller.specs.declared.told.Told.{Told}
use Rattle.sim_controller.specs.declared.told.Told.TheVariants as told
use Rattle.sim_controller.specs.FromHost.{Taken, Command, Data}
use Rattle.sim_controller.specs.Phone.{Phone, absent_phone, assembled_in, with_assembly, hears_too_much, is_held}
use Rattle.sim_controller.specs.Phones.{phone_with}
use Rattle.sim_controller.specs.Simulated.{Simulated, phone_at, with_phone, with_told, is_too_much, IsDone}

abbrev pub here_or_none : List Phone → ℕ → Option ℕ
here_or_none phones phone =
    if is_some (slice_index_or phones phone absent_phone).link then Some phone else None

abbrev pub phone_here : List Phone → ℕ → Option ℕ
phone_here phones handle = option_and_then (here_or_none phones) (phone_with handle)

-- A Command Complete with the status of success.
abbrev pub completion : ℕ → Octets → Told
completion code returned = told.CommandComplete code (record { items = 0x00 ∷ returned })

-- The buffers of LE connections, none if shared (7.8.2).
abbrev pub le_buffers : SimConfig → Octets
le_buffers config =
    if config.shared then two_octets 0 ++ 0 ∷ [] else two_octets config.acl_len ++ config.packets
    ∷ []

-- The buffers of all transports, none of them for SCO data (7.4.5).
abbrev pub all_buffers : SimConfig → Octets
all_buffers config = two_octets config.acl_len ++ 0 ∷ two_octets config.packets ++ two_octets 0

abbrev pub answer_to_command : SimConfig → Asked → Told
answer_to_command config (Status code) = completion code []
answer_to_command config ReadBufferSize = completion opcode.READ_BUFFER_SIZE (all_buffers config)
answer_to_command config LeReadBufferSize =
    completion opcode.LE_READ_BUFFER_SIZE (le_buffers config)
answer_to_command config (Advertise enable) = completion opcode.LE_SET_ADVERTISE_ENABLE []
answer_to_command config (Disconnect handle reason) = told.CommandStatus opcode.DISCONNECT
answer_to_command config (GiveKey handle) =
    completion opcode.LE_LONG_TERM_KEY_REQUEST_REPLY (two_octets handle)
answer_to_command config (RefuseKey handle) =
    completion opcode.LE_LONG_TERM_KEY_REQUEST_NEGATIVE_REPLY (two_octets handle)

abbrev pub end_by_host : ℕ → Told
end_by_host phone = told.DisconnectionComplete phone LOCAL_HOST_TERMINATED

-- Any key is accepted as the client's.
abbrev pub encryption_on : ℕ → Told
encryption_on phone = told.EncryptionChange phone 0x01

-- The events after the response, if the client is connected.
abbrev pub events_after : List Phone → Asked → List Told
events_after phones (Disconnect handle reason) =
    option_to_list (option_map end_by_host (phone_here phones handle))
events_after phones (GiveKey handle) =
    option_to_list (option_map encryption_on (phone_here phones handle))
events_after phones _ = []

abbrev pub answers : Simulated → Asked → List Told
answers old asked = answer_to_command old.config asked ∷ events_after old.phones asked

abbrev pub with_end : Simulated → Option ℕ → ℕ → Simulated
with_end old None reason = old
with_end old (Some phone) reason =
    with_phone old phone (record (phone_at old phone) { link = None; ended = Some reason })

abbrev pub simulated_after_answer : Simulated → Asked → Simulated
simulated_after_answer old (Advertise enable) = record old { advertising = enable }
simulated_after_answer old (Disconnect handle reason) =
    with_end old (phone_here old.phones handle) reason
simulated_after_answer old _ = old

abbrev pub command_fault : Simulated → Asked → Option SimFault
command_fault old asked = if is_too_much old (answers old asked) then Some Full else None

abbrev pub after_command : Simulated → Asked → Simulated
after_command old asked = with_told (simulated_after_answer old asked) (answers old asked)

abbrev pub AnswersCommand : Asked → Simulated → Simulated → Result (Unit {0}) SimFault → Type 0
AnswersCommand asked old new result =
    IsDone (command_fault old asked) (after_command old asked) old new result

abbrev pub TellsAnswer : Asked → Simulated → Simulated → Result (Unit {0}) SimFault → Type 0
TellsAnswer asked old new result =
    let answer : List Told = answer_to_command old.config asked ∷ [] in
    IsDone (if is_too_much old answer then Some Full else None) (with_told old answer) old new
    result

-- A packet for a client is completed, unless its packets are held.
abbrev pub completions_for : Simulated → ℕ → List Told
completions_for old phone =
    if is_held (phone_at old phone).link then [] else told.CompletedPackets phone 1 ∷ []

abbrev pub completion_fault : Simulated → ℕ → Option SimFault
completion_fault old phone = if is_too_much old (completions_for old phone) then Some Full else None

-- Data for a client that is not connected are dropped, and not completed.
abbrev pub data_fault : Simulated → Option ℕ → Fragment → Option SimFault
data_fault old None fragment = None
data_fault old (Some phone) fragment =
    if hears_too_much (phone_at old phone) (assembled_in (phone_at old phone).link fragment)
    || is_too_much old (completions_for old phone)
    then Some Full else None

abbrev pub after_data : Simulated → Option ℕ → Fragment → Simulated
after_data old None fragment = old
after_data old (Some phone) fragment =
    with_told
    (with_phone old phone
    (with_assembly (phone_at old phone) (assembled_in (phone_at old phone).link fragment)))
    (completions_for old phone)

abbrev pub host_fault : Simulated → Option Taken → Option SimFault
host_fault old None = Some BadPacket
host_fault old (Some (Command asked)) = command_fault old asked
host_fault old (Some (Data handle fragment)) =
    data_fault old (phone_here old.phones handle) fragment

abbrev pub after_host : Simulated → Option Taken → Simulated
after_host old None = old
after_host old (Some (Command asked)) = after_command old asked
after_host old (Some (Data handle fragment)) =
    after_data old (phone_here old.phones handle) fragment
