-- What a controller tells its host is read whole by the transport, and an event as what it reports.
use Rattle.std.proofs.Common.{◌≡◌, ℕ, ◌+◌, ◌-◌, ◌*◌, ◌/◌, ◌%◌, ◌<◌, Bool, true, false, List, [], ◌∷◌, length, take, drop, map, refl, ap, ap₂, ◌∙◌, arith, append-nil}
use Rattle.std.specs.Prelude.{Option, Some, None, Result, Ok, All, ◌&&◌, nat_le, nat_lt, if◌then◌else◌, is_some, slice_index_or}
use Rattle.std.specs.Option.{option_map, option_and_then, option_to_list}
use Rattle.std.proofs.lemmas.List.{take_all, drop_all}
use Rattle.octet_io.specs.Number.{from_two}
use Rattle.le_h4.specs.Packet.{Packet, AclPacket, EventPacket, FirstPacket, first_of, acl_packet, with_data}
use Rattle.le_h4.proofs.Firsts.{with_data-whole}
use Rattle.le_hci.specs.Event.{Reported, DisconnectionComplete, EncryptionChange, CommandComplete, CommandStatus, NumberOfCompletedPackets, ConnectionComplete, LongTermKeyRequest}
use Rattle.le_hci.specs.EventPacket.{event_packet, event_code, fields_of, HasFields, report_read}
use Rattle.le_hci.specs.declared.event.BadEvent.{BadEvent}
use Rattle.le_hci.specs.declared.event.CompletedPackets.{CompletedPackets}
use Rattle.le_hci.proofs.SentEvents.{is_read}
use Rattle.std.proofs.lemmas.Bool.{ltb-true}
use Rattle.std.proofs.lemmas.List.Elements.{All-nil, All-cons}
use Rattle.le_acl.specs.Fragment.{Fragment, Beginning, Continuation}
use Rattle.le_acl.specs.Packets.{pieces, fragments_of_pieces, frame_octets}
use Rattle.sim_controller.specs.declared.command.Asked.{Asked}
use Rattle.sim_controller.specs.declared.command.Asked.TheVariants.{Status, ReadBufferSize, LeReadBufferSize, Advertise, Disconnect, GiveKey, RefuseKey}
use Rattle.sim_controller.specs.declared.config.SimConfig.{SimConfig}
use Rattle.sim_controller.specs.declared.fault.SimFault.{SimFault}
use Rattle.sim_controller.specs.declared.handle.TheConstants.{PHONES}
use Rattle.le_hci.specs.declared.reason.TheConstants.{REMOTE_USER_TERMINATED}
use Rattle.sim_controller.specs.declared.told.Told.{Told}
use Rattle.sim_controller.specs.declared.told.Told.TheVariants as told
use Rattle.sim_controller.specs.Acts.{SimulatedAct, Connect, Drop, Encrypt, Clear, Send, Hold, Done, told_of_act, act_fault}
use Rattle.sim_controller.specs.Answers.{here_or_none, phone_here, answer_to_command, end_by_host, encryption_on, events_after, host_fault}
use Rattle.sim_controller.specs.Calls.{Acts, Takes, Gives, Hears, Tells, if_accepted, told_of_data, told_of_host, IsFit, ReportsItself, IsReadWhole, TellsWhatIsRead}
use Rattle.sim_controller.specs.Frames.{told_fragment, told_frame}
use Rattle.sim_controller.specs.FromHost as host
use Rattle.sim_controller.specs.FromHost.{Taken, host_packet_of}
use Rattle.sim_controller.specs.Phone.{Phone, absent_phone, is_held}
use Rattle.sim_controller.specs.Phones.{handle_of_phone, phone_with}
use Rattle.sim_controller.specs.Simulated.{Simulated, phone_at}
use Rattle.sim_controller.specs.Told.{Event, Data, event_octets, sent_octets}

-- an event is read whole
event-first : (code : ℕ) (parameters : List ℕ) → first_of (event_octets code parameters) ≡ FirstPacket (EventPacket (event_packet code parameters)) []
event-first code parameters =
    let read : List ℕ → Packet = λ octets. EventPacket (code ∷ length parameters ∷ octets) in
    with_data-whole read (length parameters) parameters (omega arith)
    ∙ ap₂ (λ (octets : List ℕ) (rest : List ℕ). FirstPacket (read octets) rest)
    (take_all (length parameters) parameters (omega arith)) (drop_all (length parameters) parameters (omega arith))

restored : (n : ℕ) → from_two (n % 256) (n / 256) ≡ n
restored n = omega arith

-- and so are data
data-first : (handle boundary : ℕ) (octets : List ℕ) → handle < 4096 → boundary < 4
    → first_of (sent_octets (Data handle boundary octets)) ≡ FirstPacket (AclPacket handle boundary 0 octets) []
data-first handle boundary octets small flag =
    let field : ℕ = handle + 4096 * boundary in
    let low : field % 4096 ≡ handle = omega arith in
    let middle : field / 4096 % 4 ≡ boundary = omega arith in
    let high : field / 16384 ≡ 0 = omega arith in
    let whole = take_all (length octets) octets (omega arith) in
    let none = drop_all (length octets) octets (omega arith) in
    let parts : FirstPacket (acl_packet field (take (length octets) octets)) (drop (length octets) octets)
    ≡ FirstPacket (AclPacket handle boundary 0 octets) [] =
    λ i. FirstPacket (AclPacket (low i) (middle i) (high i) (whole i)) (none i) in
    ap₂ (λ (flags : ℕ) (size : ℕ). with_data (acl_packet flags) size octets) (restored field) (restored (length octets))
    ∙ with_data-whole (acl_packet field) (length octets) octets (omega arith)
    ∙ parts

-- an event with no ignored bits is what is read
event-read : (sent : Reported) → HasFields sent [] → report_read sent ≡ sent → ReportsItself (Event sent)
event-read sent fields same =
    let ok : Reported → Result Reported BadEvent = λ report. Ok report in
    is_read (event_packet (event_code sent) (fields_of sent)) sent [] fields (ap (event_packet (event_code sent)) (append-nil (fields_of sent)))
    ∙ ap ok same

-- the handle of a phone has 12 bits
small : (phone : ℕ) → phone < PHONES → (64 + phone) % 4096 ≡ 64 + phone
small phone below = omega arith

in-12-bits : (phone : ℕ) → phone < PHONES → 64 + phone < 4096
in-12-bits phone below = omega arith

-- a packet of one of the phones, whose address has 6 octets and whose random number has 8
abbrev IsFitTold : Told → Type 0
IsFitTold (told.CommandComplete code parameters) = Unit {0}
IsFitTold (told.CommandStatus code) = Unit {0}
IsFitTold (told.ConnectionComplete phone peer) = (phone < PHONES) × (length peer.address ≡ 6)
IsFitTold (told.DisconnectionComplete phone reason) = phone < PHONES
IsFitTold (told.EncryptionChange phone enabled) = phone < PHONES
IsFitTold (told.LongTermKeyRequest phone random_number diversifier) = (phone < PHONES) × (length random_number ≡ 8)
IsFitTold (told.CompletedPackets phone packets) = phone < PHONES
IsFitTold (told.Beginning phone octets) = phone < PHONES
IsFitTold (told.Continuation phone octets) = phone < PHONES

told-read : (event_packet : Told) → IsFitTold event_packet → IsReadWhole event_packet
told-read (told.CommandComplete code parameters) fit = record {
  first = event-first 0x0E (fields_of (CommandComplete 1 code parameters.items));
  event = event-read (CommandComplete 1 code parameters.items) refl refl;
}
told-read (told.CommandStatus code) fit = record {
  first = event-first 0x0F (fields_of (CommandStatus 0x00 1 code));
  event = event-read (CommandStatus 0x00 1 code) tt refl;
}
told-read (told.ConnectionComplete phone peer) fit =
    let report : ℕ → Reported = λ handle. ConnectionComplete 0x00 handle 0x01 peer 24 0 72 0x00 in
    record {
      first = event-first 0x3E (fields_of (report (handle_of_phone phone)));
      event = event-read (report (handle_of_phone phone)) fit.1 (ap report (small phone fit.0));
    }
told-read (told.DisconnectionComplete phone reason) fit =
    let report : ℕ → Reported = λ handle. DisconnectionComplete 0x00 handle reason in
    record {
      first = event-first 0x05 (fields_of (report (handle_of_phone phone)));
      event = event-read (report (handle_of_phone phone)) tt (ap report (small phone fit));
    }
told-read (told.EncryptionChange phone enabled) fit =
    let report : ℕ → Reported = λ handle. EncryptionChange 0x00 handle enabled in
    record {
      first = event-first 0x08 (fields_of (report (handle_of_phone phone)));
      event = event-read (report (handle_of_phone phone)) tt (ap report (small phone fit));
    }
told-read (told.LongTermKeyRequest phone random_number diversifier) fit =
    let report : ℕ → Reported = λ handle. LongTermKeyRequest handle random_number diversifier in
    record {
      first = event-first 0x3E (fields_of (report (handle_of_phone phone)));
      event = event-read (report (handle_of_phone phone)) fit.1 (ap report (small phone fit.0));
    }
told-read (told.CompletedPackets phone packets) fit =
    let entry : ℕ → CompletedPackets = λ handle. record { handle = handle; packets = packets } in
    let report : ℕ → Reported = λ handle. NumberOfCompletedPackets (entry handle ∷ []) in
    record {
      first = event-first 0x13 (fields_of (report (handle_of_phone phone)));
      event = event-read (report (handle_of_phone phone)) tt (ap report (small phone fit));
    }
told-read (told.Beginning phone octets) fit = record {
  first = data-first (handle_of_phone phone) 2 octets.items (in-12-bits phone fit) (omega arith);
  event = tt;
}
told-read (told.Continuation phone octets) fit = record {
  first = data-first (handle_of_phone phone) 1 octets.items (in-12-bits phone fit) (omega arith);
  event = tt;
}

none : All IsReadWhole []
none = All-nil IsReadWhole

one : (event_packet : Told) → IsFitTold event_packet → All IsReadWhole (event_packet ∷ [])
one event_packet fit = All-cons IsReadWhole event_packet [] (told-read event_packet fit) none

-- the acts
fragment-read : (phone : ℕ) (fragment : Fragment) → phone < PHONES → IsReadWhole (told_fragment phone fragment)
fragment-read phone (Beginning octets) below = told-read (told.Beginning phone (record { items = octets })) below
fragment-read phone (Continuation octets) below = told-read (told.Continuation phone (record { items = octets })) below

fragments-read : (phone : ℕ) (fragments : List Fragment) → phone < PHONES → All IsReadWhole (map (told_fragment phone) fragments)
fragments-read phone [] below = none
fragments-read phone (fragment ∷ fragments) below =
    All-cons IsReadWhole (told_fragment phone fragment) (map (told_fragment phone) fragments)
    (fragment-read phone fragment below) (fragments-read phone fragments below)

frame-read : (phone cut : ℕ) (frame : List ℕ) → phone < PHONES → All IsReadWhole (told_frame phone cut frame)
unfolding told_frame
frame-read phone cut frame below = fragments-read phone (fragments_of_pieces (pieces cut frame)) below

act-read : (config : SimConfig) (act : SimulatedAct) → IsFit act → All IsReadWhole (told_of_act config act)
act-read config (Connect phone peer) fit = one (told.ConnectionComplete phone peer) fit
act-read config (Drop phone) fit = one (told.DisconnectionComplete phone REMOTE_USER_TERMINATED) fit
act-read config (Encrypt phone random_number diversifier) fit = one (told.LongTermKeyRequest phone random_number diversifier) fit
act-read config (Clear phone) fit = one (told.EncryptionChange phone 0x00) fit
act-read config (Send phone channel payload) fit = frame-read phone config.cut (frame_octets (channel, payload)) fit
act-read config (Hold phone) fit = none
act-read config (Done phone packets) fit = one (told.CompletedPackets phone packets) fit

-- the answers: a handle that is found is that of a phone
below-by : (least most : Bool) (handle phone : ℕ) → (most ≡ true → handle < 72)
    → (if least && most then Some (handle - 64) else None) ≡ Some phone → phone < PHONES
below-by true true handle phone most e = let is : handle - 64 ≡ phone = cc in omega (arith, most refl, is)
below-by true false handle phone most e = absurd cc
below-by false true handle phone most e = absurd cc
below-by false false handle phone most e = absurd cc

phone-below : (handle phone : ℕ) → phone_with handle ≡ Some phone → phone < PHONES
phone-below handle phone e = below-by (nat_le 64 handle) (nat_lt handle 72) handle phone (ltb-true handle 72) e

here-by : (phones : List Phone) (found : Option ℕ) (phone : ℕ) → ((other : ℕ) → found ≡ Some other → other < PHONES)
    → option_and_then (here_or_none phones) found ≡ Some phone → phone < PHONES
here-by phones None phone below e = absurd cc
here-by phones (Some other) phone below e = pick (is_some (slice_index_or phones other absent_phone).link) e
  where
    pick : (here : Bool) → (if here then Some other else None) ≡ Some phone → phone < PHONES
    pick true e = let is : other ≡ phone = cc in omega (arith, below other refl, is)
    pick false e = absurd cc

here-below : (phones : List Phone) (handle phone : ℕ) → phone_here phones handle ≡ Some phone → phone < PHONES
here-below phones handle phone e = here-by phones (phone_with handle) phone (phone-below handle) e

event-reads : (event : ℕ → Told) → ((phone : ℕ) → phone < PHONES → IsFitTold (event phone)) → (found : Option ℕ)
    → ((phone : ℕ) → found ≡ Some phone → phone < PHONES) → All IsReadWhole (option_to_list (option_map event found))
event-reads event fit None below = none
event-reads event fit (Some phone) below = one (event phone) (fit phone (below phone refl))

events-read : (phones : List Phone) (asked : Asked) → All IsReadWhole (events_after phones asked)
events-read phones (Status code) = none
events-read phones ReadBufferSize = none
events-read phones LeReadBufferSize = none
events-read phones (Advertise enable) = none
events-read phones (Disconnect handle reason) =
    event-reads end_by_host (λ phone below. below) (phone_here phones handle) (here-below phones handle)
events-read phones (GiveKey handle) = event-reads encryption_on (λ phone below. below) (phone_here phones handle) (here-below phones handle)
events-read phones (RefuseKey handle) = none

answer-fit : (config : SimConfig) (asked : Asked) → IsFitTold (answer_to_command config asked)
answer-fit config (Status code) = tt
answer-fit config ReadBufferSize = tt
answer-fit config LeReadBufferSize = tt
answer-fit config (Advertise enable) = tt
answer-fit config (Disconnect handle reason) = tt
answer-fit config (GiveKey handle) = tt
answer-fit config (RefuseKey handle) = tt

held-read : (held : Bool) (phone : ℕ) → phone < PHONES → All IsReadWhole (if held then [] else told.CompletedPackets phone 1 ∷ [])
held-read true phone below = none
held-read false phone below = one (told.CompletedPackets phone 1) below

data-read : (old : Simulated) (found : Option ℕ) → ((phone : ℕ) → found ≡ Some phone → phone < PHONES) → All IsReadWhole (told_of_data old found)
data-read old None below = none
data-read old (Some phone) below = held-read (is_held (phone_at old phone).link) phone (below phone refl)

host-read : (old : Simulated) (taken : Option Taken) → All IsReadWhole (told_of_host old taken)
host-read old None = none
host-read old (Some (host.Command asked)) =
    All-cons IsReadWhole (answer_to_command old.config asked) (events_after old.phones asked)
    (told-read (answer_to_command old.config asked) (answer-fit old.config asked)) (events-read old.phones asked)
host-read old (Some (host.Data handle fragment)) = data-read old (phone_here old.phones handle) (here-below old.phones handle)

all-accepted : (fault : Option SimFault) (packets : List Told) → All IsReadWhole packets → All IsReadWhole (if_accepted fault packets [])
all-accepted None packets all = all
all-accepted (Some fault) packets all = none

pub tells_what_is_read : TellsWhatIsRead
tells_what_is_read old (Acts act) fit = all-accepted (act_fault old act) (told_of_act old.config act) (act-read old.config act fit)
tells_what_is_read old (Takes octets) fit =
    all-accepted (host_fault old (host_packet_of octets)) (told_of_host old (host_packet_of octets)) (host-read old (host_packet_of octets))
tells_what_is_read old Gives fit = none
tells_what_is_read old (Hears phone) fit = none
tells_what_is_read old (Tells phone) fit = none
