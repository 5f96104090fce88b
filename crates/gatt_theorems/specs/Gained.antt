-- The queue of a connection gains only the answer to its own PDU, and values that it may be sent
-- unasked (Core 5.0, Vol 3 Part F, 3.3 and 3.4.7); which of them are sent, and when, is this
-- profile's own.
use Rattle.std.specs.Prelude.{◌≡◌, ◌==◌, Bool, true, false, ◌&&◌, ◌||◌, not, IfSome, if◌then◌else◌, List, [], ◌∷◌, ◌++◌, map, Option, None}
use Rattle.std.specs.Option.{option_map, option_to_list}
use Rattle.att_numbers.specs.Types.{Handle}
use Rattle.att_pdu.specs.Grammar.{request_of}
use Rattle.att_pdu.specs.Response.{Response}
use Rattle.att_table.specs.Changer.{changer_of}
use Rattle.gatt_conn.specs.Answer.{answer_to}
use Rattle.gatt_laws.specs.laws.Headline.{Each}
use Rattle.gatt_laws.specs.laws.OwnWrites.{row_of_connection}
use Rattle.gatt_laws.specs.machine.Event.{Ordinal, Own, Event, Connected, Disconnected, Encrypted, Refreshed, Asks, OtherChannel, Of, Update, Replaced}
use Rattle.gatt_laws.specs.machine.Heard.{att_pdu}
use Rattle.gatt_laws.specs.machine.ConnectionState.{ConnectionState, is_live, is_there, key_of, connection_mtu, standing_of, bearer_of}
use Rattle.gatt_laws.specs.machine.State.{State, change_of, step}
use Rattle.gatt_laws.specs.machine.Effect.{channel_answer, gained_encryption, handles_written, is_full, values_among, with_step}
use Rattle.gatt_subs.specs.Hearing.{may_hear_at, wants_indications}
use Rattle.gatt_subs.specs.Indications.{is_waiting}
use Rattle.gatt_subs.specs.Told.{notification_of, indication_of}
use Rattle.le_acl.specs.Packets.{Pdu}
use Rattle.le_security.specs.Link.{Step, Encryption, Refresh}

-- The queue is empty after a connection connects or disconnects.
abbrev pub queue_kept_by : ConnectionState → Own → List Pdu
queue_kept_by connection (Connected handle peer) =
    if is_there connection.mark then connection.pdus else []
queue_kept_by connection Disconnected = []
queue_kept_by connection own = connection.pdus

abbrev pub kept_queue : State → Ordinal → Event → List Pdu
kept_queue state ordinal (Of at own) =
    if ordinal == at then queue_kept_by (state.connections at) own
    else (state.connections ordinal).pdus
kept_queue state ordinal event = (state.connections ordinal).pdus

-- PDUs of other channels have a fixed answer.
abbrev pub answer_to_own : State → Ordinal → Own → List Pdu
answer_to_own state ordinal (Asks pdu) =
    let connection = state.connections ordinal in
    map att_pdu
    (option_to_list
    (answer_to state.shared.table (row_of_connection state ordinal)
    (bearer_of state.shared connection) (request_of pdu (connection_mtu state.shared connection))))
answer_to_own state ordinal (OtherChannel channel payload) =
    option_to_list (option_map (λ answer. (channel, answer)) (channel_answer channel payload))
answer_to_own state ordinal own = []

abbrev pub is_answered : State → Ordinal → Bool
is_answered state ordinal =
    is_live (state.connections ordinal).mark
    && not (is_full state.shared (state.connections ordinal))

abbrev pub answers_at : State → Ordinal → Event → List Pdu
answers_at state ordinal (Of at own) =
    if (ordinal == at) && is_answered state at then answer_to_own state at own else []
answers_at state ordinal event = []

-- A connection is notified of a pending Service Changed when its link gains a key, of values that
-- another connection or the application writes, and of a replacement of the table.
abbrev pub owed_by_step : State → Ordinal → Step → List Handle
owed_by_step state ordinal step =
    let connection = state.connections ordinal in
    if is_live connection.mark
    && gained_encryption (key_of connection) (key_of (with_step connection step))
    && state.owed connection.peer
    then option_to_list state.shared.changer else []

abbrev pub to_notify_by_own : State → Ordinal → Own → List Handle
to_notify_by_own state ordinal (Encrypted status enabled) =
    owed_by_step state ordinal (Encryption status enabled)
to_notify_by_own state ordinal (Refreshed status) = owed_by_step state ordinal (Refresh status)
to_notify_by_own state ordinal own = []

abbrev pub to_notify_for : State → Ordinal → Event → List Handle
to_notify_for state ordinal (Of at own) =
    if ordinal == at then to_notify_by_own state at own
    else values_among state.shared.table.attributes
    (handles_written state.shared (state.bonds (state.connections at).peer)
    (state.connections at) own)
to_notify_for state ordinal (Update handle value) = handle ∷ []
to_notify_for state ordinal (Replaced table) = option_to_list (changer_of table)
to_notify_for state ordinal event = []

abbrev pub picked : List Bool → List Handle → List Handle
picked [] handles = []
picked (pick ∷ picks) [] = []
picked (pick ∷ picks) (handle ∷ handles) =
    if pick then handle ∷ picked picks handles else picked picks handles

-- The responses are notifications of raised values, in their order and each at most as often, then
-- at most one indication, of a value that was raised or waited. Each has the octets after the event
-- that fit, of a value that the connection may then be sent, in the way that its row asks.
-- Afterwards only values wait that waited or were raised; a connection that timed out is sent
-- nothing.
pub record TellsOnly (state : State) (ordinal : Ordinal) (raised waiting : List Handle)
    (told : List Response) : Type 0 where
  pub picks : List Bool
  pub indicated : Option Handle
  pub is : told ≡
      map (λ handle. notification_of state.shared.table.values handle
      (connection_mtu state.shared (state.connections ordinal))) (picked picks raised)
      ++ option_to_list
      (option_map
      (λ handle. indication_of state.shared.table.values handle
      (connection_mtu state.shared (state.connections ordinal))) indicated)
  pub due : IfSome indicated
      (λ handle. (is_waiting raised handle || is_waiting waiting handle) ≡ true)
  pub may : Each
      (λ handle. may_hear_at state.shared.table.attributes (row_of_connection state ordinal)
      (standing_of state.shared (state.connections ordinal)) handle ≡ true)
      (picked picks raised ++ option_to_list indicated)
  pub notified : Each (λ handle. wants_indications (row_of_connection state ordinal) handle ≡ false)
      (picked picks raised)
  pub asked : Each (λ handle. wants_indications (row_of_connection state ordinal) handle ≡ true)
      (option_to_list indicated)
  pub waits : (handle : Handle) → is_waiting (state.connections ordinal).pending.waiting handle
      ≡ true
      → (is_waiting raised handle || is_waiting waiting handle) ≡ true
  pub in_time : (state.connections ordinal).pending.timed_out ≡ true → told ≡ []

pub record Gains (state : State) (event : Event) (new : State) (ordinal : Ordinal) : Type 0 where
  pub told : List Response
  pub queue : (new.connections ordinal).pdus ≡ kept_queue state ordinal event
      ++ (answers_at state ordinal event ++ map att_pdu told)
  pub only : TellsOnly new ordinal (to_notify_for state ordinal event)
      (state.connections ordinal).pending.waiting told
  -- Nothing is indicated while another indication is unconfirmed, after the event's own
  -- confirmation if it is one.
  pub single : IfSome only.indicated
      (λ handle. ((change_of state event).state.connections ordinal).pending.unconfirmed ≡ None)

-- This holds in every state, however connections interleave.
abbrev pub GainsOnlyWhatIsDue : Type 0
GainsOnlyWhatIsDue =
    (state : State) (event : Event) (ordinal : Ordinal)
    → Gains state event (step state event) ordinal
