-- The prepared writes of a connection depend only on its own events, the time and the tables.
use Rattle.std.specs.Prelude.{◌≡◌, ◌==◌, ℕ, Bool, true, false, is_some, if◌then◌else◌, List, [], ◌∷◌, ◌++◌, Option, Some, None}
use Rattle.std.specs.Option.{option_map, option_map_or, option_or, option_to_list}
use Rattle.att_numbers.specs.Types.{Mtu}
use Rattle.att_pdu.specs.Grammar.{request_of}
use Rattle.att_attributes.specs.declared.attr.Attr.{Attr}
use Rattle.att_table.specs.Table.{Contents}
use Rattle.att_writes.specs.Entry.{Entry}
use Rattle.gatt_conn.specs.Answer.{conn_after}
use Rattle.gatt_conn.specs.Connection.{Bearer, mtu_between}
use Rattle.gatt_conn.specs.Transcript.{first_exchange, exchange_asked}
use Rattle.gatt_laws.specs.machine.Event.{Ordinal, Own, Event, Connected, Disconnected, KeyAsked, Encrypted, Refreshed, Asks, Authorized, Of, Tick, Replaced}
use Rattle.gatt_laws.specs.machine.ConnectionState.{Mark, Absent, Live, Ending, ConnectionState, no_connection, is_live, is_there, prepared_of}
use Rattle.gatt_laws.specs.machine.SharedState.{SharedState}
use Rattle.gatt_laws.specs.machine.Input.{Item, run}
use Rattle.gatt_laws.specs.laws.Runs.{events_of}
use Rattle.gatt_laws.specs.machine.Start.{Start, state_at}
use Rattle.gatt_laws.specs.machine.State.{State, step}
use Rattle.le_hci.specs.declared.peer.Peer.{Peer}
use Rattle.le_security.specs.declared.entry.Entry.{Entry as KeyEntry}
use Rattle.le_security.specs.declared.entry.Key.{Key}
use Rattle.le_security.specs.Keys.{key_asked_for, is_known}
use Rattle.le_security.specs.Link.{Step, Request, Encryption, Refresh, key_after}
use Rattle.octet_io.specs.Number.{Octets}
use Rattle.att_pdu.specs.declared.pdu_buf.TheConstants.{MIN_MTU}

-- Everything that decides what a connection has prepared.
pub record Preparing : Type 0 where
  pub attributes : List Attr
  pub keys : List KeyEntry
  pub rx_mtu : Mtu
  pub time : ℕ
  pub mark : Mark
  pub peer : Peer
  pub until : ℕ
  pub steps : List Step
  pub exchange : Option Mtu
  pub queue : List Entry

abbrev pub preparing : SharedState → ConnectionState → Preparing
preparing shared connection = record {
  attributes = shared.table.attributes;
  keys = shared.keys;
  rx_mtu = shared.rx_mtu;
  time = shared.time;
  mark = connection.mark;
  peer = connection.peer;
  until = connection.until;
  steps = connection.steps;
  exchange = first_exchange connection.said;
  queue = prepared_of connection;
}

abbrev pub preparing_in : State → Ordinal → Preparing
preparing_in state ordinal = preparing state.shared (state.connections ordinal)

-- One connection is concerned by its own events, the time and a replacement of the table.
pub data Concern : Type 0 where
  Happens : (own : Own) → Concern
  Told : (time : ℕ) → Concern
  Changes : (table : Contents) → Concern

abbrev pub concern_of : Ordinal → Event → Option Concern
concern_of ordinal (Of other own) = if ordinal == other then Some (Happens own) else None
concern_of ordinal (Tick time) = Some (Told time)
concern_of ordinal (Replaced table) = Some (Changes table)
concern_of ordinal event = None

abbrev pub preparing_connection : Preparing → Bearer
preparing_connection old = record {
  standing =
      record {
        key = key_after old.steps;
        key_known = is_known old.keys old.peer;
        until = old.until;
        now = old.time;
      };
  mtu = option_map_or (λ client_rx_mtu. mtu_between client_rx_mtu old.rx_mtu) old.exchange MIN_MTU;
  rx_mtu = old.rx_mtu;
  exchanged = is_some old.exchange;
  queue = old.queue;
}

-- A PDU is checked by the attributes and the standing, not by any value or row.
abbrev pub after_asking : Preparing → Octets → Preparing
after_asking old pdu =
    let conn = preparing_connection old in
    let asked = request_of pdu conn.mtu in
    record old {
      exchange = option_or old.exchange (exchange_asked asked);
      queue = (conn_after old.attributes conn asked).queue;
    }

abbrev pub preparing_after_step : Preparing → Step → Preparing
preparing_after_step old step = record old { steps = step ∷ old.steps }

abbrev pub while_serving : Preparing → Own → Preparing
while_serving old (Asks pdu) = after_asking old pdu
while_serving old (KeyAsked random_number diversifier) =
    preparing_after_step old
    (Request
    (option_map (λ (key : Key). key.facts)
    (key_asked_for old.keys old.peer random_number diversifier)))
while_serving old (Encrypted status enabled) = preparing_after_step old (Encryption status enabled)
while_serving old (Refreshed status) = preparing_after_step old (Refresh status)
while_serving old (Authorized until) = record old { until = until }
while_serving old own = old

abbrev pub prepares_nothing : Preparing → Mark → Peer → Preparing
prepares_nothing old mark peer =
    record old { mark = mark; peer = peer; until = 0; steps = []; exchange = None; queue = [] }

abbrev pub preparing_after_own : Preparing → Own → Preparing
preparing_after_own old (Connected handle peer) =
    if is_there old.mark then old else prepares_nothing old Live peer
preparing_after_own old Disconnected = prepares_nothing old Absent no_connection.peer
preparing_after_own old own = if is_live old.mark then while_serving old own else old

unfoldable pub after_concern : Preparing → Concern → Preparing
after_concern old (Happens own) = preparing_after_own old own
after_concern old (Told time) = record old { time = time }
after_concern old (Changes table) =
    record old { attributes = table.attributes; queue = if is_live old.mark then [] else old.queue }

abbrev pub after_any : Preparing → Option Concern → Preparing
after_any old None = old
after_any old (Some concern) = after_concern old concern

abbrev pub is_ending : Mark → Bool
is_ending Absent = false
is_ending Live = false
is_ending Ending = true

abbrev pub is_ended : State → Ordinal → Bool
is_ended state ordinal = is_ending (state.connections ordinal).mark

-- Until it is ended, an event changes what decides a connection's prepared writes only as far as it
-- concerns the connection.
abbrev pub PreparesByItself : Type 0
PreparesByItself =
    (state : State) (event : Event) (ordinal : Ordinal) → is_ended (step state event) ordinal
    ≡ false
    → preparing_in (step state event) ordinal
    ≡ after_any (preparing_in state ordinal) (concern_of ordinal event)

abbrev pub concerns_of : Ordinal → List Event → List Concern
concerns_of ordinal [] = []
concerns_of ordinal (event ∷ events) =
    option_to_list (concern_of ordinal event) ++ concerns_of ordinal events

abbrev pub IsNeverEnded : Ordinal → State → List Event → Type 0
IsNeverEnded ordinal state [] = Unit
IsNeverEnded ordinal state (event ∷ events) =
    (is_ended (step state event) ordinal ≡ false) × IsNeverEnded ordinal (step state event) events

-- Until it is ended, a connection has prepared the same in all runs in which the same concerns it.
abbrev pub PreparesTheSame : Type 0
PreparesTheSame = (start : Start) (one other : Ordinal) (input another : List Item)
    → concerns_of one (events_of start input) ≡ concerns_of other (events_of start another)
    → IsNeverEnded one (state_at start) (events_of start input)
    → IsNeverEnded other (state_at start) (events_of start another)
    → prepared_of ((run start input).intake.state.connections one)
    ≡ prepared_of ((run start another).intake.state.connections other)
