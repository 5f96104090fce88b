-- The effect of each kind of event on its connection. Requests are those of Core 5.0, Vol 3 Part F;
-- the end of a connection is this profile's own.
use Rattle.std.specs.Prelude.{ℕ, ◌==◌, nat_le, Bool, false, ◌&&◌, not, is_some, if◌then◌else◌, List, [], ◌∷◌, filter, map, Option, Some, None}
use Rattle.std.specs.Option.{option_map, option_map_or, option_to_list}
use Rattle.att_numbers.specs.Types.{Handle, Row, Values}
use Rattle.att_pdu.specs.Grammar.{request_of, is_due}
use Rattle.att_pdu.specs.Response.{Response}
use Rattle.att_policy.specs.declared.standing.KeyFacts.{KeyFacts}
use Rattle.att_attributes.specs.declared.attr.Attr.{Attr}
use Rattle.att_attributes.specs.Attributes.{is_value_at}
use Rattle.gatt_conn.specs.Answer.{Question, answer_to, stored_by, handles_by, is_confirmation}
use Rattle.gatt_conn.specs.Transcript.{Answered}
use Rattle.gatt_laws.specs.machine.Event.{Own, Connected, Disconnected, KeyAsked, Encrypted, Refreshed, Asks, OtherChannel, Authorized, Ended}
use Rattle.gatt_laws.specs.machine.Heard.{att_pdu}
use Rattle.gatt_laws.specs.machine.ConnectionState.{ConnectionState, no_connection, fresh_connection, is_live, is_there, key_of, row_in_force, connection_mtu, bearer_of, backlog_of, most_pdus, with_pdus, after_ending}
use Rattle.gatt_laws.specs.machine.SharedState.{SharedState}
use Rattle.gatt_subs.specs.Indications.{after_confirmation, is_told}
use Rattle.le_l2cap.specs.Pairing.{pairing_answer}
use Rattle.le_l2cap.specs.SignallingCommand.{rejected_identifier, command_reject}
use Rattle.le_l2cap.specs.declared.channel.TheConstants.{LE_SIGNALLING, SECURITY_MANAGER}
use Rattle.le_security.specs.declared.entry.Key.{Key}
use Rattle.le_security.specs.Keys.{key_asked_for}
use Rattle.le_security.specs.Link.{Step, Request, Encryption, Refresh}
use Rattle.octet_io.specs.Number.{Octets}
use Rattle.le_hci.specs.declared.reason.TheConstants.{AUTHENTICATION_FAILURE, REMOTE_USER_TERMINATED}

-- `bond` is the row of the peer's bond, `owed` whether Service Changed is pending for the peer,
-- `to_notify` the values for the other connections, and `to_notify_here` those for this one.
pub record Effect : Type 0 where
  pub values : Values
  pub bond : Row
  pub owed : Bool
  pub to_notify : List Handle
  pub to_notify_here : List Handle
  pub connection : ConnectionState

abbrev pub effect_on_connection : SharedState → Row → Bool → ConnectionState → Effect
effect_on_connection shared bond owed connection =
    record {
      values = shared.table.values;
      bond = bond;
      owed = owed;
      to_notify = [];
      to_notify_here = [];
      connection = connection;
    }

-- The reasons of a Disconnect: Authentication Failure if a link lost its encryption, Remote User
-- Terminated Connection if an answer finds no space or the application ends the connection (Core
-- 5.0, Vol 2 Part D, 2; the choice is this profile's own). (P-ALL-5)
abbrev pub authentication_failure : ℕ
authentication_failure = AUTHENTICATION_FAILURE

abbrev pub remote_user_terminated : ℕ
remote_user_terminated = REMOTE_USER_TERMINATED

-- The queue of a connection has no space for an answer.
abbrev pub is_full : SharedState → ConnectionState → Bool
is_full shared connection = nat_le most_pdus (backlog_of shared connection)

-- A written row belongs to the bond while the link has a key, else to the connection.
abbrev pub bond_row_after : ConnectionState → Row → Row → Row
bond_row_after connection bond row = if is_some (key_of connection) then row else bond

abbrev pub own_row_after : ConnectionState → Row → Row
own_row_after connection row = if is_some (key_of connection) then connection.row else row

-- Only values are notified: a configuration concerns no other client.
abbrev pub values_among : List Attr → List Handle → List Handle
values_among attributes handles = filter (is_value_at attributes) handles

-- A connection with a key confirms Service Changed for its peer, unless the value waits again.
abbrev pub owed_after : SharedState → ConnectionState → Octets → Bool → Bool
owed_after shared connection pdu owed =
    owed && not
    (is_confirmation pdu && is_some (key_of connection)
    && option_map_or (is_told connection.pending) shared.changer false)

abbrev pub after_answer : ConnectionState → Question → Option Response → ConnectionState
after_answer connection asked answer =
    with_pdus (record connection { said = Answered asked answer ∷ connection.said })
    (map att_pdu (option_to_list answer))

abbrev pub with_confirmation : Octets → ConnectionState → ConnectionState
with_confirmation pdu connection =
    record connection {
      pending = if is_confirmation pdu then after_confirmation connection.pending
          else connection.pending;
    }

-- (P-SUB-3)
abbrev pub served : SharedState → Row → Bool → ConnectionState → Octets → Question → Effect
served shared bond owed connection pdu asked =
    let conn = bearer_of shared connection in
    let row = row_in_force bond connection in
    let stored = stored_by shared.table row conn asked in
    record {
      values = stored.values;
      bond = bond_row_after connection bond stored.row;
      owed = owed_after shared connection pdu owed;
      to_notify = values_among shared.table.attributes (handles_by shared.table row conn asked);
      to_notify_here = [];
      connection =
          record (with_confirmation pdu
          (after_answer connection asked (answer_to shared.table row conn asked))) {
            row = own_row_after connection stored.row;
          };
    }

abbrev pub request_effect : SharedState → Row → Bool → ConnectionState → Octets → Effect
request_effect shared bond owed connection pdu =
    let asked = request_of pdu (connection_mtu shared connection) in
    if is_due asked && is_full shared connection
    then effect_on_connection shared bond owed (after_ending connection remote_user_terminated)
    else served shared bond owed connection pdu asked

abbrev pub channel_answer : ℕ → Octets → Option Octets
channel_answer channel payload =
    if channel == LE_SIGNALLING then option_map command_reject (rejected_identifier payload)
    else if channel == SECURITY_MANAGER then pairing_answer payload
    else None

abbrev pub after_other_channel : SharedState → ConnectionState → ℕ → Option Octets → ConnectionState
after_other_channel shared connection channel None = connection
after_other_channel shared connection channel (Some answer) =
    if is_full shared connection then after_ending connection remote_user_terminated
    else with_pdus connection ((channel, answer) ∷ [])

abbrev pub with_key_asked : ConnectionState → Option Key → ConnectionState
with_key_asked connection found = record connection {
  steps = Request (option_map (λ (key : Key). key.facts) found) ∷ connection.steps;
  reply = Some (option_map (λ (key : Key). key.ltk) found);
}

abbrev pub with_step : ConnectionState → Step → ConnectionState
with_step connection step = record connection { steps = step ∷ connection.steps }

-- A connection whose link loses its key is ended; if the link gains one, a pending Service Changed
-- is notified. (P-KEY-5)
abbrev pub lost_encryption : Option KeyFacts → Option KeyFacts → Bool
lost_encryption old new = is_some old && not (is_some new)

abbrev pub gained_encryption : Option KeyFacts → Option KeyFacts → Bool
gained_encryption old new = not (is_some old) && is_some new

abbrev pub link_effect : SharedState → Row → Bool → ConnectionState → Step → Effect
link_effect shared bond owed connection step =
    let new = with_step connection step in
    record (effect_on_connection shared bond owed
    (if lost_encryption (key_of connection) (key_of new)
    then after_ending new authentication_failure else new)) {
      to_notify_here =
          if gained_encryption (key_of connection) (key_of new) && owed
          then option_to_list shared.changer else [];
    }

unfoldable pub live_effect : SharedState → Row → Bool → ConnectionState → Own → Effect
live_effect shared bond owed connection (Asks pdu) = request_effect shared bond owed connection pdu
live_effect shared bond owed connection (OtherChannel channel payload) =
    effect_on_connection shared bond owed
    (after_other_channel shared connection channel (channel_answer channel payload))
live_effect shared bond owed connection (KeyAsked random_number diversifier) =
    effect_on_connection shared bond owed
    (with_key_asked connection
    (key_asked_for shared.keys connection.peer random_number diversifier))
live_effect shared bond owed connection (Encrypted status enabled) =
    link_effect shared bond owed connection (Encryption status enabled)
live_effect shared bond owed connection (Refreshed status) =
    link_effect shared bond owed connection (Refresh status)
live_effect shared bond owed connection (Authorized until) =
    effect_on_connection shared bond owed (record connection { until = until })
live_effect shared bond owed connection Ended =
    effect_on_connection shared bond owed (after_ending connection remote_user_terminated)
live_effect shared bond owed connection (Connected handle peer) =
    effect_on_connection shared bond owed connection
live_effect shared bond owed connection Disconnected =
    effect_on_connection shared bond owed connection

-- A connection connects only if it is absent; all other events except a disconnection need one that
-- serves.
abbrev pub effect_of : SharedState → Row → Bool → ConnectionState → Own → Effect
effect_of shared bond owed connection (Connected handle peer) =
    effect_on_connection shared bond owed
    (if is_there connection.mark then connection else fresh_connection handle peer)
effect_of shared bond owed connection Disconnected =
    effect_on_connection shared bond owed no_connection
effect_of shared bond owed connection own =
    if is_live connection.mark then live_effect shared bond owed connection own
    else effect_on_connection shared bond owed connection

-- The handles that a served PDU writes, each once. (P-NOTE-4, P-NOTE-5, P-NOTE-11)
abbrev pub handles_written : SharedState → Row → ConnectionState → Own → List Handle
handles_written shared bond connection (Asks pdu) =
    let asked = request_of pdu (connection_mtu shared connection) in
    if is_live connection.mark && not (is_due asked && is_full shared connection)
    then handles_by shared.table (row_in_force bond connection) (bearer_of shared connection) asked
    else []
handles_written shared bond connection own = []
