-- What happens to one connection by itself, over values that differ in hidden ones alone.
use Rattle.std.proofs.Common.{◌≡◌, ℕ, Bool, true, false, ◌&&◌, [], ◌∷◌, Option, Some, None, refl, sym, ap, subst, ◌∙◌}
use Rattle.std.specs.Prelude.{is_some, if◌then◌else◌}
use Rattle.att_numbers.specs.Types.{Handle, Values, Row}
use Rattle.att_pdu.specs.Grammar.{request_of, is_due}
use Rattle.att_reads.specs.Access.{IsAlike}
use Rattle.att_writes.specs.Applied.{Stored}
use Rattle.att_writes.specs.SameBut.{SameBut}
use Rattle.gatt_conn.specs.Answer.{Question, answer_to, stored_by, handles_by}
use Rattle.gatt_conn.specs.Connection.{Bearer, mtu_between}
use Rattle.gatt_conn.specs.Transcript.{Answered, first_exchange, prepared_in}
use Rattle.gatt_laws.proofs.isolation.AnswersAlike.{SameStored, same_stored, same_handles, same_but_reading, same_answer, same_exchange, same_prepared}
use Rattle.gatt_laws.specs.laws.Alike.{without_reading, erased, is_of}
use Rattle.gatt_laws.specs.machine.Event.{Own, Connected, Disconnected, KeyAsked, Encrypted, Refreshed, Asks, OtherChannel, Authorized, Ended}
use Rattle.gatt_laws.specs.machine.ConnectionState.{ConnectionState, no_connection, fresh_connection, is_live, is_there, key_of, row_in_force, standing_of, connection_mtu, bearer_of, with_pdus, after_ending}
use Rattle.gatt_laws.specs.machine.SharedState.{SharedState}
use Rattle.gatt_laws.specs.machine.State.{with_values}
use Rattle.gatt_laws.specs.machine.Effect.{Effect, effect_on_connection, is_full, bond_row_after, own_row_after, values_among, after_answer, with_confirmation, served, request_effect, channel_answer, after_other_channel, with_key_asked, with_step, lost_encryption, link_effect, live_effect, effect_of, authentication_failure, remote_user_terminated}
use Rattle.gatt_laws.specs.laws.TwoWorlds.{is_answer_due, finds_no_room}
use Rattle.le_hci.specs.declared.peer.Peer.{Peer}
use Rattle.le_security.specs.Keys.{key_asked_for}
use Rattle.le_security.specs.Link.{Step, Encryption, Refresh}
use Rattle.octet_io.proofs.Choices.{both_choices, either_choice, and_false_right}
use Rattle.octet_io.specs.Number.{Octets}

-- what both kinds of effect share
pub record SameEffect (hidden : Handle → Bool) (one other : Effect) : Type 0 where
  pub values : SameBut hidden one.values other.values
  pub bond : one.bond ≡ other.bond
  pub to_notify : one.to_notify ≡ other.to_notify

-- that of a connection of the peer
pub record OwnEffect (hidden : Handle → Bool) (one other : Effect) : Type 0 where
  pub turn : SameEffect hidden one other
  pub owed : one.owed ≡ other.owed
  pub to_notify_here : one.to_notify_here ≡ other.to_notify_here
  pub connection : one.connection ≡ other.connection

-- and that of a connection of another peer, which only a connection that comes in its place may make one of the peer's
pub record OtherEffect (peer : Peer) (hidden : Handle → Bool) (one other : Effect) : Type 0 where
  pub turn : SameEffect hidden one other
  pub connection : erased one.connection ≡ erased other.connection
  pub own : is_of peer one.connection ≡ true → one.connection ≡ other.connection
  pub to_notify_here : is_of peer one.connection ≡ true → one.to_notify_here ≡ other.to_notify_here

-- by what is erased alone a connection has the same ATT_MTU and the same prepared writes
pub exchange_erased : (connection other : ConnectionState) → erased connection ≡ erased other → first_exchange connection.said ≡ first_exchange other.said
exchange_erased connection other same =
    sym (same_exchange connection.said) ∙ ap (λ (p : ConnectionState). first_exchange p.said) same ∙ same_exchange other.said

prepared_erased : (connection other : ConnectionState) → erased connection ≡ erased other → prepared_in connection.said ≡ prepared_in other.said
prepared_erased connection other same = sym (same_prepared connection.said) ∙ ap (λ (p : ConnectionState). prepared_in p.said) same ∙ same_prepared other.said

mtu_erased : (shared : SharedState) (connection other : ConnectionState) → erased connection ≡ erased other → connection_mtu shared connection
    ≡ connection_mtu shared other
mtu_erased shared connection other same =
    let first = exchange_erased connection other same in
    ap (λ (mtu : Option ℕ). Rattle.std.specs.Option.option_map_or (λ client_rx_mtu. mtu_between client_rx_mtu shared.rx_mtu) mtu 23) first

connection_erased : (shared : SharedState) (connection other : ConnectionState) → erased connection ≡ erased other → bearer_of shared connection
    ≡ bearer_of shared other
connection_erased shared connection other same =
    let first = exchange_erased connection other same in
    let mtu = mtu_erased shared connection other same in
    let queue = prepared_erased connection other same in
    λ i. record {
      standing = standing_of shared (same i);
      mtu = mtu i;
      rx_mtu = shared.rx_mtu;
      exchanged = is_some (first i);
      queue = queue i;
    }

module _ (hidden : Handle → Bool) (shared : SharedState) (ys : Values) (same : SameBut hidden shared.table.values ys) where
  abbrev there : SharedState
  there = with_values shared ys

  nothing-changed : (bond : Row) (owed : Bool) (connection : ConnectionState)
      → OwnEffect hidden (effect_on_connection shared bond owed connection) (effect_on_connection there bond owed connection)
  nothing-changed bond owed connection = record {
    turn = record { values = same; bond = refl; to_notify = refl };
    owed = refl;
    to_notify_here = refl;
    connection = refl;
  }

  served-own : (bond : Row) (owed : Bool) (connection : ConnectionState) (pdu : Octets) (asked : Question)
      → IsAlike (standing_of shared connection) shared.table there.table
      → OwnEffect hidden (served shared bond owed connection pdu asked) (served there bond owed connection pdu asked)
  served-own bond owed connection pdu asked readable =
      let conn : Bearer = bearer_of shared connection in
      let row : Row = row_in_force bond connection in
      let stored = same_stored hidden shared.table.attributes shared.table.values ys same row conn asked in
      let handles = same_handles hidden shared.table.attributes shared.table.values ys same row conn asked in
      let answer = same_answer hidden shared.table.attributes shared.table.values ys same row conn asked readable in
      let rows = stored.row in
      record {
        turn = record {
          values = stored.values;
          bond = ap (bond_row_after connection bond) rows;
          to_notify = ap (values_among shared.table.attributes) handles;
        };
        owed = refl;
        to_notify_here = refl;
        connection = λ i. record (with_confirmation pdu (after_answer connection asked (answer i))) { row = own_row_after connection (rows i) };
      }

  request-own : (bond : Row) (owed : Bool) (connection : ConnectionState) (pdu : Octets) → IsAlike (standing_of shared connection) shared.table there.table
      → OwnEffect hidden (request_effect shared bond owed connection pdu) (request_effect there bond owed connection pdu)
  request-own bond owed connection pdu readable =
      let asked : Question = request_of pdu (connection_mtu shared connection) in
      both_choices (OwnEffect hidden) (is_due asked && is_full shared connection) (is_due asked && is_full there connection)
      (effect_on_connection shared bond owed (after_ending connection remote_user_terminated)) (served shared bond owed connection pdu asked)
      (effect_on_connection there bond owed (after_ending connection remote_user_terminated)) (served there bond owed connection pdu asked)
      refl (λ is. nothing-changed bond owed (after_ending connection remote_user_terminated)) (λ is. served-own bond owed connection pdu asked readable)

  link-own : (bond : Row) (owed : Bool) (connection : ConnectionState) (step : Step)
      → OwnEffect hidden (link_effect shared bond owed connection step) (link_effect there bond owed connection step)
  link-own bond owed connection step = record {
    turn = record { values = same; bond = refl; to_notify = refl };
    owed = refl;
    to_notify_here = refl;
    connection = refl;
  }

  live-own : (bond : Row) (owed : Bool) (connection : ConnectionState) (own : Own) → IsAlike (standing_of shared connection) shared.table there.table
      → OwnEffect hidden (live_effect shared bond owed connection own) (live_effect there bond owed connection own)
  unfolding live_effect
  live-own bond owed connection (Asks pdu) readable = request-own bond owed connection pdu readable
  live-own bond owed connection (OtherChannel channel payload) readable =
      record {
        turn = record { values = same; bond = refl; to_notify = refl };
        owed = refl;
        to_notify_here = refl;
        connection = channel-own connection channel (channel_answer channel payload);
      }
    where
      channel-own : (connection : ConnectionState) (channel : ℕ) (answer : Option Octets) → after_other_channel shared connection channel answer
          ≡ after_other_channel there connection channel answer
      channel-own connection channel None = refl
      channel-own connection channel (Some answer) = refl
  live-own bond owed connection (KeyAsked random_number diversifier) readable =
      nothing-changed bond owed (with_key_asked connection (key_asked_for shared.keys connection.peer random_number diversifier))
  live-own bond owed connection (Encrypted status enabled) readable = link-own bond owed connection (Encryption status enabled)
  live-own bond owed connection (Refreshed status) readable = link-own bond owed connection (Refresh status)
  live-own bond owed connection (Authorized until) readable = nothing-changed bond owed (record connection { until = until })
  live-own bond owed connection Ended readable = nothing-changed bond owed (after_ending connection remote_user_terminated)
  live-own bond owed connection own readable = nothing-changed bond owed connection

  live-or-not : (bond : Row) (owed : Bool) (connection : ConnectionState) (own : Own)
      → (is_live connection.mark ≡ true → IsAlike (standing_of shared connection) shared.table there.table)
      → OwnEffect hidden (if is_live connection.mark then live_effect shared bond owed connection own else effect_on_connection shared bond owed connection)
      (if is_live connection.mark then live_effect there bond owed connection own else effect_on_connection there bond owed connection)
  live-or-not bond owed connection own readable =
      both_choices (OwnEffect hidden) (is_live connection.mark) (is_live connection.mark) (live_effect shared bond owed connection own)
      (effect_on_connection shared bond owed connection)
      (live_effect there bond owed connection own) (effect_on_connection there bond owed connection) refl
      (λ is. live-own bond owed connection own (readable is)) (λ is. nothing-changed bond owed connection)

  -- a connection of the peer, which may read what differs nowhere
  pub own_effect : (bond : Row) (owed : Bool) (connection : ConnectionState) (own : Own)
      → (is_live connection.mark ≡ true → IsAlike (standing_of shared connection) shared.table there.table)
      → OwnEffect hidden (effect_of shared bond owed connection own) (effect_of there bond owed connection own)
  own_effect bond owed connection (Connected handle peer) readable =
      nothing-changed bond owed (if is_there connection.mark then connection else fresh_connection handle peer)
  own_effect bond owed connection Disconnected readable = nothing-changed bond owed no_connection
  own_effect bond owed connection own readable = live-or-not bond owed connection own readable

  -- Connections of other peers.
  module _ (peer : Peer) (bond : Row) (owed its : Bool) (connection other : ConnectionState) (parts : erased connection ≡ erased other)
      (foreign : is_of peer connection ≡ false) where
    never : {A : Type 0} → is_of peer connection ≡ true → A
    never is = cc (is, foreign)

    -- the connection alone is changed
    to-part : (new too : ConnectionState) → erased new ≡ erased too → is_of peer new ≡ false
        → OtherEffect peer hidden (effect_on_connection shared bond owed new) (effect_on_connection there bond its too)
    to-part new too alike stays = record {
      turn = record { values = same; bond = refl; to_notify = refl };
      connection = alike;
      own = λ is. cc (is, stays);
      to_notify_here = λ is. refl;
    }

    kept : OtherEffect peer hidden (effect_on_connection shared bond owed connection) (effect_on_connection there bond its other)
    kept = to-part connection other parts foreign

    served-asked : (pdu : Octets) (asked : Question) → OtherEffect peer hidden (served shared bond owed connection pdu asked)
        (served there bond its other pdu asked)
    served-asked pdu asked =
        let conn : Bearer = bearer_of shared connection in
        let row : Row = row_in_force bond connection in
        let stored = same_stored hidden shared.table.attributes shared.table.values ys same row conn asked in
        let conns = connection_erased shared connection other parts in
        let rows : row_in_force bond connection ≡ row_in_force bond other = λ i. row_in_force bond (parts i) in
        let later : SameStored hidden (stored_by shared.table row conn asked) (stored_by there.table (row_in_force bond other) (bearer_of shared other) asked) =
        subst (λ (s : Stored). SameStored hidden (stored_by shared.table row conn asked) s) (λ i. stored_by there.table (rows i) (conns i) asked) stored in
        let row_after = later.row in
        let handles : handles_by shared.table row conn asked ≡ handles_by there.table (row_in_force bond other) (bearer_of shared other) asked =
        same_handles hidden shared.table.attributes shared.table.values ys same row conn asked ∙ (λ i. handles_by there.table (rows i) (conns i) asked) in
        let answer : without_reading (Answered asked (answer_to shared.table row conn asked))
        ≡ without_reading (Answered asked (answer_to there.table (row_in_force bond other) (bearer_of shared other) asked)) =
        same_but_reading hidden shared.table.attributes shared.table.values ys same row conn asked
        ∙ (λ i. without_reading (Answered asked (answer_to there.table (rows i) (conns i) asked))) in
        record {
          turn = record {
            values = later.values;
            bond = λ i. if is_some (key_of (parts i)) then row_after i else bond;
            to_notify = ap (values_among shared.table.attributes) handles;
          };
          connection = λ i. record (parts i) {
            row = if is_some (key_of (parts i)) then (parts i).row else row_after i;
            said = answer i ∷ (parts i).said;
          };
          own = λ is. never is;
          to_notify_here = λ is. refl;
        }

    served-other : (pdu : Octets) (asked too : Question) → asked ≡ too → OtherEffect peer hidden (served shared bond owed connection pdu asked)
        (served there bond its other pdu too)
    served-other pdu asked too equal =
        subst (λ (q : Question). OtherEffect peer hidden (served shared bond owed connection pdu asked) (served there bond its other pdu q)) equal
        (served-asked pdu asked)

    request-other : (pdu : Octets) → (is_due (request_of pdu (connection_mtu shared connection)) && is_full shared connection) ≡ false
        → (is_due (request_of pdu (connection_mtu there other)) && is_full there other) ≡ false
        → OtherEffect peer hidden (request_effect shared bond owed connection pdu) (request_effect there bond its other pdu)
    request-other pdu spared spared_too =
        let asked : Question = request_of pdu (connection_mtu shared connection) in
        let too : Question = request_of pdu (connection_mtu there other) in
        both_choices (OtherEffect peer hidden) (is_due asked && is_full shared connection) (is_due too && is_full there other)
        (effect_on_connection shared bond owed (after_ending connection remote_user_terminated)) (served shared bond owed connection pdu asked)
        (effect_on_connection there bond its (after_ending other remote_user_terminated)) (served there bond its other pdu too)
        (spared ∙ sym spared_too) (λ is. cc (is, spared)) (λ is. served-other pdu asked too (ap (request_of pdu) (mtu_erased shared connection other parts)))

    channel-erased : (place : SharedState) (one : ConnectionState) (channel : ℕ) (answer : Option Octets) → (is_some answer && is_full place one) ≡ false
        → erased (after_other_channel place one channel answer) ≡ erased one
    channel-erased place one channel None spared = refl
    channel-erased place one channel (Some answer) spared = rw spared refl

    channel-peer : (place : SharedState) (one : ConnectionState) (channel : ℕ) (answer : Option Octets) → (after_other_channel place one channel answer).peer
        ≡ one.peer
    channel-peer place one channel None = refl
    channel-peer place one channel (Some answer) =
        either_choice (λ (p : ConnectionState). p.peer ≡ one.peer) (is_full place one) (after_ending one remote_user_terminated)
        (with_pdus one ((channel, answer) ∷ [])) refl refl

    link-other : (step : Step) → OtherEffect peer hidden (link_effect shared bond owed connection step) (link_effect there bond its other step)
    link-other step =
        let new : ConnectionState = with_step connection step in
        let too : ConnectionState = with_step other step in
        let stays : is_of peer (if lost_encryption (key_of connection) (key_of new) then after_ending new authentication_failure else new)
        ≡ is_of peer connection =
        either_choice (λ (p : ConnectionState). is_of peer p ≡ is_of peer connection) (lost_encryption (key_of connection) (key_of new))
        (after_ending new authentication_failure) new refl refl in
        record {
          turn = record { values = same; bond = refl; to_notify = refl };
          connection =
              both_choices (λ (a b : ConnectionState). erased a ≡ erased b) (lost_encryption (key_of connection) (key_of new))
              (lost_encryption (key_of other) (key_of too))
              (after_ending new authentication_failure) new (after_ending too authentication_failure) too
              (λ i. lost_encryption (key_of (parts i)) (key_of (with_step (parts i) step)))
              (λ is i. after_ending (with_step (parts i) step) authentication_failure) (λ is i. with_step (parts i) step);
          own = λ is. never (sym stays ∙ is);
          to_notify_here = λ is. never (sym stays ∙ is);
        }

    live-other : (own : Own) → (is_answer_due shared connection own && is_full shared connection) ≡ false
        → (is_answer_due there other own && is_full there other) ≡ false
        → OtherEffect peer hidden (live_effect shared bond owed connection own) (live_effect there bond its other own)
    unfolding live_effect
    live-other (Asks pdu) spared spared_too = request-other pdu spared spared_too
    live-other (OtherChannel channel payload) spared spared_too =
        let answer : Option Octets = channel_answer channel payload in
        to-part (after_other_channel shared connection channel answer) (after_other_channel there other channel answer)
        (channel-erased shared connection channel answer spared ∙ parts ∙ sym (channel-erased there other channel answer spared_too))
        (ap (λ (p : Peer). Rattle.le_security.specs.Entry.same_peer p peer) (channel-peer shared connection channel answer) ∙ foreign)
    live-other (KeyAsked random_number diversifier) spared spared_too =
        to-part (with_key_asked connection (key_asked_for shared.keys connection.peer random_number diversifier))
        (with_key_asked other (key_asked_for shared.keys other.peer random_number diversifier))
        (λ i. with_key_asked (parts i) (key_asked_for shared.keys (parts i).peer random_number diversifier)) foreign
    live-other (Encrypted status enabled) spared spared_too = link-other (Encryption status enabled)
    live-other (Refreshed status) spared spared_too = link-other (Refresh status)
    live-other (Authorized until) spared spared_too =
        to-part (record connection { until = until }) (record other { until = until }) (λ i. record (parts i) { until = until }) foreign
    live-other Ended spared spared_too =
        to-part (after_ending connection remote_user_terminated) (after_ending other remote_user_terminated)
        (λ i. after_ending (parts i) remote_user_terminated) foreign
    live-other (Connected handle other_peer) spared spared_too = kept
    live-other Disconnected spared spared_too = kept

    live-or-kept : (own : Own) → finds_no_room shared connection own ≡ false → finds_no_room there other own ≡ false
        → OtherEffect peer hidden (if is_live connection.mark then live_effect shared bond owed connection own
        else effect_on_connection shared bond owed connection)
        (if is_live other.mark then live_effect there bond its other own else effect_on_connection there bond its other)
    live-or-kept own spared spared_too =
        let marks : is_live connection.mark ≡ is_live other.mark = λ i. is_live (parts i).mark in
        both_choices (OtherEffect peer hidden) (is_live connection.mark) (is_live other.mark) (live_effect shared bond owed connection own)
        (effect_on_connection shared bond owed connection)
        (live_effect there bond its other own) (effect_on_connection there bond its other) marks
        (λ is. live-other own (and_false_right (is_live connection.mark) _ is spared) (and_false_right (is_live other.mark) _ (sym marks ∙ is) spared_too))
        (λ is. kept)

    came : (handle : ℕ) (of : Peer) → OtherEffect peer hidden (effect_of shared bond owed connection (Connected handle of))
        (effect_of there bond its other (Connected handle of))
    came handle of =
        let there_too : is_there connection.mark ≡ is_there other.mark = λ i. is_there (parts i).mark in
        record {
          turn = record { values = same; bond = refl; to_notify = refl };
          connection =
              both_choices (λ (a b : ConnectionState). erased a ≡ erased b) (is_there connection.mark) (is_there other.mark) connection
              (fresh_connection handle of) other (fresh_connection handle of) there_too
              (λ is. parts) (λ is. refl);
          own = both_choices (λ (a b : ConnectionState). is_of peer a ≡ true → a ≡ b) (is_there connection.mark) (is_there other.mark) connection
              (fresh_connection handle of) other (fresh_connection handle of) there_too
              (λ is mine. never mine) (λ is mine. refl);
          to_notify_here = λ is. refl;
        }

    pub other_effect : (own : Own) → finds_no_room shared connection own ≡ false → finds_no_room there other own ≡ false
        → OtherEffect peer hidden (effect_of shared bond owed connection own) (effect_of there bond its other own)
    other_effect (Connected handle of) spared spared_too = came handle of
    other_effect Disconnected spared spared_too = record {
      turn = record { values = same; bond = refl; to_notify = refl };
      connection = refl;
      own = λ is. refl;
      to_notify_here = λ is. refl;
    }
    other_effect own spared spared_too = live-or-kept own spared spared_too
