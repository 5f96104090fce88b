-- A request of the Attribute Protocol leads a host on.
use Rattle.std.proofs.Common.{◌≡◌, ℕ, Bool, true, false, List, [], ◌∷◌, ◌++◌, length, map, Option, Some, None, refl, sym, ap, subst, ◌∙◌}
use Rattle.std.specs.Prelude.{is_some, if◌then◌else◌, not, ◌&&◌, slice_get}
use Rattle.std.specs.Option.{option_and_then, option_map, option_map_or, option_to_list}
use Rattle.std.proofs.lemmas.Bool.{eq-eqb}
use Rattle.std.proofs.lemmas.Option.{slice_get-map}
use Rattle.att_numbers.specs.Types.{Handle, Row}
use Rattle.att_pdu.specs.Grammar.{request_of, is_due}
use Rattle.att_policy.specs.declared.standing.KeyFacts.{KeyFacts}
use Rattle.att_table.specs.Table.{Contents}
use Rattle.gatt_host.proofs.owing.Nexts.{clash}
use Rattle.gatt_conn.specs.Answer.{Question, handles_by, is_confirmation}
use Rattle.gatt_host.proofs.refinement.Holding.{Holds, Stays, ends_with, finished_stays, hears_and_skips, holds, holds_with_written, has_row, keyed_alike, slots_heard, some-is, HearsRaised, SameLink}
use Rattle.gatt_host.proofs.refinement.OneSlot.{raised_at, ready_where}
use Rattle.gatt_host.proofs.refinement.Effects.{holds_turned, kept_here, turned}
use Rattle.gatt_host.specs.declared.last_event.LastEvent.TheVariants as last
use Rattle.gatt_host.specs.ServerState.{ServerState, brought_by, server_slot_at, row_at, after_serving, ServesRequest}
use Rattle.gatt_host.specs.Notices.{row_at_place, notices_by}
use Rattle.gatt_host.specs.Owing.{all_given, slot_state_handed, slot_states_handed}
use Rattle.gatt_host.specs.StateRefinement.{bond_in, HoldsBonds, HasKeysOfItsPeer, IsServing, RefinesStep, RefinesState, IsSound}
use Rattle.gatt_laws.specs.machine.Controller.{is_ready}
use Rattle.gatt_laws.specs.machine.Event.{Ordinal, Of, Asks}
use Rattle.gatt_laws.specs.machine.Notice.{Confirmed, Ending, confirmation_told, end_told, live_told, event_told, write_told}
use Rattle.gatt_laws.specs.machine.ConnectionState.{ConnectionState, bearer_of, is_live, is_there, key_of, connection_mtu, row_in_force, after_ending}
use Rattle.gatt_laws.specs.machine.SharedState.{SharedState, Bonds, ServiceChangedPending}
use Rattle.gatt_laws.specs.machine.State.{State, all_to_notify, at_ordinal, at_peer, before_commands, change_of, finished, with_values}
use Rattle.gatt_laws.specs.machine.Effect.{Effect, live_effect, effect_of, effect_on_connection, served, is_full, remote_user_terminated, handles_written}
use Rattle.host_connections.proofs.states.Heard.{hears_of_values}
use Rattle.host_connections.proofs.states.Skips.{skipped_of_values}
use Rattle.host_connections.proofs.states.SlotStates.{connection_kept, link_key, live_there, row_kept}
use Rattle.host_connections.proofs.states.Requests.{served_bond, served_kept, served_owed, served_raised, served_raised_here, served_values}
use Rattle.host_connections.proofs.states.Effects.{full_kept, live_turned}
use Rattle.host_connections.specs.Hearing.{slot_row_in_force}
use Rattle.host_connections.specs.SlotState.{SlotState, slot_state_of, slot_state_if_there}
use Rattle.host_connections.specs.Request.{overflows, bond_after, bond_served, confirmed_of, confirms_changes, handles_written_by, slot_after_request, stored_of, table_after, with_owed_after}
use Rattle.host_connections.specs.Slots.{handles_for, slots_at}
use Rattle.gatt_subs.specs.declared.bond.Bond.{Bond}
use Rattle.gatt_subs.specs.declared.pending.Unconfirmed.{Unconfirmed}
use Rattle.gatt_subs.specs.Indications.{confirmed_handle, handle_if_current}
use Rattle.gatt_subs.specs.Rows.{Subscriptions, bond_of, row_of, ChangesBond}
use Rattle.le_hci.specs.declared.peer.Peer.{Peer}
use Rattle.le_security.proofs.Peers.{equal_peers, same_as_itself}
use Rattle.le_security.specs.Entry.{same_peer}
use Rattle.le_security.specs.Keys.{is_known}
use Rattle.le_security.specs.Link.{key_after}
use Rattle.le_security.specs.declared.entry.Entry.{Entry}
use Rattle.octet_io.specs.Number.{Octets}

-- the bond of a peer is changed, and no other
differs-too : (one other : Peer) → same_peer one other ≡ false → same_peer other one ≡ false
differs-too one other differs =
    elim (same_peer other one) as (λ (is : Bool). same_peer other one ≡ is → is ≡ false) [
      | true ↦ λ same.
          absurd (clash (sym differs ∙ ap (λ (peer : Peer). same_peer one peer) (equal_peers other one same) ∙ same_as_itself one))
      | false ↦ λ is. refl
    ] refl

mapped-known : (known : Bool) (change : Bond → Bond) (bond : Bond) → option_map change (if known then Some bond else None)
    ≡ (if known then Some (change bond) else None)
mapped-known true change bond = refl
mapped-known false change bond = refl

pub bonds_changed : (keys : List Entry) (change : Bond → Bond) (peer : Peer) (old new : Subscriptions) (bonds : Bonds) (owed : ServiceChangedPending)
    (row : Row) (owes : Bool)
    → HoldsBonds keys old bonds owed → ChangesBond change peer old new
    → change (bond_in bonds owed peer) ≡ record { row = row; owed = owes }
    → (is_known keys peer ≡ false → row ≡ bonds peer) → (is_known keys peer ≡ false → owes ≡ owed peer)
    → HoldsBonds keys new (at_peer peer row bonds) (at_peer peer owes owed)
bonds_changed keys change peer old new bonds owed row owes holds changes is row-stays owed-stays = record {
  known = λ other.
      elim (same_peer other peer) as (λ (same : Bool). same_peer other peer ≡ same
      → bond_of new other ≡ (if is_known keys other then Some (record { row = if same then row else bonds other; owed = if same then owes else owed other })
      else None)) [
        | true ↦ λ same.
            subst (λ (one : Peer). bond_of new one ≡ (if is_known keys one then Some (record { row = row; owed = owes }) else None))
            (sym (equal_peers other peer same))
            (changes.bond ∙ ap (λ found. option_map change found) (holds.known peer) ∙ mapped-known (is_known keys peer) change (bond_in bonds owed peer)
            ∙ ap (λ (bond : Bond). if is_known keys peer then Some bond else None) is)
        | false ↦ λ differs. changes.others other (differs-too other peer differs) ∙ holds.known other
      ] refl;
  row = λ other unknown.
      elim (same_peer other peer) as (λ (same : Bool). same_peer other peer ≡ same → (if same then row else bonds other) ≡ []) [
        | true ↦ λ same.
            let not-known : is_known keys peer ≡ false = ap (is_known keys) (sym (equal_peers other peer same)) ∙ unknown in
            row-stays not-known ∙ holds.row peer not-known
        | false ↦ λ differs. holds.row other unknown
      ] refl;
  owing = λ other unknown.
      elim (same_peer other peer) as (λ (same : Bool). same_peer other peer ≡ same → (if same then owes else owed other) ≡ false) [
        | true ↦ λ same.
            let not-known : is_known keys peer ≡ false = ap (is_known keys) (sym (equal_peers other peer same)) ∙ unknown in
            owed-stays not-known ∙ holds.owing peer not-known
        | false ↦ λ differs. holds.owing other unknown
      ] refl;
  listed = record {
    peers = changes.peers ∙ holds.listed.peers;
    count = changes.count ∙ holds.listed.count ∙ sym (ap length changes.peers);
    unfitted = changes.unfitted ∙ holds.listed.unfitted;
  };
}

-- what a request leaves of the bond of a peer that has no key
row-without-key : (full confirmed : Bool) (new : Row) (bond : Bond) → (if full then bond else with_owed_after confirmed (bond_after false new bond)).row
    ≡ bond.row
row-without-key true confirmed new bond = refl
row-without-key false confirmed new bond = refl

owed-without-key : (full confirmed : Bool) (new : Row) (bond : Bond) → bond.owed ≡ false
    → (if full then bond else with_owed_after confirmed (bond_after false new bond)).owed ≡ bond.owed
owed-without-key true confirmed new bond none = refl
owed-without-key false confirmed new bond none = ap (λ (owed : Bool). owed && not confirmed) none ∙ sym none

-- what is told of a confirmation
confirmed-by : (handle : ℕ) (unconfirmed : Option Unconfirmed)
    → map (Confirmed handle) (option_to_list (option_and_then handle_if_current unconfirmed)) ≡ confirmation_told handle unconfirmed
confirmed-by handle None = refl
confirmed-by handle (Some unconfirmed) =
    elim unconfirmed.outdated as (λ (outdated : Bool). map (Confirmed handle) (option_to_list (if outdated then None else Some unconfirmed.handle))
    ≡ (if outdated then [] else Confirmed handle unconfirmed.handle ∷ [])) [ true ↦ refl | false ↦ refl ]

unless-full : (full : Bool) (handles : List Handle) → (if full then [] else handles) ≡ (if not full then handles else [])
unless-full true handles = refl
unless-full false handles = refl

module _ (state : State) (server new : ServerState) (place : ℕ) (ordinal : Ordinal) (pdu : Octets) (sound : IsSound state)
    (refines : RefinesState state [] server) (serving : IsServing state place ordinal) where
  abbrev connection : ConnectionState
  connection = state.connections ordinal

  abbrev slot_state : SlotState
  slot_state = slot_state_of state.shared connection connection.given

  abbrev peer : Peer
  peer = connection.peer

  abbrev found : Option Row
  found = row_of server.rows peer

  abbrev effect : Effect
  effect = effect_of state.shared (state.bonds peer) (state.owed peer) connection (Asks pdu)

  abbrev live : Effect
  live = live_effect state.shared (state.bonds peer) (state.owed peer) connection (Asks pdu)

  is : Holds state (all_given state) server
  is = holds state server refines

  effect-is : (if is_live connection.mark then live else effect_on_connection state.shared (state.bonds peer) (state.owed peer) connection) ≡ live
  effect-is = live_turned state.shared (state.bonds peer) (state.owed peer) connection serving.live (Asks pdu)

  has : is_some (key_of connection) ≡ true → found ≡ Some (state.bonds peer)
  has = has_row state.shared.keys server.rows state.bonds state.owed connection is.rows (is.keyed ordinal)

  -- its link and its peer stay
  request-link : SameLink connection live.connection
  unfolding live_effect
  request-link =
      elim (is_due (request_of pdu (connection_mtu state.shared connection)) && is_full state.shared connection) as (λ (full : Bool). SameLink connection
      (if full then effect_on_connection state.shared (state.bonds peer) (state.owed peer) (after_ending connection remote_user_terminated)
      else served state.shared (state.bonds peer) (state.owed peer) connection pdu (request_of pdu (connection_mtu state.shared connection))).connection) [
        | true ↦ (refl, refl)
        | false ↦ (refl, refl)
      ]

  request-keyed : HasKeysOfItsPeer state.shared.keys
      (if is_live connection.mark then live else effect_on_connection state.shared (state.bonds peer) (state.owed peer) connection).connection
  request-keyed =
      subst (λ (effect : Effect). HasKeysOfItsPeer state.shared.keys effect.connection) (sym effect-is)
      (keyed_alike state.shared.keys connection live.connection request-link (is.keyed ordinal))

  -- the table
  abbrev table : Contents
  table = table_after server.table server.time found pdu slot_state

  with-values : (one : Contents) (now : ℕ) → table_after one now found pdu slot_state ≡ record one {
    values = (table_after one now found pdu slot_state).values;
  }
  with-values one now =
      elim (overflows pdu slot_state) as (λ (full : Bool). (if full then one else record one { values = (stored_of one now found pdu slot_state).values })
      ≡ record one { values = (if full then one else record one { values = (stored_of one now found pdu slot_state).values }).values }) [
        | true ↦ refl
        | false ↦ refl
      ]

  table-is : table ≡ record state.shared.table { values = effect.values }
  table-is =
      (λ i. table_after (is.table i) (is.time i) found pdu slot_state) ∙ with-values state.shared.table state.shared.time
      ∙ ap (λ values. record state.shared.table { values = values })
      (sym (served_values state.shared found (state.bonds peer) (state.owed peer) connection pdu serving.live (sound.queued ordinal) has))

  -- the bond
  abbrev bonded : Bond
  bonded = bond_in state.bonds state.owed peer

  abbrev change : Bond → Bond
  change bond = bond_served server.table server.time server.changer found pdu slot_state bond

  change-is : change bonded ≡ record { row = effect.bond; owed = effect.owed }
  change-is =
      (λ i. bond_served (is.table i) (is.time i) (is.changer i) found pdu slot_state bonded)
      ∙ λ i. record {
        row = sym (served_bond state.shared found (state.bonds peer) (state.owed peer) connection pdu serving.live (sound.queued ordinal) has) i;
        owed = sym (served_owed state.shared found (state.bonds peer) (state.owed peer) connection pdu serving.live (sound.queued ordinal) has) i;
      }

  no-key : is_known state.shared.keys peer ≡ false → is_some slot_state.link.key ≡ false
  no-key unknown =
      ap (λ (key : Option KeyFacts). is_some key) (link_key state.shared connection connection.given)
      ∙ elim (is_some (key_of connection)) as (λ (has : Bool). is_some (key_of connection) ≡ has → has ≡ false) [
        | true ↦ λ has. absurd (clash (sym unknown ∙ (is.keyed ordinal).key has))
        | false ↦ λ lacks. refl
      ] refl

  abbrev changed_by : Bool → Bond
  changed_by has_key =
      if overflows pdu slot_state then bonded
      else with_owed_after (confirms_changes server.changer pdu slot_state)
      (bond_after has_key (stored_of server.table server.time found pdu slot_state).row bonded)

  row-stays : is_known state.shared.keys peer ≡ false → effect.bond ≡ state.bonds peer
  row-stays unknown =
      sym (ap (λ (bond : Bond). bond.row) change-is) ∙ ap (λ (has_key : Bool). (changed_by has_key).row) (no-key unknown)
      ∙ row-without-key (overflows pdu slot_state) (confirms_changes server.changer pdu slot_state)
      (stored_of server.table server.time found pdu slot_state).row bonded

  owed-stays : is_known state.shared.keys peer ≡ false → effect.owed ≡ state.owed peer
  owed-stays unknown =
      sym (ap (λ (bond : Bond). bond.owed) change-is) ∙ ap (λ (has_key : Bool). (changed_by has_key).owed) (no-key unknown)
      ∙ owed-without-key (overflows pdu slot_state) (confirms_changes server.changer pdu slot_state)
      (stored_of server.table server.time found pdu slot_state).row bonded (is.rows.owing peer unknown)

  -- what its slot keeps
  slot-is : slot_state_if_there state.shared effect.connection connection.given ≡ option_map (slot_after_request server.table server.time found pdu)
      (slot_state_if_there state.shared connection connection.given)
  slot-is =
      served_kept state.shared found (state.bonds peer) (state.owed peer) connection pdu serving.live (sound.queued ordinal) has
      ∙ λ i. option_map (slot_after_request (sym is.table i) (sym is.time i) found pdu) (slot_state_if_there state.shared connection connection.given)

  abbrev serving_it : Subscriptions → ServerState
  serving_it rows = record server {
    table = table;
    rows = rows;
    slots = slots_at place (slot_after_request server.table server.time found pdu) server.slots;
    written = handles_written_by server.table server.time found pdu slot_state;
  }

  request-holds : (rows : Subscriptions) → ChangesBond change peer server.rows rows → Holds (change_of state (Of ordinal (Asks pdu))).state (all_given state)
      (serving_it rows)
  unfolding change_of
  request-holds rows changes =
      holds_with_written (turned state ordinal effect) (all_given state) _ (handles_written_by server.table server.time found pdu slot_state)
      (holds_turned state server is sound.settled place ordinal serving.there effect (slot_after_request server.table server.time found pdu) table rows table-is
      (bonds_changed state.shared.keys change peer server.rows rows state.bonds state.owed effect.bond effect.owed is.rows changes change-is row-stays
      owed-stays)
      request-keyed slot-is)

  -- there is no room for an answer that is due
  same-full : (is_due (request_of pdu (connection_mtu state.shared connection)) && is_full state.shared connection) ≡ overflows pdu slot_state
  same-full =
      ap (λ (full : Bool). is_due (request_of pdu (connection_mtu state.shared connection)) && full)
      (full_kept state.shared (state.bonds peer) (state.owed peer) connection serving.live (sound.queued ordinal))

  -- what the others hear
  abbrev handles : List Handle
  handles = handles_written_by server.table server.time found pdu slot_state

  raised-alike : (now : ℕ) (row : Option Row) (hearer : SlotState)
      → hears_and_skips (record state.shared.table { values = effect.values }) now row handles hearer
      ≡ hears_and_skips (record state.shared.table { values = effect.values }) now row effect.to_notify hearer
  raised-alike now row hearer =
      let after : Contents = record state.shared.table { values = effect.values } in
      let those : List Handle = handles_written_by state.shared.table state.shared.time found pdu slot_state in
      (λ i. hears_and_skips after now row (handles_written_by (is.table i) (is.time i) found pdu slot_state) hearer)
      ∙ sym (λ i. (hears_of_values after now row those hearer i, skipped_of_values after now row those hearer i))
      ∙ ap (λ (those : List Handle). hears_and_skips after now row those hearer)
      (sym (served_raised state.shared found (state.bonds peer) (state.owed peer) connection pdu serving.live (sound.queued ordinal) has))

  request-raised : HearsRaised (record state.shared.table { values = effect.values }) state.shared.time state.slots (handles_for (Some place) [] handles)
      (at_ordinal ordinal effect.to_notify_here (all_to_notify effect.to_notify))
  request-raised =
      raised_at (record state.shared.table { values = effect.values }) state.shared.time state.next state.slots place ordinal [] handles effect.to_notify_here
      effect.to_notify
      sound.settled.slots serving.there
      (sym (served_raised_here state.shared found (state.bonds peer) (state.owed peer) connection pdu serving.live (sound.queued ordinal) has))
      (raised-alike state.shared.time)

  -- What is told of it: what was written, by the row that is in force then.
  handles-written : handles ≡ handles_written state.shared (state.bonds peer) connection (Asks pdu)
  handles-written =
      let asked : Question = request_of pdu (connection_mtu state.shared connection) in
      let those : List Handle = handles_by state.shared.table (row_in_force (state.bonds peer) connection) (bearer_of state.shared connection) asked in
      (λ i. handles_written_by (is.table i) (is.time i) found pdu slot_state)
      ∙ (λ i. if overflows pdu slot_state then []
      else handles_by state.shared.table (row_kept state.shared connection connection.given found (state.bonds peer) has i)
      (connection_kept state.shared connection connection.given i) asked)
      ∙ unless-full (overflows pdu slot_state) those
      ∙ ap (λ (full : Bool). if not full then those else []) (sym same-full)
      ∙ ap (λ (live : Bool). if live && not (is_due asked && is_full state.shared connection) then those else []) (sym serving.live)

  -- the connection afterwards
  stays-there : is_there effect.connection.mark ≡ true
  unfolding live_effect
  stays-there =
      ap (λ (effect : Effect). is_there effect.connection.mark) effect-is
      ∙ elim (is_due (request_of pdu (connection_mtu state.shared connection)) && is_full state.shared connection) as (λ (full : Bool). is_there
      (if full then effect_on_connection state.shared (state.bonds peer) (state.owed peer) (after_ending connection remote_user_terminated)
      else served state.shared (state.bonds peer) (state.owed peer) connection pdu (request_of pdu (connection_mtu state.shared connection))).connection.mark
      ≡ true) [
        | true ↦ refl
        | false ↦ live_there connection.mark serving.live
      ]

  same-peer : effect.connection.peer ≡ peer
  same-peer = ap (λ (effect : Effect). effect.connection.peer) effect-is ∙ request-link.1

  module _ (rows : Subscriptions) (changes : ChangesBond change peer server.rows rows) where
    abbrev served_held : ServerState
    served_held = after_serving place pdu server rows slot_state

    abbrev shared_then : SharedState
    shared_then = with_values state.shared effect.values

    abbrev bonds_then : Bonds
    bonds_then = at_peer peer effect.bond state.bonds

    abbrev connection_then : ConnectionState
    connection_then =
        finished shared_then bonds_then (at_ordinal ordinal effect.to_notify_here (all_to_notify effect.to_notify) ordinal)
        (at_ordinal ordinal effect.connection state.connections ordinal)

    connection-is : Stays effect.connection connection_then
    connection-is =
        subst (λ (connection : ConnectionState). Stays connection connection_then)
        (ap (λ (same : Bool). if same then effect.connection else connection) (eq-eqb ordinal ordinal refl))
        (finished_stays shared_then bonds_then (at_ordinal ordinal effect.to_notify_here (all_to_notify effect.to_notify) ordinal)
        (at_ordinal ordinal effect.connection state.connections ordinal))

    -- what its slot keeps then
    slots-then : served_held.slots ≡ slot_states_handed (before_commands state (Of ordinal (Asks pdu))) (all_given state)
    unfolding change_of
    slots-then =
        sym (ap (λ (open_now : Bool). if open_now then served_held.slots else [])
        (ap is_ready is.controller ∙ ready_where state sound.settled place ordinal serving.there))
        ∙ slots_heard state (Of ordinal (Asks pdu)) sound tt (serving_it rows) (request-holds rows changes) (Some place) [] handles request-raised

    kept-then : server_slot_at served_held place ≡ Some (slot_state_of shared_then connection_then connection.given)
    unfolding change_of
    kept-then =
        let keep : Option Ordinal → Option SlotState = slot_state_handed (before_commands state (Of ordinal (Asks pdu))) (all_given state) in
        ap (λ (slots : List (Option SlotState)). option_map_or (λ (slot : Option SlotState). slot) (slice_get slots place) None) slots-then
        ∙ ap (λ found. option_map_or (λ (slot : Option SlotState). slot) found None)
        (slice_get-map keep state.slots place ∙ ap (λ found. option_map keep found) serving.there)
        ∙ ap (λ (there : Bool). if there then Some (slot_state_of shared_then connection_then connection.given) else None)
        (ap is_there connection-is.mark ∙ stays-there)

    -- the row in force then
    bonds-held : HoldsBonds state.shared.keys rows bonds_then (at_peer peer effect.owed state.owed)
    bonds-held =
        bonds_changed state.shared.keys change peer server.rows rows state.bonds state.owed effect.bond effect.owed is.rows changes change-is row-stays
        owed-stays

    has-then : is_some (key_of connection_then) ≡ true → row_of rows connection_then.peer ≡ Some (bonds_then connection_then.peer)
    has-then = has_row state.shared.keys rows bonds_then (at_peer peer effect.owed state.owed) connection_then bonds-held
        (keyed_alike state.shared.keys effect.connection connection_then (connection-is.steps, connection-is.peer) request-keyed)

    bond-then : bonds_then connection_then.peer ≡ effect.bond
    bond-then =
        ap bonds_then (connection-is.peer ∙ same-peer) ∙ ap (λ (same : Bool). if same then effect.bond else state.bonds peer) (same_as_itself peer)

    row-then : row_at_place served_held place ≡ row_in_force effect.bond effect.connection
    row-then =
        ap (λ (slot : Option SlotState). option_map_or (λ (slot_state : SlotState). slot_row_in_force (row_at served_held slot_state) slot_state) slot [])
        kept-then
        ∙ row_kept shared_then connection_then connection.given (row_of rows connection_then.peer) (bonds_then connection_then.peer) has-then
        ∙ λ i. if is_some (key_after (connection-is.steps i)) then bond-then i else connection-is.row i

    -- what it confirmed, and that it is ended
    confirmed-told : map (Confirmed connection.handle) (option_to_list (confirmed_of pdu slot_state))
        ≡ (if is_confirmation pdu then confirmation_told connection.handle connection.pending.unconfirmed else [])
    confirmed-told =
        elim (is_confirmation pdu) as
        (λ (is : Bool). map (Confirmed connection.handle) (option_to_list (if is then confirmed_handle connection.pending else None))
        ≡ (if is then confirmation_told connection.handle connection.pending.unconfirmed else [])) [
          | true ↦ confirmed-by connection.handle connection.pending.unconfirmed
          | false ↦ refl
        ]

    ended-told : (if overflows pdu slot_state then Ending connection.handle remote_user_terminated ∷ [] else []) ≡ end_told connection.handle effect.connection
    unfolding live_effect
    ended-told =
        let asked : Question = request_of pdu (connection_mtu state.shared connection) in
        ap (λ (full : Bool). if full then Ending connection.handle remote_user_terminated ∷ [] else []) (sym same-full)
        ∙ elim (is_due asked && is_full state.shared connection) as
        (λ (full : Bool). (if full then Ending connection.handle remote_user_terminated ∷ [] else [])
        ≡ end_told connection.handle
        (if full then effect_on_connection state.shared (state.bonds peer) (state.owed peer) (after_ending connection remote_user_terminated)
        else served state.shared (state.bonds peer) (state.owed peer) connection pdu asked).connection) [
          | true ↦ refl
          | false ↦ sym (ap (λ (live : Bool). if live then [] else map (Ending connection.handle) (option_to_list connection.reason)) serving.live)
        ]
        ∙ sym (ap (λ (effect : Effect). end_told connection.handle effect.connection) effect-is)

    request-told : notices_by served_held (last.Served place connection.handle (brought_by pdu slot_state)) ≡ event_told state (Of ordinal (Asks pdu))
    unfolding event_told
    request-told =
        (λ i. (map (write_told (table-is i).attributes (row-then i) connection.handle) (handles-written i) ++ confirmed-told i) ++ ended-told i)
        ∙ sym (ap (λ (live : Bool). if live then live_told state.shared (state.bonds peer) connection (Asks pdu) effect
        ++ end_told connection.handle effect.connection else []) serving.live)

    request-leads : RefinesStep state (Of ordinal (Asks pdu)) served_held
    unfolding change_of
    request-leads =
        ends_with state (Of ordinal (Asks pdu)) sound tt (serving_it rows) (request-holds rows changes) (Some place) [] handles request-raised
        (last.Served place connection.handle (brought_by pdu slot_state)) request-told

  served-leads : ServesRequest place pdu slot_state server new → RefinesStep state (Of ordinal (Asks pdu)) new
  served-leads serves =
      subst (λ (after : ServerState). RefinesStep state (Of ordinal (Asks pdu)) after) (sym serves.server)
      (request-leads new.rows serves.bond)

  kept-found : (kept' : SlotState) → server_slot_at server place ≡ Some kept' → kept' ≡ slot_state
  kept-found kept' at =
      sym (some-is (sym (kept_here state server is sound.settled place ordinal serving.there effect (λ slot_state. slot_state) serving.live) ∙ at))

pub request_leads : (state : State) (server new : ServerState) (place : ℕ) (ordinal : Ordinal) (pdu : Octets) (slot_state : SlotState) → IsSound state
    → RefinesState state [] server → IsServing state place ordinal → server_slot_at server place ≡ Some slot_state
    → ServesRequest place pdu slot_state server new
    → RefinesStep state (Of ordinal (Asks pdu)) new
request_leads state server new place ordinal pdu slot_state sound refines serving at serves =
    served-leads state server new place ordinal pdu sound refines serving
    (subst (λ (slot_state : SlotState). ServesRequest place pdu slot_state server new)
    (kept-found state server new place ordinal pdu sound refines serving slot_state at) serves)
