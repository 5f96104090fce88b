-- What an event changes of states that are alike to one connection.
use Rattle.std.proofs.Common.{◌≡◌, ℕ, zero, suc, Bool, true, false, ◌==◌, List, Some, refl, sym, ap, subst, ◌∙◌, arith}
use Rattle.std.specs.Prelude.{◌&&◌, if◌then◌else◌}
use Rattle.std.specs.Str.{bytes_eq}
use Rattle.std.proofs.lemmas.Bool.{eqb-true, ne_eqb}
use Rattle.att_numbers.specs.Types.{Handle, Values, Row}
use Rattle.att_pdu.specs.Grammar.{request_of, is_due}
use Rattle.att_table.specs.Table.{with_value}
use Rattle.att_writes.proofs.Lengths.{stored_both}
use Rattle.att_writes.specs.SameBut.{SameBut}
use Rattle.gatt_laws.proofs.isolation.EffectsAlike.{SameEffect, OwnEffect, OtherEffect, own_effect, other_effect}
use Rattle.octet_io.proofs.Choices.{both_choices}
use Rattle.gatt_laws.specs.laws.Alike.{erased}
use Rattle.gatt_laws.specs.laws.RowNotices.{is_replacement}
use Rattle.gatt_laws.specs.laws.TwoWorlds.{finds_no_room, is_answer_due}
use Rattle.gatt_laws.proofs.runs.Steady.{completed_steady}
use Rattle.gatt_laws.specs.machine.Event.{Ordinal, Own, Event, Connected, Disconnected, Asks, Of, Completed, Credit, Update, Tick, Replaced}
use Rattle.gatt_laws.specs.machine.ConnectionState.{Mark, ConnectionState, Absent, Live, Ending, is_live, is_there, row_in_force, connection_mtu, standing_of, after_ending}
use Rattle.gatt_laws.specs.machine.SharedState.{SharedState, ServiceChangedPending}
use Rattle.gatt_laws.specs.machine.State.{State, Change, with_values, at_peer, own_change, after_packets_completed, change_of}
use Rattle.gatt_laws.specs.machine.Effect.{Effect, effect_on_connection, effect_of, live_effect, served, is_full, remote_user_terminated}
use Rattle.gatt_subs.specs.Indications.{after_tick}
use Rattle.le_hci.specs.declared.peer.Peer.{Peer}
use Rattle.le_security.proofs.Peers.{equal_peers}
use Rattle.le_security.specs.Entry.{same_peer}
use Rattle.octet_io.specs.Number.{Octets}
use Rattle.gatt_theorems.specs.Alone.{AlikeTo, SparesOthers}
use Rattle.gatt_theorems.proofs.AloneAtEnd.{KnowsNone, readable-there}

pub record SameChange (ordinal : Ordinal) (peer : Peer) (hidden : Handle → Bool) (one other : Change) : Type 0 where
  pub state : AlikeTo ordinal peer hidden one.state other.state
  pub to_notify : one.to_notify ordinal ≡ other.to_notify ordinal

abbrev pub moved : State → Values → ServiceChangedPending → (Ordinal → ConnectionState) → State
moved state values owed parts = record state { shared = with_values state.shared values; owed = owed; connections = parts }

-- a peer that is owed nothing comes to be owed nothing
served-unowed : (shared : SharedState) (bond : Row) (connection : ConnectionState) (pdu : Octets) (ended live : Bool)
    → (if live then (if ended then effect_on_connection shared bond false (after_ending connection remote_user_terminated)
    else served shared bond false connection pdu (request_of pdu (connection_mtu shared connection)))
    else effect_on_connection shared bond false connection).owed ≡ false
served-unowed shared bond connection pdu true true = refl
served-unowed shared bond connection pdu false true = refl
served-unowed shared bond connection pdu ended false = refl

live-unowed : (shared : SharedState) (bond : Row) (connection : ConnectionState) (own : Own) (live : Bool) → (live_effect shared bond false connection own).owed
    ≡ false
    → (if live then live_effect shared bond false connection own else effect_on_connection shared bond false connection).owed ≡ false
live-unowed shared bond connection own true is = is
live-unowed shared bond connection own false is = refl

unowed : (shared : SharedState) (bond : Row) (connection : ConnectionState) (own : Own) → (effect_of shared bond false connection own).owed ≡ false
unfolding live_effect
unowed shared bond connection (Connected handle peer) = refl
unowed shared bond connection Disconnected = refl
unowed shared bond connection (Asks pdu) =
    served-unowed shared bond connection pdu (is_due (request_of pdu (connection_mtu shared connection)) && is_full shared connection) (is_live connection.mark)
unowed shared bond connection own = live-unowed shared bond connection own (is_live connection.mark) refl

unowed-at : (shared : SharedState) (bond : Row) (connection : ConnectionState) (own : Own) (peer : Peer) (owing : ServiceChangedPending) (same : Bool)
    → same_peer peer connection.peer ≡ same
    → owing peer ≡ false → (if same then (effect_of shared bond (owing connection.peer) connection own).owed else owing peer) ≡ false
unowed-at shared bond connection own peer owing true is none =
    let equal : peer ≡ connection.peer = equal_peers peer connection.peer is in
    ap (λ (owed : Bool). (effect_of shared bond owed connection own).owed) (ap owing (sym equal) ∙ none) ∙ unowed shared bond connection own
unowed-at shared bond connection own peer owing false is none = none

-- another peer than that of a connection
other-peer : Peer → Peer
other-peer peer = record { kind = suc peer.kind; address = peer.address }

is-other : (peer : Peer) → same_peer peer (other-peer peer) ≡ false
unfolding other-peer
is-other peer =
    ap (λ (same : Bool). same && bytes_eq peer.address peer.address) (ne_eqb peer.kind (suc peer.kind) (λ is. absurd (omega (arith, is))))

-- of a connection that is not there all is the same, whatever is owed
away-live : (connection : ConnectionState) → is_there connection.mark ≡ false → is_live connection.mark ≡ false
away-live connection away = of-mark connection.mark away
  where
    of-mark : (mark : Mark) → is_there mark ≡ false → is_live mark ≡ false
    of-mark Absent is = refl
    of-mark Live is = cc is
    of-mark Ending is = refl

record SameHere (one other : Effect) : Type 0 where
  connection : one.connection ≡ other.connection
  to_notify_here : one.to_notify_here ≡ other.to_notify_here

module _ (shared there : SharedState) (bond : Row) (owed its : Bool) (connection : ConnectionState) (away : is_there connection.mark ≡ false) where
  kept-here : (own : Own)
      → SameHere (if is_live connection.mark then live_effect shared bond owed connection own else effect_on_connection shared bond owed connection)
      (if is_live connection.mark then live_effect there bond its connection own else effect_on_connection there bond its connection)
  kept-here own =
      both_choices SameHere (is_live connection.mark) (is_live connection.mark) (live_effect shared bond owed connection own)
      (effect_on_connection shared bond owed connection)
      (live_effect there bond its connection own) (effect_on_connection there bond its connection) refl
      (λ is. absurd (cc (is, away-live connection away))) (λ is. record { connection = refl; to_notify_here = refl })

  away-here : (own : Own) → SameHere (effect_of shared bond owed connection own) (effect_of there bond its connection own)
  away-here (Connected handle peer) = record { connection = refl; to_notify_here = refl }
  away-here Disconnected = record { connection = refl; to_notify_here = refl }
  away-here own = kept-here own

module _ (ordinal : Ordinal) (peer : Peer) (hidden : Handle → Bool) (state : State) (ys : Values) (owing : ServiceChangedPending)
    (others : Ordinal → ConnectionState)
    (same : SameBut hidden state.shared.table.values ys) (owes : state.owed peer ≡ false) (owes_too : owing peer ≡ false)
    (own : state.connections ordinal ≡ others ordinal) (rest : (at : Ordinal) → erased (state.connections at) ≡ erased (others at)) where
  abbrev far : State
  far = moved state ys owing others

  abbrev turn_at : Ordinal → Own → Effect
  turn_at at act = effect_of state.shared (state.bonds (state.connections at).peer) (state.owed (state.connections at).peer) (state.connections at) act

  abbrev turn_far : Ordinal → Own → Effect
  turn_far at act = effect_of (with_values state.shared ys) (state.bonds (others at).peer) (owing (others at).peer) (others at) act

  after-turns : (at : Ordinal) (act : Own) → SameEffect hidden (turn_at at act) (turn_far at act)
      → (if ordinal == at then (turn_at at act).connection else state.connections ordinal)
      ≡ (if ordinal == at then (turn_far at act).connection else others ordinal)
      → erased (turn_at at act).connection ≡ erased (turn_far at act).connection
      → (if ordinal == at then (turn_at at act).to_notify_here else (turn_at at act).to_notify)
      ≡ (if ordinal == at then (turn_far at act).to_notify_here else (turn_far at act).to_notify)
      → SameChange ordinal peer hidden (own_change state at act) (own_change far at act)
  after-turns at act turns connection erasure raised =
      let peers : (state.connections at).peer ≡ (others at).peer = λ i. (rest at i).peer in
      let bonds = turns.bond in
      record {
        state = record {
          shared = refl;
          values = turns.values;
          bonds = λ i. at_peer (peers i) (bonds i) state.bonds;
          owed = unowed-at state.shared (state.bonds (state.connections at).peer) (state.connections at) act peer state.owed
              (same_peer peer (state.connections at).peer) refl owes;
          owed_too =
              unowed-at (with_values state.shared ys) (state.bonds (others at).peer) (others at) act peer owing (same_peer peer (others at).peer) refl owes_too;
          own = connection;
          others = λ one.
              both_choices (λ (a b : ConnectionState). erased a ≡ erased b) (one == at) (one == at) (turn_at at act).connection (state.connections one)
              (turn_far at act).connection (others one) refl
              (λ is. erasure) (λ is. rest one);
          slots = refl;
          next = refl;
          controller = refl;
        };
        to_notify = raised;
      }

  -- what happens to the connection itself
  own-turns : (act : Own) → KnowsNone hidden state.shared state.bonds (state.connections ordinal) → state.owed (state.connections ordinal).peer
      ≡ owing (others ordinal).peer
      → OwnEffect hidden (turn_at ordinal act) (turn_far ordinal act)
  own-turns act hides owed =
      let connection : ConnectionState = state.connections ordinal in
      let bond : Row = state.bonds connection.peer in
      subst (λ (t : Effect). OwnEffect hidden (turn_at ordinal act) t)
      (λ i. effect_of (with_values state.shared ys) (state.bonds (own i).peer) (owed i) (own i) act)
      (own_effect hidden state.shared ys same bond (state.owed connection.peer) connection act
      (λ live. record {
        attributes = refl;
        readable =
            readable-there hidden state.shared.table.attributes (row_in_force bond connection) (standing_of state.shared connection) state.shared.table.values
            ys same (hides live);
      }))

  -- what happens to any connection, as that of another peer
  other-turns : (at : Ordinal) (act : Own) → finds_no_room state.shared (state.connections at) act ≡ false
      → finds_no_room (with_values state.shared ys) (others at) act ≡ false
      → OtherEffect (other-peer (state.connections at).peer) hidden (turn_at at act) (turn_far at act)
  other-turns at act spared spared_too =
      let connection : ConnectionState = state.connections at in
      let bond : Row = state.bonds connection.peer in
      let parts : erased connection ≡ erased (others at) = rest at in
      let peer_there : Peer = other-peer connection.peer in
      subst (λ (t : Effect). OtherEffect peer_there hidden (turn_at at act) t)
      (λ i. effect_of (with_values state.shared ys) (state.bonds (parts i).peer) (owing (others at).peer) (others at) act)
      (other_effect hidden state.shared ys same peer_there bond (state.owed connection.peer) (owing (others at).peer) connection (others at) parts
      (is-other connection.peer) act spared spared_too)

  no-room-away : (shared : SharedState) (connection : ConnectionState) (act : Own) → is_there connection.mark ≡ false → finds_no_room shared connection act
      ≡ false
  no-room-away shared connection act away =
      ap (λ (live : Bool). live && (is_answer_due shared connection act && is_full shared connection)) (away-live connection away)

  other-change : (at : Ordinal) (act : Own) → (ordinal == at) ≡ false → finds_no_room state.shared (state.connections at) act ≡ false
      → finds_no_room (with_values state.shared ys) (others at) act ≡ false
      → SameChange ordinal peer hidden (own_change state at act) (own_change far at act)
  other-change at act is spared spared_too =
      let turns = other-turns at act spared spared_too in
      let raised = turns.turn.to_notify in
      after-turns at act turns.turn
      (ap (λ (mine : Bool). if mine then (turn_at at act).connection else state.connections ordinal) is ∙ own
      ∙ sym (ap (λ (mine : Bool). if mine then (turn_far at act).connection else others ordinal) is))
      turns.connection
      (ap (λ (mine : Bool). if mine then (turn_at at act).to_notify_here else (turn_at at act).to_notify) is ∙ raised
      ∙ sym (ap (λ (mine : Bool). if mine then (turn_far at act).to_notify_here else (turn_far at act).to_notify) is))

  there-change : (act : Own) → KnowsNone hidden state.shared state.bonds (state.connections ordinal) → (state.connections ordinal).peer ≡ peer
      → SameChange ordinal peer hidden (own_change state ordinal act) (own_change far ordinal act)
  there-change act hides named =
      let owed : state.owed (state.connections ordinal).peer ≡ owing (others ordinal).peer =
      ap state.owed named ∙ owes ∙ sym owes_too ∙ ap owing (sym named ∙ ap (λ (connection : ConnectionState). connection.peer) own) in
      let turns = own-turns act hides owed in
      let connection = turns.connection in
      let here = turns.to_notify_here in
      let raised = turns.turn.to_notify in
      after-turns ordinal act turns.turn (λ i. if ordinal == ordinal then connection i else own i) (λ i. erased (connection i))
      (λ i. if ordinal == ordinal then here i else raised i)

  away-change : (act : Own) → is_there (state.connections ordinal).mark ≡ false
      → SameChange ordinal peer hidden (own_change state ordinal act) (own_change far ordinal act)
  away-change act away =
      let away_too : is_there (others ordinal).mark ≡ false = sym (ap (λ (connection : ConnectionState). is_there connection.mark) own) ∙ away in
      let turns =
      other-turns ordinal act (no-room-away state.shared (state.connections ordinal) act away)
      (no-room-away (with_values state.shared ys) (others ordinal) act away_too) in
      let same_here : SameHere (turn_at ordinal act) (turn_far ordinal act) =
      subst (λ (connection : ConnectionState).
      SameHere (turn_at ordinal act) (effect_of (with_values state.shared ys) (state.bonds connection.peer) (owing (others ordinal).peer) connection act)) own
      (away-here state.shared (with_values state.shared ys) (state.bonds (state.connections ordinal).peer) (state.owed (state.connections ordinal).peer)
      (owing (others ordinal).peer)
      (state.connections ordinal) away act) in
      let connection = same_here.connection in
      let here = same_here.to_notify_here in
      let raised = turns.turn.to_notify in
      after-turns ordinal act turns.turn (λ i. if ordinal == ordinal then connection i else own i) (λ i. erased (connection i))
      (λ i. if ordinal == ordinal then here i else raised i)

  of-change : (at : Ordinal) (act : Own) (mine there : Bool) → (ordinal == at) ≡ mine → is_there (state.connections ordinal).mark ≡ there
      → KnowsNone hidden state.shared state.bonds (state.connections ordinal)
      → (is_there (state.connections ordinal).mark ≡ true → (state.connections ordinal).peer ≡ peer)
      → SparesOthers ordinal state (Of at act) → SparesOthers ordinal far (Of at act)
      → SameChange ordinal peer hidden (own_change state at act) (own_change far at act)
  of-change at act true true is there hides named spares spares_too =
      subst (λ (one : Ordinal). SameChange ordinal peer hidden (own_change state one act) (own_change far one act)) (eqb-true ordinal at is)
      (there-change act hides (named there))
  of-change at act true false is away hides named spares spares_too =
      subst (λ (one : Ordinal). SameChange ordinal peer hidden (own_change state one act) (own_change far one act)) (eqb-true ordinal at is)
      (away-change act away)
  of-change at act false there is was hides named spares spares_too = other-change at act is (spares is) (spares_too is)

  completed-erased : (at : Ordinal) (entries : List (Ordinal × ℕ)) (connection : ConnectionState) → erased (after_packets_completed at entries connection)
      ≡ erased connection
  completed-erased = completed_steady erased (λ of done. refl)

  stored-too : (handle : Handle) (value : Octets) → SameBut hidden (with_value state.shared.table.values handle value) (with_value ys handle value)
  stored-too zero value = stored_both hidden state.shared.table.values ys 1 value value (omega arith) same refl (λ shown. refl)
  stored-too (suc before) value = stored_both hidden state.shared.table.values ys (suc before) value value (omega arith) same refl (λ shown. refl)

  pub change-same : (event : Event) → is_replacement event ≡ false → KnowsNone hidden state.shared state.bonds (state.connections ordinal)
      → (is_there (state.connections ordinal).mark ≡ true → (state.connections ordinal).peer ≡ peer)
      → SparesOthers ordinal state event → SparesOthers ordinal far event
      → SameChange ordinal peer hidden (change_of state event) (change_of far event)
  unfolding change_of
  change-same (Of at act) kept hides named spares spares_too =
      of-change at act (ordinal == at) (is_there (state.connections ordinal).mark) refl refl hides named spares spares_too
  change-same (Completed entries) kept hides named spares spares_too = record {
    state = record {
      shared = refl;
      values = same;
      bonds = refl;
      owed = owes;
      owed_too = owes_too;
      own = ap (after_packets_completed ordinal entries) own;
      others = λ at. completed-erased at entries (state.connections at) ∙ rest at ∙ sym (completed-erased at entries (others at));
      slots = refl;
      next = refl;
      controller = refl;
    };
    to_notify = refl;
  }
  change-same (Credit allowed opcode status (Some init)) kept hides named spares spares_too =
      record {
        state = record {
          shared = refl;
          values = same;
          bonds = refl;
          owed = owes;
          owed_too = owes_too;
          own = own;
          others = rest;
          slots = refl;
          next = refl;
          controller = refl;
        };
        to_notify = refl;
      }
  change-same (Update handle value) kept hides named spares spares_too = record {
    state = record {
      shared = refl;
      values = stored-too handle value;
      bonds = refl;
      owed = owes;
      owed_too = owes_too;
      own = own;
      others = rest;
      slots = refl;
      next = refl;
      controller = refl;
    };
    to_notify = refl;
  }
  change-same (Tick time) kept hides named spares spares_too = record {
    state = record {
      shared = refl;
      values = same;
      bonds = refl;
      owed = owes;
      owed_too = owes_too;
      own = ap (λ (p : ConnectionState). record p { pending = after_tick p.pending time }) own;
      others = λ at. rest at;
      slots = refl;
      next = refl;
      controller = refl;
    };
    to_notify = refl;
  }
  change-same (Replaced table) kept hides named spares spares_too = cc kept
  change-same event kept hides named spares spares_too = record {
    state = record {
      shared = refl;
      values = same;
      bonds = refl;
      owed = owes;
      owed_too = owes_too;
      own = own;
      others = rest;
      slots = refl;
      next = refl;
      controller = refl;
    };
    to_notify = refl;
  }
