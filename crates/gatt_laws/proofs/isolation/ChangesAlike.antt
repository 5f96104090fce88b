-- The changes that one event makes in two states, one of which is the other with these values, owing, and connections.
use Rattle.std.proofs.Common.{◌≡◌, ℕ, zero, suc, Bool, true, false, ◌==◌, List, [], ◌∷◌, Option, Some, None, refl, sym, ap, subst, ◌∙◌, arith}
use Rattle.std.specs.Prelude.{if◌then◌else◌}
use Rattle.std.specs.Option.{option_to_list}
use Rattle.att_numbers.specs.Types.{Handle, Values, Row}
use Rattle.att_table.specs.Changer.{changer_of}
use Rattle.att_table.specs.ConfigRow.{kept_row}
use Rattle.att_table.specs.Table.{Contents, with_value}
use Rattle.att_writes.proofs.Lengths.{stored_both}
use Rattle.att_writes.specs.SameBut.{SameBut}
use Rattle.gatt_conn.specs.Transcript.{Dropped}
use Rattle.gatt_laws.proofs.isolation.EffectsAlike.{SameEffect, OwnEffect, OtherEffect, own_effect, other_effect}
use Rattle.octet_io.proofs.Choices.{both_choices, either_choice}
use Rattle.gatt_laws.specs.laws.Alike.{erased, is_of, Alike, HidesFrom}
use Rattle.gatt_laws.specs.machine.Event.{Ordinal, Own, Of, Completed, Credit, Update, Tick, Replaced, Nothing}
use Rattle.gatt_laws.specs.machine.ConnectionState.{ConnectionState, is_live, row_in_force, standing_of}
use Rattle.gatt_laws.specs.machine.SharedState.{ServiceChangedPending}
use Rattle.gatt_laws.specs.machine.Controller.{Controller, Slots}
use Rattle.gatt_laws.specs.machine.State.{State, Change, none_to_notify, slots_when_ready, with_values, at_peer, after_effect, own_change, with_packets_completed, after_packets_completed, all_changed, announced, connection_dropped, connection_after_replacement, change_of}
use Rattle.gatt_laws.specs.machine.Effect.{Effect, effect_of}
use Rattle.gatt_laws.specs.laws.TwoWorlds.{SameTable, finds_no_room, Spared}
use Rattle.gatt_subs.specs.Fit.{wants_changes}
use Rattle.gatt_subs.specs.Indications.{after_tick, after_replacement}
use Rattle.le_hci.specs.declared.buffers.Buffers.{Buffers}
use Rattle.le_hci.specs.declared.init.Init.{Init}
use Rattle.le_hci.specs.declared.peer.Peer.{Peer}
use Rattle.le_hci.specs.InitTold.{told_in}
use Rattle.le_security.proofs.Peers.{equal_peers, same_as_itself}
use Rattle.le_security.specs.Entry.{same_peer}
use Rattle.octet_io.specs.Number.{Octets}
use Rattle.gatt_laws.proofs.isolation.AlikeHearing.{readable-there}

abbrev pub moved : State → Values → ServiceChangedPending → (Ordinal → ConnectionState) → State
moved state values owed connections = record state { shared = with_values state.shared values; owed = owed; connections = connections }

pub record SameChange (peer : Peer) (hidden : Handle → Bool) (one other : Change) : Type 0 where
  pub state : Alike peer hidden one.state other.state
  pub to_notify : (ordinal : Ordinal) → is_of peer (one.state.connections ordinal) ≡ true → one.to_notify ordinal ≡ other.to_notify ordinal

-- a peer that is not this one
not-the-other : (one other : Peer) → same_peer one other ≡ false → same_peer other one ≡ false
not-the-other one other differs =
    elim (same_peer other one) as (λ (same : Bool). same_peer other one ≡ same → same ≡ false) [
      | false ↦ λ is. refl
      | true ↦ λ is. cc (sym (ap (λ (p : Peer). same_peer p other) (equal_peers other one is)) ∙ same_as_itself other, differs)
    ] refl

module _ (peer : Peer) (hidden : Handle → Bool) (state : State) (ys : Values) (owing : ServiceChangedPending) (others : Ordinal → ConnectionState)
    (same : SameBut hidden state.shared.table.values ys) (owes : state.owed peer ≡ owing peer)
    (own : (ordinal : Ordinal) → is_of peer (state.connections ordinal) ≡ true → state.connections ordinal ≡ others ordinal)
    (rest : (ordinal : Ordinal) → erased (state.connections ordinal) ≡ erased (others ordinal)) where
  abbrev far : State
  far = moved state ys owing others

  -- what happens to one connection
  after-turns : (at : Ordinal) (act : Own) (effect its : Effect) → SameEffect hidden effect its
      → (if same_peer peer (state.connections at).peer then effect.owed else state.owed peer)
      ≡ (if same_peer peer (others at).peer then its.owed else owing peer)
      → (is_of peer effect.connection ≡ true → effect.connection ≡ its.connection) → erased effect.connection ≡ erased its.connection
      → (is_of peer effect.connection ≡ true → effect.to_notify_here ≡ its.to_notify_here)
      → SameChange peer hidden (after_effect state at act effect) (after_effect far at act its)
  after-turns at act effect its turns owed connection erasure here =
      let peers : (state.connections at).peer ≡ (others at).peer = λ i. (rest at i).peer in
      let bonds = turns.bond in
      record {
        state = record {
          shared = refl;
          values = turns.values;
          bonds = λ i. at_peer (peers i) (bonds i) state.bonds;
          owed = owed;
          own = λ ordinal.
              both_choices (λ (a b : ConnectionState). is_of peer a ≡ true → a ≡ b) (ordinal == at) (ordinal == at) effect.connection
              (state.connections ordinal) its.connection (others ordinal) refl
              (λ is. connection) (λ is. own ordinal);
          others = λ ordinal.
              both_choices (λ (a b : ConnectionState). erased a ≡ erased b) (ordinal == at) (ordinal == at) effect.connection (state.connections ordinal)
              its.connection (others ordinal) refl
              (λ is. erasure) (λ is. rest ordinal);
          slots = refl;
          next = refl;
          controller = refl;
        };
        to_notify = λ ordinal.
            elim (ordinal == at) as (λ (is : Bool). is_of peer (if is then effect.connection else state.connections ordinal) ≡ true
            → (if is then effect.to_notify_here else effect.to_notify) ≡ (if is then its.to_notify_here else its.to_notify)) [
              | true ↦ here
              | false ↦ λ mine. turns.to_notify
            ];
      }

  own-change : (at : Ordinal) (act : Own) → HidesFrom peer hidden state.shared state.bonds (state.connections at) → is_of peer (state.connections at) ≡ true
      → SameChange peer hidden (own_change state at act) (own_change far at act)
  own-change at act hides mine =
      let connection : ConnectionState = state.connections at in
      let bond : Row = state.bonds connection.peer in
      let alike : connection ≡ others at = own at mine in
      let named : connection.peer ≡ peer = equal_peers connection.peer peer mine in
      let named_too : (others at).peer ≡ peer = sym (ap (λ (p : ConnectionState). p.peer) alike) ∙ named in
      let owed : state.owed connection.peer ≡ owing (others at).peer = ap state.owed named ∙ owes ∙ sym (ap owing named_too) in
      let its : Effect = effect_of (with_values state.shared ys) (state.bonds (others at).peer) (owing (others at).peer) (others at) act in
      let turns : OwnEffect hidden (effect_of state.shared bond (state.owed connection.peer) connection act) its =
      subst (λ (t : Effect). OwnEffect hidden (effect_of state.shared bond (state.owed connection.peer) connection act) t)
      (λ i. effect_of (with_values state.shared ys) (state.bonds (alike i).peer) (owed i) (alike i) act)
      (own_effect hidden state.shared ys same bond (state.owed connection.peer) connection act
      (λ live. record {
        attributes = refl;
        readable =
            readable-there hidden state.shared.table.attributes (row_in_force bond connection) (standing_of state.shared connection) state.shared.table.values
            ys same (hides live mine);
      })) in
      let owes_then = turns.owed in
      after-turns at act (effect_of state.shared bond (state.owed connection.peer) connection act) its turns.turn
      (λ i. if same_peer peer (alike i).peer then owes_then i else owes i) (λ is. turns.connection) (λ i. erased (turns.connection i))
      (λ is. turns.to_notify_here)

  other-change : (at : Ordinal) (act : Own) → is_of peer (state.connections at) ≡ false → finds_no_room state.shared (state.connections at) act ≡ false
      → finds_no_room (with_values state.shared ys) (others at) act ≡ false → SameChange peer hidden (own_change state at act) (own_change far at act)
  other-change at act foreign spared spared_too =
      let connection : ConnectionState = state.connections at in
      let bond : Row = state.bonds connection.peer in
      let same_rest : erased connection ≡ erased (others at) = rest at in
      let foreign_too : is_of peer (others at) ≡ false = sym (λ i. is_of peer (same_rest i)) ∙ foreign in
      let its : Effect = effect_of (with_values state.shared ys) (state.bonds (others at).peer) (owing (others at).peer) (others at) act in
      let turns : OtherEffect peer hidden (effect_of state.shared bond (state.owed connection.peer) connection act) its =
      subst (λ (t : Effect). OtherEffect peer hidden (effect_of state.shared bond (state.owed connection.peer) connection act) t)
      (λ i. effect_of (with_values state.shared ys) (state.bonds (same_rest i).peer) (owing (others at).peer) (others at) act)
      (other_effect hidden state.shared ys same peer bond (state.owed connection.peer) (owing (others at).peer) connection (others at) same_rest foreign act
      spared spared_too) in
      let kept : (effect : Effect) (q : Peer) (test : Bool) (left : Bool) → test ≡ false → (if test then effect.owed else left) ≡ left =
      λ effect q test left is. ap (λ (b : Bool). if b then effect.owed else left) is in
      after-turns at act (effect_of state.shared bond (state.owed connection.peer) connection act) its turns.turn
      (kept (effect_of state.shared bond (state.owed connection.peer) connection act) connection.peer (same_peer peer connection.peer) (state.owed peer)
      (not-the-other connection.peer peer foreign)
      ∙ owes ∙ sym (kept its (others at).peer (same_peer peer (others at).peer) (owing peer) (not-the-other (others at).peer peer foreign_too)))
      turns.own turns.connection turns.to_notify_here

  pub of-change : (at : Ordinal) (act : Own) → HidesFrom peer hidden state.shared state.bonds (state.connections at) → Spared peer state (Of at act)
      → Spared peer far (Of at act)
      → SameChange peer hidden (own_change state at act) (own_change far at act)
  of-change at act hides spared spared_too =
      let same_rest : erased (state.connections at) ≡ erased (others at) = rest at in
      elim (is_of peer (state.connections at)) as (λ (mine : Bool). is_of peer (state.connections at) ≡ mine
      → SameChange peer hidden (own_change state at act) (own_change far at act)) [
        | true ↦ λ is. own-change at act hides is
        | false ↦ λ is. other-change at act is (spared is) (spared_too (sym (λ i. is_of peer (same_rest i)) ∙ is))
      ] refl

  -- packets are completed
  completed-erased : (ordinal : Ordinal) (entries : List (Ordinal × ℕ)) (connection : ConnectionState)
      → erased (after_packets_completed ordinal entries connection) ≡ erased connection
  completed-erased ordinal [] connection = refl
  completed-erased ordinal (entry ∷ entries) connection =
      completed-erased ordinal entries (if entry.0 == ordinal then with_packets_completed connection entry.1 else connection)
      ∙ either_choice (λ (p : ConnectionState). erased p ≡ erased connection) (entry.0 == ordinal) (with_packets_completed connection entry.1) connection refl
      refl

  pub completed-change : (entries : List (Ordinal × ℕ)) → SameChange peer hidden (change_of state (Completed entries)) (change_of far (Completed entries))
  unfolding change_of
  completed-change entries = record {
    state = record {
      shared = refl;
      values = same;
      bonds = refl;
      owed = owes;
      own = λ ordinal mine. ap (after_packets_completed ordinal entries)
          (own ordinal (sym (ap (λ (p : ConnectionState). is_of peer p) (completed-erased ordinal entries (state.connections ordinal))) ∙ mine));
      others = λ ordinal. completed-erased ordinal entries (state.connections ordinal) ∙ rest ordinal ∙ sym (completed-erased ordinal entries (others ordinal));
      slots = refl;
      next = refl;
      controller = refl;
    };
    to_notify = λ ordinal mine. refl;
  }

  -- other buffers, slots, and controller in both
  beside-change : (buffers : Option Buffers) (slots : Slots) (controller : Controller) → SameChange peer hidden
      (record {
        state = record state { shared = record state.shared { buffers = buffers }; slots = slots; controller = controller };
        to_notify = none_to_notify;
      })
      (record { state = record far { shared = record far.shared { buffers = buffers }; slots = slots; controller = controller }; to_notify = none_to_notify })
  beside-change buffers slots controller = record {
    state = record {
      shared = refl;
      values = same;
      bonds = refl;
      owed = owes;
      own = own;
      others = rest;
      slots = refl;
      next = refl;
      controller = refl;
    };
    to_notify = λ ordinal mine. refl;
  }

  -- a command is answered
  pub credit-change : (allowed opcode : ℕ) (status : Option ℕ) (following : Option Init)
      → SameChange peer hidden (change_of state (Credit allowed opcode status following)) (change_of far (Credit allowed opcode status following))
  unfolding change_of
  credit-change allowed opcode status (Some init) =
      beside-change (told_in init) (slots_when_ready state.shared.slots init state.slots)
      (record state.controller { credit = allowed; init = init; awaiting = false })
  credit-change allowed opcode status None = beside-change state.shared.buffers state.slots _

  -- the same is stored in both, also at no handle at all
  stored-too : (following : Handle → Bool) (xs zs : Values) (handle : Handle) (value : Octets) → SameBut following xs zs
      → SameBut following (with_value xs handle value) (with_value zs handle value)
  stored-too following xs zs zero value alike = stored_both following xs zs 1 value value (omega arith) alike refl (λ shown. refl)
  stored-too following xs zs (suc before) value alike = stored_both following xs zs (suc before) value value (omega arith) alike refl (λ shown. refl)

  pub update-change : (handle : Handle) (value : Octets) → SameChange peer hidden (change_of state (Update handle value)) (change_of far (Update handle value))
  unfolding change_of
  update-change handle value = record {
    state = record {
      shared = refl;
      values = stored-too hidden state.shared.table.values ys handle value same;
      bonds = refl;
      owed = owes;
      own = own;
      others = rest;
      slots = refl;
      next = refl;
      controller = refl;
    };
    to_notify = λ ordinal mine. refl;
  }

  pub tick-change : (time : ℕ) → SameChange peer hidden (change_of state (Tick time)) (change_of far (Tick time))
  unfolding change_of
  tick-change time = record {
    state = record {
      shared = refl;
      values = same;
      bonds = refl;
      owed = owes;
      own = λ ordinal mine. ap (λ (p : ConnectionState). record p { pending = after_tick p.pending time }) (own ordinal mine);
      others = λ ordinal. rest ordinal;
      slots = refl;
      next = refl;
      controller = refl;
    };
    to_notify = λ ordinal mine. refl;
  }

  pub nothing-change : SameChange peer hidden (change_of state Nothing) (change_of far Nothing)
  unfolding change_of
  nothing-change = beside-change state.shared.buffers state.slots state.controller

  -- the table is replaced
  announced-same : (following : Handle → Bool) (table its : Contents) (changer : Option Handle) → SameTable following table its → changer_of table ≡ changer
      → changer_of its ≡ changer
      → SameBut following (announced table).values (announced its).values × ((announced table).attributes ≡ (announced its).attributes)
  announced-same following table its None tables is is_too = rw (is, is_too) (tables.values, tables.attributes)
  announced-same following table its (Some handle) tables is is_too =
      rw (is, is_too) (stored-too following table.values its.values handle all_changed tables.values, tables.attributes)

  replaced-erased : (old new : Contents) (connection other : ConnectionState) → erased connection ≡ erased other
      → erased (connection_after_replacement old new connection) ≡ erased (connection_after_replacement old new other)
  replaced-erased old new connection other same_rest =
      let dropped : erased (connection_dropped connection) ≡ erased (connection_dropped other) =
      both_choices (λ (a b : ConnectionState). erased a ≡ erased b) (is_live connection.mark) (is_live other.mark)
      (record connection { said = Dropped ∷ connection.said; pending = after_replacement connection.pending }) connection
      (record other { said = Dropped ∷ other.said; pending = after_replacement other.pending }) other
      (λ i. is_live (same_rest i).mark) (λ is i. record (same_rest i) { said = Dropped ∷ (same_rest i).said }) (λ is. same_rest) in
      λ i. record (dropped i) { row = kept_row old.attributes new.attributes (same_rest i).row }

  replaced-peer : (old new : Contents) (connection : ConnectionState) → is_of peer (connection_after_replacement old new connection) ≡ is_of peer connection
  replaced-peer old new connection =
      either_choice (λ (p : ConnectionState). is_of peer p ≡ is_of peer connection) (is_live connection.mark)
      (record connection { said = Dropped ∷ connection.said; pending = after_replacement connection.pending }) connection refl refl

  pub replaced-change : (following : Handle → Bool) (table its : Contents) → SameTable following table its
      → SameChange peer following (change_of state (Replaced table)) (change_of far (Replaced its))
  unfolding change_of
  replaced-change following table its tables =
      let announcements = announced-same following table its (changer_of table) tables refl (sym tables.changer) in
      let announced_same = announcements.1 in
      let attributes = tables.attributes in
      let changer = tables.changer in
      record {
        state = record {
          shared = λ i. record state.shared { table = record { attributes = announced_same i; values = (announced its).values }; changer = changer i };
          values = announcements.0;
          bonds = λ i named. kept_row state.shared.table.attributes (attributes i) (state.bonds named);
          owed = λ i. wants_changes (changer i) (kept_row state.shared.table.attributes (attributes i) (state.bonds peer));
          own = λ ordinal mine.
              let connection : state.connections ordinal ≡ others ordinal =
              own ordinal (sym (replaced-peer state.shared.table table (state.connections ordinal)) ∙ mine) in
              λ i. record (connection_dropped (connection i)) { row = kept_row state.shared.table.attributes (attributes i) (connection i).row };
          others = λ ordinal.
              replaced-erased state.shared.table table (state.connections ordinal) (others ordinal) (rest ordinal)
              ∙ (λ i. erased
              (record (connection_dropped (others ordinal)) { row = kept_row state.shared.table.attributes (attributes i) (others ordinal).row }));
          slots = refl;
          next = refl;
          controller = refl;
        };
        to_notify = λ ordinal mine. ap option_to_list changer;
      }
