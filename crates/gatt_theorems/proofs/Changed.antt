-- Values and configurations change by right alone.
use Rattle.std.proofs.Common.{◌≡◌, ℕ, zero, suc, arith, ◌<◌, Bool, true, false, List, [], ◌∷◌, Option, Some, None, Result, Ok, Err, refl, sym, ap, subst, ◌∙◌}
use Rattle.std.specs.Prelude.{IfSome, is_some, ◌==◌, ◌&&◌, ◌||◌, if◌then◌else◌}
use Rattle.std.proofs.lemmas.Bool.{eqb-true, eq-eqb}
use Rattle.att_numbers.specs.Types.{Handle, Row, Values}
use Rattle.att_pdu.specs.Grammar.{request_of, is_due}
use Rattle.att_policy.specs.Refusal.{Refusal}
use Rattle.att_policy.specs.declared.standing.Standing.{Standing}
use Rattle.att_attributes.specs.Attributes.{attribute_at}
use Rattle.att_attributes.specs.declared.attr.Attr.{Attr}
use Rattle.att_table.specs.ConfigRow.{bits_at}
use Rattle.att_table.specs.Table.{Contents, value_at, with_value}
use Rattle.att_writes.proofs.Untouched.{keeps_others}
use Rattle.att_writes.specs.Applied.{Stored, stored_in, applied_to, stored_after}
use Rattle.att_writes.specs.Queue.{touched_by}
use Rattle.att_writes.specs.SameBut.{is_touched}
use Rattle.gatt_conn.specs.Answer.{Question, Writing, writing_asked, stored_after_writing, handles_after}
use Rattle.gatt_laws.proofs.runs.Ends.{end_keeps}
use Rattle.gatt_laws.proofs.policy.Headline.{writes_what_may_be_written}
use Rattle.gatt_laws.proofs.notices.Notices.{is_among, none-once, none-touched}
use Rattle.gatt_laws.proofs.runs.Steady.{completed_steady, live_steady}
use Rattle.gatt_laws.proofs.policy.Stores.{other-value}
use Rattle.gatt_laws.specs.laws.Headline.{Each, MayUse}
use Rattle.gatt_laws.specs.machine.Event.{Ordinal, Own, Event, Connected, Disconnected, Asks, Of, Completed, Credit, Update, Replaced}
use Rattle.gatt_laws.specs.machine.ConnectionState.{ConnectionState, fresh_connection, is_live, is_there, key_of, row_in_force, connection_mtu, standing_of, bearer_of, prepared_of, after_ending}
use Rattle.gatt_laws.specs.machine.SharedState.{SharedState}
use Rattle.gatt_laws.specs.machine.State.{State, change_of, step}
use Rattle.gatt_laws.specs.machine.Effect.{Effect, effect_on_connection, served, is_full, live_effect, effect_of, remote_user_terminated}
use Rattle.le_hci.specs.declared.peer.Peer.{Peer}
use Rattle.le_security.proofs.Peers.{equal_peers}
use Rattle.le_security.specs.Entry.{same_peer}
use Rattle.octet_io.specs.Number.{Octets}
use Rattle.gatt_theorems.specs.Changed.{MayWriteThere, ChangesValuesByRight, ConfiguresItsOwn, ConfiguresItsBond, ConfiguresOwn, ChangesAnOwnRow, ChangesOwnRowsByRight, ChangesBondsByRight}

-- Among the handles that are written.

among-next : (P : Handle → Type 0) (attribute handle : Handle) (later : Bool) (same : Bool) → (handle == attribute) ≡ same → P handle
    → (later ≡ true → P attribute) → (same || later) ≡ true → P attribute
among-next P attribute handle later true is this rest among = subst P (eqb-true handle attribute is) this
among-next P attribute handle later false is this rest among = rest among

each-among : (P : Handle → Type 0) (attribute : Handle) (handles : List Handle) → Each P handles → is_among attribute handles ≡ true → P attribute
each-among P attribute [] each among = cc among
each-among P attribute (handle ∷ handles) each among =
    among-next P attribute handle (is_among attribute handles) (handle == attribute) refl each.0 (each-among P attribute handles each.1) among

-- what is not written is as it was
module _ (table : Contents) (row : Row) (standing : Standing) where
  record Same (attribute : Handle) (new : Stored) : Type 0 where
    value : 0 < attribute → value_at new.values attribute ≡ value_at table.values attribute
    bits : bits_at new.row attribute ≡ bits_at row attribute

  same-if : (writing : Writing) (attribute : Handle) (result : Result Stored Refusal)
      → applied_to writing.access table row standing writing.entries ≡ result
      → is_touched writing.entries attribute ≡ false
      → Same attribute (stored_after (stored_in table row) result)
  same-if writing attribute (Ok new) is none =
      let keeps = keeps_others writing.access table.attributes standing writing.entries (stored_in table row) new is in
      record { value = λ used. keeps.values attribute used none; bits = keeps.row attribute none }
  same-if writing attribute (Err refusal) is none = record { value = λ used. refl; bits = refl }

  refused-same : (writing : Writing) (attribute : Handle) (result : Result Stored Refusal)
      → applied_to writing.access table row standing writing.entries ≡ result
      → is_among attribute (touched_by writing.entries result) ≡ false
      → Same attribute (stored_after (stored_in table row) result)
  refused-same writing attribute (Ok new) is none =
      same-if writing attribute (Ok new) is (none-touched attribute writing.entries (none-once attribute _ none))
  refused-same writing attribute (Err refusal) is none = record { value = λ used. refl; bits = refl }

  -- what is asked to be written, and may be
  record IsRight (attribute : Handle) (writing : Option Writing) : Type 0 where
    asked : Writing
    is : writing ≡ Some asked
    there : is_touched asked.entries attribute ≡ true
    may : MayUse asked.access table.attributes standing attribute

  abbrev NotSame : Handle → Stored → Type 0
  NotSame attribute new = Same attribute new → ⊥

  right-if : (writing : Writing) (attribute : Handle) (touched among : Bool)
      → is_touched writing.entries attribute ≡ touched
      → is_among attribute (touched_by writing.entries (applied_to writing.access table row standing writing.entries)) ≡ among
      → Each (MayUse writing.access table.attributes standing)
      (touched_by writing.entries (applied_to writing.access table row standing writing.entries))
      → NotSame attribute (stored_after (stored_in table row) (applied_to writing.access table row standing writing.entries))
      → IsRight attribute (Some writing)
  right-if writing attribute true true is among each differs = record {
    asked = writing;
    is = refl;
    there = is;
    may = each-among (MayUse writing.access table.attributes standing) attribute _ each among;
  }
  right-if writing attribute touched false is among each differs =
      absurd (differs (refused-same writing attribute (applied_to writing.access table row standing writing.entries) refl among))
  right-if writing attribute false true is among each differs =
      absurd (differs (same-if writing attribute (applied_to writing.access table row standing writing.entries) refl is))

  right : (writing : Option Writing) (attribute : Handle)
      → IfSome writing (λ of. Each (MayUse of.access table.attributes standing) (handles_after table row standing writing))
      → NotSame attribute (stored_after_writing table row standing writing)
      → IsRight attribute writing
  right None attribute each differs = absurd (differs (record { value = λ used. refl; bits = refl }))
  right (Some writing) attribute each differs =
      right-if writing attribute (is_touched writing.entries attribute)
      (is_among attribute (touched_by writing.entries (applied_to writing.access table row standing writing.entries))) refl refl each differs

-- What happens to one connection.

module _ (shared : SharedState) (bond : Row) (owed : Bool) (connection : ConnectionState) where
  -- a PDU that is served may write
  record Writes (pdu : Octets) (attribute : Handle) : Type 0 where
    serves : is_live connection.mark ≡ true
    right : IsRight shared.table (row_in_force bond connection) (standing_of shared connection) attribute
        (writing_asked (prepared_of connection) (request_of pdu (connection_mtu shared connection)))

  served-writes : (pdu : Octets) (attribute : Handle) → is_live connection.mark ≡ true
      → NotSame shared.table (row_in_force bond connection) (standing_of shared connection) attribute
      (stored_after_writing shared.table (row_in_force bond connection) (standing_of shared connection)
      (writing_asked (prepared_of connection) (request_of pdu (connection_mtu shared connection))))
      → Writes pdu attribute
  served-writes pdu attribute live differs =
      let asked : Question = request_of pdu (connection_mtu shared connection) in
      record {
        serves = live;
        right = right shared.table (row_in_force bond connection) (standing_of shared connection) (writing_asked (prepared_of connection) asked) attribute
            (writes_what_may_be_written shared.table (row_in_force bond connection) (bearer_of shared connection) asked) differs;
      }

  abbrev stored_then : Octets → Stored
  stored_then pdu =
      stored_after_writing shared.table (row_in_force bond connection) (standing_of shared connection)
      (writing_asked (prepared_of connection) (request_of pdu (connection_mtu shared connection)))

  -- the values, the row of the bond, and its own row
  record TurnsByRight (own : Own) (attribute : Handle) (effect : Effect) : Type 0 where
    by_value : 0 < attribute → (value_at effect.values attribute ≡ value_at shared.table.values attribute → ⊥)
        → (pdu : Octets) × (own ≡ Asks pdu) × Writes pdu attribute
    by_bond : (bits_at effect.bond attribute ≡ bits_at bond attribute → ⊥)
        → (is_some (key_of connection) ≡ true) × (pdu : Octets) × (own ≡ Asks pdu) × Writes pdu attribute

  abbrev OwnByRight : Own → Handle → Effect → Type 0
  OwnByRight own attribute effect = (bits_at effect.connection.row attribute ≡ bits_at connection.row attribute → ⊥)
      → (is_some (key_of connection) ≡ false) × (pdu : Octets) × (own ≡ Asks pdu) × Writes pdu attribute

  -- what leaves them
  left : (own : Own) (attribute : Handle) (effect : Effect) → effect.values ≡ shared.table.values → effect.bond ≡ bond → TurnsByRight own attribute effect
  left own attribute effect values bonds = record {
    by_value = λ used differs. absurd (differs (ap (λ (of : Values). value_at of attribute) values));
    by_bond = λ differs. absurd (differs (ap (λ (of : Row). bits_at of attribute) bonds));
  }

  left-own : (own : Own) (attribute : Handle) (effect : Effect) → effect.connection.row ≡ connection.row → OwnByRight own attribute effect
  left-own own attribute effect rows = λ differs. absurd (differs (ap (λ (of : Row). bits_at of attribute) rows))

  bond-right : (pdu : Octets) (attribute : Handle) (keyed : Bool) → is_some (key_of connection) ≡ keyed → is_live connection.mark ≡ true
      → (bits_at (if is_some (key_of connection) then (stored_then pdu).row else bond) attribute ≡ bits_at bond attribute → ⊥)
      → (is_some (key_of connection) ≡ true) × Writes pdu attribute
  bond-right pdu attribute true is live differs = (
    is,
    served-writes pdu attribute live (λ same. differs (
        (λ i. bits_at (if is i then (stored_then pdu).row else bond) attribute)
        ∙ same.bits
        ∙ (λ i. bits_at (if is i then bond else connection.row) attribute))),
  )
  bond-right pdu attribute false is live differs = absurd (differs (λ i. bits_at (if is i then (stored_then pdu).row else bond) attribute))

  own-right : (pdu : Octets) (attribute : Handle) (keyed : Bool) → is_some (key_of connection) ≡ keyed → is_live connection.mark ≡ true
      → (bits_at (if is_some (key_of connection) then connection.row else (stored_then pdu).row) attribute ≡ bits_at connection.row attribute → ⊥)
      → (is_some (key_of connection) ≡ false) × Writes pdu attribute
  own-right pdu attribute false is live differs = (
    is,
    served-writes pdu attribute live (λ same. differs (
        (λ i. bits_at (if is i then connection.row else (stored_then pdu).row) attribute)
        ∙ same.bits
        ∙ (λ i. bits_at (if is i then bond else connection.row) attribute))),
  )
  own-right pdu attribute true is live differs = absurd (differs (λ i. bits_at (if is i then connection.row else (stored_then pdu).row) attribute))

  -- a PDU of the Attribute Protocol
  abbrev asked_turn : Octets → Bool → Bool → Effect
  asked_turn pdu live ended =
      if live then (if ended then effect_on_connection shared bond owed (after_ending connection remote_user_terminated)
      else served shared bond owed connection pdu (request_of pdu (connection_mtu shared connection)))
      else effect_on_connection shared bond owed connection

  asks-right : (pdu : Octets) (attribute : Handle) (live ended : Bool) → is_live connection.mark ≡ live
      → TurnsByRight (Asks pdu) attribute (asked_turn pdu live ended)
  asks-right pdu attribute true true is = left (Asks pdu) attribute (asked_turn pdu true true) refl refl
  asks-right pdu attribute true false is = record {
    by_value = λ used differs. (pdu, refl, served-writes pdu attribute is (λ same. differs (same.value used)));
    by_bond = λ differs. let writes = bond-right pdu attribute (is_some (key_of connection)) refl is differs in (writes.0, pdu, refl, writes.1);
  }
  asks-right pdu attribute false ended is = left (Asks pdu) attribute (asked_turn pdu false ended) refl refl

  asks-own : (pdu : Octets) (attribute : Handle) (live ended : Bool) → is_live connection.mark ≡ live
      → OwnByRight (Asks pdu) attribute (asked_turn pdu live ended)
  asks-own pdu attribute true true is = left-own (Asks pdu) attribute (asked_turn pdu true true) refl
  asks-own pdu attribute true false is = λ differs.
      let writes = own-right pdu attribute (is_some (key_of connection)) refl is differs in (writes.0, pdu, refl, writes.1)
  asks-own pdu attribute false ended is = left-own (Asks pdu) attribute (asked_turn pdu false ended) refl

  -- and all else
  live-left : (own : Own) (attribute : Handle) (live : Bool) → (live_effect shared bond owed connection own).values ≡ shared.table.values
      → (live_effect shared bond owed connection own).bond ≡ bond
      → TurnsByRight own attribute (if live then live_effect shared bond owed connection own else effect_on_connection shared bond owed connection)
  live-left own attribute true values bonds = left own attribute (live_effect shared bond owed connection own) values bonds
  live-left own attribute false values bonds = left own attribute (effect_on_connection shared bond owed connection) refl refl

  turn-right : (own : Own) (attribute : Handle) → TurnsByRight own attribute (effect_of shared bond owed connection own)
  unfolding live_effect
  turn-right (Connected handle peer) attribute =
      left (Connected handle peer) attribute (effect_of shared bond owed connection (Connected handle peer)) refl refl
  turn-right Disconnected attribute = left Disconnected attribute (effect_of shared bond owed connection Disconnected) refl refl
  turn-right (Asks pdu) attribute =
      asks-right pdu attribute (is_live connection.mark) (is_due (request_of pdu (connection_mtu shared connection)) && is_full shared connection) refl
  turn-right own attribute = live-left own attribute (is_live connection.mark) refl refl

  live-own : (own : Own) (attribute : Handle) (live : Bool) → (live_effect shared bond owed connection own).connection.row ≡ connection.row
      → OwnByRight own attribute (if live then live_effect shared bond owed connection own else effect_on_connection shared bond owed connection)
  live-own own attribute true rows = left-own own attribute (live_effect shared bond owed connection own) rows
  live-own own attribute false rows = left-own own attribute (effect_on_connection shared bond owed connection) refl

  abbrev OwnRowBy : Own → Handle → Type 0
  OwnRowBy (Connected handle peer) attribute = Unit
  OwnRowBy Disconnected attribute = Unit
  OwnRowBy own attribute = OwnByRight own attribute (effect_of shared bond owed connection own)

  turn-own : (own : Own) (attribute : Handle) → OwnRowBy own attribute
  unfolding live_effect
  turn-own (Connected handle peer) attribute = tt
  turn-own Disconnected attribute = tt
  turn-own (Asks pdu) attribute =
      asks-own pdu attribute (is_live connection.mark) (is_due (request_of pdu (connection_mtu shared connection)) && is_full shared connection) refl
  turn-own own attribute =
      live-own own attribute (is_live connection.mark)
      (live_steady (λ (of : ConnectionState). of.row) (λ of mark until steps said pending pdus reply reason. refl) shared bond owed connection own refl)

-- An event.

module _ (state : State) (at : Ordinal) where
  may-write : (own : Own) (attribute : Handle) (pdu : Octets) → own ≡ Asks pdu
      → Writes state.shared (state.bonds (state.connections at).peer) (state.owed (state.connections at).peer) (state.connections at) pdu attribute
      → MayWriteThere state at own attribute
  may-write own attribute pdu is writes = record {
    serves = writes.serves;
    pdu = pdu;
    asks = is;
    writing = writes.right.asked;
    asked = writes.right.is;
    there = writes.right.there;
    may = writes.right.may;
  }

  turns : (own : Own) (attribute : Handle)
      → TurnsByRight state.shared (state.bonds (state.connections at).peer) (state.owed (state.connections at).peer) (state.connections at) own attribute
      (effect_of state.shared (state.bonds (state.connections at).peer) (state.owed (state.connections at).peer) (state.connections at) own)
  turns own attribute =
      turn-right state.shared (state.bonds (state.connections at).peer) (state.owed (state.connections at).peer) (state.connections at) own attribute

  value-right : (own : Own) (attribute : Handle) → 0 < attribute
      → (value_at (effect_of state.shared (state.bonds (state.connections at).peer) (state.owed (state.connections at).peer) (state.connections at) own).values
      attribute
      ≡ value_at state.shared.table.values attribute → ⊥)
      → MayWriteThere state at own attribute
  value-right own attribute used differs =
      let writes = (turns own attribute).by_value used differs in may-write own attribute writes.0 writes.1 writes.2

  bond-right-if : (own : Own) (peer : Peer) (attribute : Handle) (same : Bool) → same_peer peer (state.connections at).peer ≡ same
      → (bits_at
      (if same then (effect_of state.shared (state.bonds (state.connections at).peer) (state.owed (state.connections at).peer) (state.connections at) own).bond
      else state.bonds peer) attribute ≡ bits_at (state.bonds peer) attribute → ⊥)
      → ConfiguresItsBond state at own peer attribute
  bond-right-if own peer attribute true is differs =
      let equal : peer ≡ (state.connections at).peer = equal_peers peer (state.connections at).peer is in
      let writes = (turns own attribute).by_bond (λ same. differs (same ∙ ap (λ (of : Peer). bits_at (state.bonds of) attribute) (sym equal))) in
      record { keyed = writes.0; of = is; may = may-write own attribute writes.1 writes.2 writes.3 }
  bond-right-if own peer attribute false is differs = absurd (differs refl)

  its-own : (own : Own) (attribute : Handle)
      → (is_some (key_of (state.connections at)) ≡ false) × (pdu : Octets) × (own ≡ Asks pdu)
      × Writes state.shared (state.bonds (state.connections at).peer) (state.owed (state.connections at).peer) (state.connections at) pdu attribute
      → ConfiguresItsOwn state at own attribute
  its-own own attribute writes = record { keyless = writes.0; may = may-write own attribute writes.1 writes.2 writes.3 }

  -- one that comes where none is, and one that goes, has nothing configured
  row-then : (own : Own) → ((step state (Of at own)).connections at).row
      ≡ (effect_of state.shared (state.bonds (state.connections at).peer) (state.owed (state.connections at).peer) (state.connections at) own).connection.row
  unfolding change_of
  row-then own =
      end_keeps (λ (of : ConnectionState). of.row) (λ of pdus pending given reply reason. refl) state (Of at own) at
      ∙ ap (λ (same : Bool). (if same
      then (effect_of state.shared (state.bonds (state.connections at).peer) (state.owed (state.connections at).peer) (state.connections at) own).connection
      else state.connections at).row)
      (eq-eqb at at refl)

  come-anew : (handle : ℕ) (peer : Peer) (attribute : Handle) (there : Bool)
      → (bits_at (if there then state.connections at else fresh_connection handle peer).row attribute ≡ bits_at (state.connections at).row attribute → ⊥)
      → bits_at (if there then state.connections at else fresh_connection handle peer).row attribute ≡ 0
  come-anew handle peer attribute true differs = absurd (differs refl)
  come-anew handle peer attribute false differs = refl

  own-right-at : (own : Own) (attribute : Handle)
      → (bits_at
      (effect_of state.shared (state.bonds (state.connections at).peer) (state.owed (state.connections at).peer) (state.connections at) own).connection.row
      attribute
      ≡ bits_at (state.connections at).row attribute → ⊥)
      → ConfiguresOwn state at own attribute
  own-right-at (Connected handle peer) attribute differs =
      ap (λ (row : Row). bits_at row attribute) (row-then (Connected handle peer))
      ∙ come-anew handle peer attribute (is_there (state.connections at).mark) differs
  own-right-at Disconnected attribute differs = ap (λ (row : Row). bits_at row attribute) (row-then Disconnected)
  own-right-at own attribute differs =
      its-own own attribute
      (turn-own state.shared (state.bonds (state.connections at).peer) (state.owed (state.connections at).peer) (state.connections at) own attribute differs)

  own-right-if : (own : Own) (ordinal : Ordinal) (attribute : Handle) (same : Bool) → (ordinal == at) ≡ same
      → (bits_at
      (if same
      then (effect_of state.shared (state.bonds (state.connections at).peer) (state.owed (state.connections at).peer) (state.connections at) own).connection
      else state.connections ordinal).row attribute ≡ bits_at (state.connections ordinal).row attribute → ⊥)
      → (ordinal ≡ at) × ConfiguresOwn state at own attribute
  own-right-if own ordinal attribute true is differs =
      let equal : ordinal ≡ at = eqb-true ordinal at is in
      (equal, own-right-at own attribute (λ same. differs (same ∙ ap (λ (of : Ordinal). bits_at (state.connections of).row attribute) (sym equal))))
  own-right-if own ordinal attribute false is differs = absurd (differs refl)

used-there : (attributes : List Attr) (handle : Handle) (attr : Attr) → attribute_at attributes handle ≡ Some attr → 0 < handle
used-there attributes zero attr there = cc there
used-there attributes (suc handle) attr there = omega arith

updated-right : (values : Values) (handle attribute : Handle) (value : Octets) (same : Bool) → (handle == attribute) ≡ same → 0 < handle → 0 < attribute
    → (value_at (with_value values handle value) attribute ≡ value_at values attribute → ⊥) → handle ≡ attribute
updated-right values handle attribute value true is there used differs = eqb-true handle attribute is
updated-right values handle attribute value false is there used differs = absurd (differs (other-value values handle attribute value there used is))

pub changes_values_by_right : ChangesValuesByRight
unfolding step change_of
changes_values_by_right state (Of ordinal own) attribute used possible differs = value-right state ordinal own attribute used differs
changes_values_by_right state (Credit allowed opcode status (Some init)) attribute used possible differs = differs refl
changes_values_by_right state (Update handle value) attribute used possible differs =
    updated-right state.shared.table.values handle attribute value (handle == attribute) refl
    (used-there state.shared.table.attributes handle possible.attr possible.there) used differs
changes_values_by_right state (Replaced table) attribute used possible differs = tt
changes_values_by_right state event attribute used possible differs = differs refl

pub changes_bonds_by_right : ChangesBondsByRight
unfolding step change_of
changes_bonds_by_right state (Of ordinal own) peer attribute differs =
    bond-right-if state ordinal own peer attribute (same_peer peer (state.connections ordinal).peer) refl differs
changes_bonds_by_right state (Credit allowed opcode status (Some init)) peer attribute differs = differs refl
changes_bonds_by_right state (Replaced table) peer attribute differs = tt
changes_bonds_by_right state event peer attribute differs = differs refl

change-own : (state : State) (event : Event) (ordinal : Ordinal) (attribute : Handle)
    → (bits_at ((change_of state event).state.connections ordinal).row attribute ≡ bits_at (state.connections ordinal).row attribute → ⊥)
    → ChangesAnOwnRow state event ordinal attribute
unfolding change_of
change-own state (Of at own) ordinal attribute differs = own-right-if state at own ordinal attribute (ordinal == at) refl differs
change-own state (Completed entries) ordinal attribute differs =
    differs (ap (λ (row : Row). bits_at row attribute)
    (completed_steady (λ (of : ConnectionState). of.row) (λ of done. refl) ordinal entries (state.connections ordinal)))
change-own state (Credit allowed opcode status (Some init)) ordinal attribute differs = differs refl
change-own state (Replaced table) ordinal attribute differs = tt
change-own state event ordinal attribute differs = differs refl

pub changes_own_rows_by_right : ChangesOwnRowsByRight
changes_own_rows_by_right state event ordinal attribute differs =
    change-own state event ordinal attribute
    (λ same.
    differs (ap (λ (row : Row). bits_at row attribute)
    (end_keeps (λ (of : ConnectionState). of.row) (λ of pdus pending given reply reason. refl) state event ordinal) ∙ same))
