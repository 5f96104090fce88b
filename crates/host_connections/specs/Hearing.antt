-- The values that a slot's connection is sent unasked.
use Rattle.std.specs.Prelude.{ℕ, Bool, true, is_some, if◌then◌else◌, unwrap_or, List, [], ◌∷◌, length, map, Option}
use Rattle.std.specs.Option.{option_map, option_to_list}
use Rattle.att_numbers.specs.Types.{Handle, Mtu, Row}
use Rattle.att_policy.specs.declared.standing.Standing.{Standing}
use Rattle.att_table.specs.Table.{Contents}
use Rattle.gatt_laws.specs.machine.Heard.{Heard, att_pdu, heard_when_notifying, heard_when_indicating}
use Rattle.host_connections.specs.SlotState.{SlotState, slot_standing}
use Rattle.gatt_subs.specs.Alone.{after_notify_alone, telling_alone, telling_of}
use Rattle.gatt_subs.specs.Indications.{Indications}
use Rattle.gatt_subs.specs.Told.{Hearer}
use Rattle.le_acl.specs.Outgoing.{Outgoing, with_pdu}
use Rattle.le_acl.specs.Packets.{Pdu}

abbrev pub with_pdus_queued : Outgoing → List Pdu → Outgoing
with_pdus_queued outgoing [] = outgoing
with_pdus_queued outgoing (pdu ∷ pdus) = with_pdus_queued (with_pdu outgoing pdu) pdus

-- The row of the peer's bond if there is one and the link has a key, else the connection's own.
abbrev pub row_by_key : Bool → Option Row → Row → Row
row_by_key has_key bond own = if has_key then unwrap_or bond own else own

abbrev pub slot_row_in_force : Option Row → SlotState → Row
slot_row_in_force bond slot_state = row_by_key (is_some slot_state.link.key) bond slot_state.row

-- The facts that decide what a connection is sent.
pub record HearerFacts : Type 0 where
  pub row : Row
  pub standing : Standing
  pub mtu : Mtu

pub record Delivery : Type 0 where
  pub pending : Indications
  pub outgoing : Outgoing

abbrev pub slot_hearer : HearerFacts → Delivery → Hearer
slot_hearer ear delivery = record {
  live = true;
  standing = ear.standing;
  row = ear.row;
  mtu = ear.mtu;
  backlog = length delivery.outgoing.queue;
  pending = delivery.pending;
}

abbrev pub delivery_with_heard : Delivery → Heard → Delivery
delivery_with_heard delivery heard =
    record {
      pending = heard.pending;
      outgoing = with_pdus_queued delivery.outgoing (map att_pdu heard.responses);
    }

abbrev pub delivery_when_notifying : Contents → HearerFacts → Handle → Delivery → Delivery
delivery_when_notifying table ear handle delivery =
    delivery_with_heard delivery
    (heard_when_notifying table.attributes table.values (slot_hearer ear delivery) handle)

abbrev pub delivery_when_indicating : Contents → HearerFacts → ℕ → Delivery → Delivery
delivery_when_indicating table ear now delivery =
    delivery_with_heard delivery
    (heard_when_indicating table.attributes table.values (slot_hearer ear delivery) now)

-- Values are notified in their order, then an indication is sent if one may be.
abbrev pub delivery_in_turn : Contents → HearerFacts → ℕ → List Handle → Delivery → Delivery
delivery_in_turn table ear now [] delivery = delivery_when_indicating table ear now delivery
delivery_in_turn table ear now (handle ∷ handles) delivery =
    delivery_in_turn table ear now handles (delivery_when_notifying table ear handle delivery)

abbrev pub hearer_facts_of : ℕ → Option Row → SlotState → HearerFacts
hearer_facts_of now bond slot_state =
    record {
      row = slot_row_in_force bond slot_state;
      standing = slot_standing now slot_state;
      mtu = slot_state.mtu;
    }

abbrev pub delivery_of : SlotState → Delivery
delivery_of slot_state = record { pending = slot_state.pending; outgoing = slot_state.outgoing }

abbrev pub with_delivery : SlotState → Delivery → SlotState
with_delivery slot_state delivery =
    record slot_state { pending = delivery.pending; outgoing = delivery.outgoing }

abbrev pub slot_after_hearing : Contents → ℕ → Option Row → List Handle → SlotState → SlotState
slot_after_hearing table now bond handles slot_state =
    if slot_state.live
    then with_delivery slot_state
    (delivery_in_turn table (hearer_facts_of now bond slot_state) now handles
    (delivery_of slot_state)) else slot_state

abbrev pub slot_after_notifying : Contents → ℕ → Option Row → Handle → SlotState → SlotState
slot_after_notifying table now bond handle slot_state =
    if slot_state.live
    then with_delivery slot_state
    (delivery_when_notifying table (hearer_facts_of now bond slot_state) handle
    (delivery_of slot_state)) else slot_state

-- A value that is the only one is sent at once, unless another waits (of the code alone).
abbrev pub delivery_when_notifying_alone : Contents → HearerFacts → ℕ → Handle → Delivery → Delivery
delivery_when_notifying_alone table ear now handle delivery =
    let backlog = length delivery.outgoing.queue in
    delivery_with_heard delivery (record {
      responses =
          option_to_list
          (option_map (telling_of table.values handle ear.mtu)
          (telling_alone delivery.pending table.attributes ear.row ear.standing handle backlog));
      pending =
          after_notify_alone delivery.pending table.attributes ear.row ear.standing handle backlog
          now;
    })

abbrev pub slot_after_notifying_alone : Contents → ℕ → Option Row → Handle → SlotState → SlotState
slot_after_notifying_alone table now bond handle slot_state =
    if slot_state.live
    then with_delivery slot_state
    (delivery_when_notifying_alone table (hearer_facts_of now bond slot_state) now handle
    (delivery_of slot_state)) else slot_state
