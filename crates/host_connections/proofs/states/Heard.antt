-- What a connection hears, by what its slot keeps and by what the state machine knows of it.
use Rattle.std.proofs.Common.{◌≡◌, ℕ, ◌+◌, Bool, true, false, List, [], ◌∷◌, ◌++◌, length, map, Option, Some, None, refl, sym, ap, subst, ◌∙◌, arith, append_assoc, append-nil}
use Rattle.std.specs.Prelude.{is_some, if◌then◌else◌, not, nat_lt, ◌&&◌}
use Rattle.std.specs.Option.{option_map, option_map_or, option_to_list}
use Rattle.std.proofs.lemmas.List.{length-append, length-map, map-append}
use Rattle.std.proofs.lemmas.Bool.{and_right}
use Rattle.att_numbers.specs.Types.{Handle, Row}
use Rattle.att_policy.specs.declared.standing.Standing.{Standing}
use Rattle.att_attributes.specs.declared.attr.Attr.{Attr}
use Rattle.att_attributes.specs.Attributes.{attribute_at, is_value, is_value_at}
use Rattle.att_table.specs.Table.{Contents}
use Rattle.att_policy.specs.Policy.{may_hear_of}
use Rattle.gatt_laws.proofs.runs.Silence.{only_serves_the_live}
use Rattle.gatt_laws.specs.machine.Heard.{Heard, att_pdu, heard_in_turn, heard_when_notifying, hearer_after, after_responses, hearer_of, after_hearing}
use Rattle.gatt_laws.specs.machine.ConnectionState.{ConnectionState, Mark, Absent, Live, Ending, is_live, is_there, key_of, connection_mtu, with_pdus, after_giving}
use Rattle.gatt_laws.specs.laws.Queued.{IsWithinBounds}
use Rattle.gatt_laws.specs.machine.SharedState.{SharedState, Bonds, share_of, fragment_size_of}
use Rattle.gatt_laws.specs.machine.State.{finished}
use Rattle.gatt_laws.specs.machine.Effect.{values_among}
use Rattle.host_connections.proofs.states.SlotStates.{backlog_kept, becomes, outgoing_live, row_kept, standing_kept}
use Rattle.host_connections.specs.Hearing.{HearerFacts, Delivery, slot_after_hearing, hearer_facts_of, slot_hearer, delivery_in_turn, delivery_of, delivery_when_notifying, delivery_with_heard, with_pdus_queued, with_delivery}
use Rattle.host_connections.specs.SlotState.{SlotState, slot_state_of, slot_state_if_there}
use Rattle.gatt_subs.specs.declared.pending.TheConstants.{MAX_BACKLOG}
use Rattle.gatt_subs.specs.Hearing.{bits_for, may_hear_at, wants_indications}
use Rattle.gatt_subs.specs.Indications.{hears, with_handle}
use Rattle.gatt_subs.specs.Told.{Hearer, notification_of}
use Rattle.le_acl.proofs.Histories.{follows_history}
use Rattle.le_acl.specs.History.{packets_allowed, IsAfterHistory}
use Rattle.le_acl.specs.Outgoing.{Outgoing, outgoing_after, with_pdu}
use Rattle.le_acl.specs.Packets.{Pdu, fragments_of}

-- PDUs one behind the other
pub queued-both : (outgoing : Outgoing) (first more : List Pdu) → with_pdus_queued (with_pdus_queued outgoing first) more
    ≡ with_pdus_queued outgoing (first ++ more)
queued-both outgoing [] more = refl
queued-both outgoing (pdu ∷ first) more = queued-both (with_pdu outgoing pdu) first more

queued-length : (outgoing : Outgoing) (pdus : List Pdu) → length (with_pdus_queued outgoing pdus).queue ≡ length outgoing.queue + length pdus
queued-length outgoing [] = omega arith
queued-length outgoing (pdu ∷ pdus) =
    omega (arith, queued-length (with_pdu outgoing pdu) pdus, length-append outgoing.queue (fragments_of outgoing.size pdu ∷ []))

stands-more : (share size : ℕ) (outgoing : Outgoing) (pdus : List Pdu) (given done : ℕ) (more : List Pdu) → IsAfterHistory outgoing share size pdus given done
    → IsAfterHistory (with_pdus_queued outgoing more) share size (pdus ++ more) given done
stands-more share size outgoing pdus given done [] at =
    subst (λ (all : List Pdu). IsAfterHistory outgoing share size all given done) (sym (append-nil pdus)) at
stands-more share size outgoing pdus given done (pdu ∷ more) at =
    subst (λ (all : List Pdu). IsAfterHistory (with_pdus_queued (with_pdu outgoing pdu) more) share size all given done) (append_assoc pdus (pdu ∷ []) more)
    (stands-more share size (with_pdu outgoing pdu) (pdus ++ pdu ∷ []) given done more ((follows_history share size).queued outgoing pdus given done pdu at))

-- where as many packets were given as may be
pub queued_after : (share size : ℕ) (connection : ConnectionState) (more : List Pdu) → IsWithinBounds share size connection
    → outgoing_after share size (connection.pdus ++ more) connection.given connection.done
    ≡ with_pdus_queued (outgoing_after share size connection.pdus connection.given connection.done) more
queued_after share size connection more bounds =
    sym ((stands-more share size (outgoing_after share size connection.pdus connection.given connection.done) connection.pdus connection.given connection.done
    more (record {
      stands = refl;
      most = omega (arith, bounds.given, bounds.within);
      done_before = bounds.done;
    })).stands)

-- what is heard is queued
heard-both : (told : Delivery) (first others : Heard) → delivery_with_heard (delivery_with_heard told first) others
    ≡ delivery_with_heard told (after_responses first.responses others)
heard-both told first others = λ i. record {
  pending = others.pending;
  outgoing = (queued-both told.outgoing (map att_pdu first.responses) (map att_pdu others.responses)
      ∙ ap (λ (pdus : List Pdu). with_pdus_queued told.outgoing pdus) (sym (map-append att_pdu first.responses others.responses))) i;
}

heard-told : (table : Contents) (ear : HearerFacts) (now : ℕ) (handles : List Handle) (told : Delivery)
    → delivery_in_turn table ear now handles told ≡ delivery_with_heard told (heard_in_turn table.attributes table.values (slot_hearer ear told) now handles)
heard-told table ear now [] told = refl
heard-told table ear now (handle ∷ handles) told =
    let hearer : Hearer = slot_hearer ear told in
    let first : Heard = heard_when_notifying table.attributes table.values hearer handle in
    let next : Delivery = delivery_with_heard told first in
    let count : length next.outgoing.queue ≡ length told.outgoing.queue + length first.responses =
    queued-length told.outgoing (map att_pdu first.responses) ∙ ap (λ (n : ℕ). length told.outgoing.queue + n) (length-map first.responses att_pdu) in
    let same : slot_hearer ear next ≡ hearer_after hearer first =
    ap (λ (n : ℕ). record { live = true; standing = ear.standing; row = ear.row; mtu = ear.mtu; backlog = n; pending = first.pending }) count in
    heard-told table ear now handles next
    ∙ ap (λ (by : Hearer). delivery_with_heard next (heard_in_turn table.attributes table.values by now handles)) same
    ∙ heard-both told first (heard_in_turn table.attributes table.values (hearer_after hearer first) now handles)

-- who serves hears by the same
pub same_hearer : (shared : SharedState) (found : Option Row) (bond : Row) (connection : ConnectionState)
    → (is_some (key_of connection) ≡ true → found ≡ Some bond) → is_live connection.mark ≡ true
    → slot_hearer (hearer_facts_of shared.time found (slot_state_of shared connection connection.given))
    (delivery_of (slot_state_of shared connection connection.given)) ≡ hearer_of shared bond connection
same_hearer shared found bond connection has is = λ i. record {
  live = sym is i;
  standing = standing_kept shared connection connection.given i;
  row = row_kept shared connection connection.given found bond has i;
  mtu = connection_mtu shared connection;
  backlog = backlog_kept shared connection is i;
  pending = connection.pending;
}

module _ (shared : SharedState) (found : Option Row) (bonds : Bonds) (handles : List Handle) (connection : ConnectionState)
    (bounds : IsWithinBounds (share_of shared.slots shared.buffers) (fragment_size_of shared.buffers) connection)
    (has : is_some (key_of connection) ≡ true → found ≡ Some (bonds connection.peer)) where
  abbrev slot_state : SlotState
  slot_state = slot_state_of shared connection connection.given

  abbrev bond : Row
  bond = bonds connection.peer

  abbrev heard : Heard
  heard = heard_in_turn shared.table.attributes shared.table.values (hearer_of shared bond connection) shared.time handles

  abbrev then-queued : ConnectionState
  then-queued = record (with_pdus connection (map att_pdu heard.responses)) { pending = heard.pending }

  kept-heard : is_live connection.mark ≡ true → slot_state_of shared then-queued connection.given
      ≡ with_delivery slot_state (delivery_with_heard (delivery_of slot_state) heard)
  kept-heard is =
      let more : List Pdu = map att_pdu heard.responses in
      ap (λ (outgoing : Outgoing). with_delivery slot_state (record { pending = heard.pending; outgoing = outgoing }))
      (outgoing_live shared then-queued connection.given is
      ∙ queued_after (share_of shared.slots shared.buffers) (fragment_size_of shared.buffers) connection more bounds
      ∙ ap (λ (outgoing : Outgoing). with_pdus_queued outgoing more) (sym (outgoing_live shared connection connection.given is)))

  live-heard : is_live connection.mark ≡ true → slot_state_of shared then-queued connection.given
      ≡ slot_after_hearing shared.table shared.time found handles slot_state
  live-heard is =
      kept-heard is
      ∙ ap (λ (hearer : Hearer).
      with_delivery slot_state
      (delivery_with_heard (delivery_of slot_state) (heard_in_turn shared.table.attributes shared.table.values hearer shared.time handles)))
      (sym (same_hearer shared found bond connection has is))
      ∙ ap (λ (told : Delivery). with_delivery slot_state told)
      (sym (heard-told shared.table (hearer_facts_of shared.time found slot_state) shared.time handles (delivery_of slot_state)))
      ∙ sym (ap
      (λ (live : Bool). if live
      then with_delivery slot_state (delivery_in_turn shared.table (hearer_facts_of shared.time found slot_state) shared.time handles (delivery_of slot_state))
      else slot_state) is)

  -- packets that are given then are not handed out yet
  given-kept : (live : Bool) (new : ConnectionState) (count : ℕ) → slot_state_of shared (if live then record new { given = count } else new) connection.given
      ≡ slot_state_of shared new connection.given
  given-kept true new count = refl
  given-kept false new count = refl

  given-there : (live : Bool) (new : ConnectionState) (count : ℕ) → is_there new.mark ≡ true
      → is_there (if live then record new { given = count } else new).mark ≡ true
  given-there true new count is = is
  given-there false new count is = is

  by-mark : (mark : Mark) → connection.mark ≡ mark
      → slot_state_if_there shared (finished shared bonds handles connection) connection.given
      ≡ option_map (slot_after_hearing shared.table shared.time found handles) (slot_state_if_there shared connection connection.given)
  unfolding after_hearing
  by-mark Absent is =
      let none : slot_state_if_there shared connection connection.given ≡ None = ap (λ (mark : Mark). if is_there mark then Some slot_state else None) is in
      ap (λ (new : ConnectionState). slot_state_if_there shared new connection.given) (only_serves_the_live shared bonds handles connection (ap is_live is))
      ∙ none
      ∙ ap (λ (slot : Option SlotState). option_map (slot_after_hearing shared.table shared.time found handles) slot) (sym none)
  by-mark Live is =
      let live : is_live connection.mark ≡ true = ap is_live is in
      let there : is_there connection.mark ≡ true = ap is_there is in
      let given : ℕ = packets_allowed (share_of shared.slots shared.buffers) (fragment_size_of shared.buffers) then-queued.pdus connection.done in
      becomes shared connection (after_giving shared then-queued) connection.given (slot_after_hearing shared.table shared.time found handles) there
      (given-there (is_live connection.mark) then-queued given there)
      (given-kept (is_live connection.mark) then-queued given ∙ live-heard live)
  by-mark Ending is =
      let there : is_there connection.mark ≡ true = ap is_there is in
      ap (λ (new : ConnectionState). slot_state_if_there shared new connection.given) (only_serves_the_live shared bonds handles connection (ap is_live is))
      ∙ becomes shared connection connection connection.given (slot_after_hearing shared.table shared.time found handles) there there
      (sym (ap
      (λ (live : Bool). if live
      then with_delivery slot_state (delivery_in_turn shared.table (hearer_facts_of shared.time found slot_state) shared.time handles (delivery_of slot_state))
      else slot_state) (ap is_live is)))

  -- at the end of an event
  pub finished_kept : slot_state_if_there shared (finished shared bonds handles connection) connection.given
      ≡ option_map (slot_after_hearing shared.table shared.time found handles) (slot_state_if_there shared connection connection.given)
  finished_kept = by-mark connection.mark refl

-- of handles that are not of values nothing is heard
pub unheard_attr : (found : Option Attr) (bits : ℕ) (standing : Standing) → option_map_or (λ (attr : Attr). is_value attr.role) found false ≡ false
    → option_map_or (λ (attr : Attr). is_value attr.role && may_hear_of attr.guard bits standing) found false ≡ false
unheard_attr None bits standing is = refl
unheard_attr (Some attr) bits standing is = ap (λ (value : Bool). value && may_hear_of attr.guard bits standing) is

unheard : (table : Contents) (ear : HearerFacts) (handle : Handle) (told : Delivery) → is_value_at table.attributes handle ≡ false
    → delivery_when_notifying table ear handle told ≡ told
unheard table ear handle told is =
    let may : may_hear_at table.attributes ear.row ear.standing handle ≡ false =
    unheard_attr (attribute_at table.attributes handle) (bits_for ear.row handle) ear.standing is in
    let hear : hears told.pending table.attributes ear.row ear.standing handle ≡ false =
    and_right (not told.pending.timed_out) (may_hear_at table.attributes ear.row ear.standing handle) may in
    λ i. delivery_with_heard told (record {
      responses = option_to_list (if (hear i && not (wants_indications ear.row handle)) && nat_lt (length told.outgoing.queue) MAX_BACKLOG
          then Some (notification_of table.values handle ear.mtu) else None);
      pending = if hear i && wants_indications ear.row handle
          then record told.pending { waiting = with_handle told.pending.waiting handle } else told.pending;
    })

among : (table : Contents) (ear : HearerFacts) (now : ℕ) (handles : List Handle) (told : Delivery)
    → delivery_in_turn table ear now (values_among table.attributes handles) told ≡ delivery_in_turn table ear now handles told
among table ear now [] told = refl
among table ear now (handle ∷ handles) told =
    elim (is_value_at table.attributes handle) as (λ (value : Bool). is_value_at table.attributes handle ≡ value
    → delivery_in_turn table ear now (if value then handle ∷ values_among table.attributes handles else values_among table.attributes handles) told
    ≡ delivery_in_turn table ear now handles (delivery_when_notifying table ear handle told)) [
      | true ↦ λ is. among table ear now handles (delivery_when_notifying table ear handle told)
      | false ↦ λ is. among table ear now handles told ∙ ap (λ (by : Delivery). delivery_in_turn table ear now handles by)
          (sym (unheard table ear handle told is))
    ] refl

pub hears_of_values : (table : Contents) (now : ℕ) (found : Option Row) (handles : List Handle) (slot_state : SlotState)
    → slot_after_hearing table now found (values_among table.attributes handles) slot_state ≡ slot_after_hearing table now found handles slot_state
hears_of_values table now found handles slot_state =
    ap (λ (told : Delivery). if slot_state.live then with_delivery slot_state told else slot_state)
    (among table (hearer_facts_of now found slot_state) now handles (delivery_of slot_state))
