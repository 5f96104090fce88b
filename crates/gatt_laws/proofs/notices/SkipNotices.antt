-- Each skipped value causes a notice, and nothing else causes one of this kind.
use Rattle.std.proofs.Common.{◌≡◌, ℕ, ◌+◌, ◌≤◌, Bool, true, false, List, [], ◌∷◌, ◌++◌, map, length, Option, Some, None}
use Rattle.std.proofs.Common.{refl, sym, ap, ◌∙◌, arith}
use Rattle.std.specs.Prelude.{◌==◌, ◌&&◌, ◌||◌, not, nat_lt, All, cond, filter, is_some, if◌then◌else◌}
use Rattle.std.specs.List.{list_any, flat_map}
use Rattle.std.specs.Option.{option_to_list}
use Rattle.std.proofs.lemmas.Bool.{eqb-true, eq-eqb, ltb-false, not-true, or_left, or_right, and_parts}
use Rattle.std.proofs.lemmas.List.Elements.{All-nil, All-cons, All-head, All-tail, All-append}
use Rattle.std.proofs.lemmas.List.Folds.{list_any-append}
use Rattle.att_numbers.specs.Types.{Handle, Row, Values}
use Rattle.att_attributes.specs.declared.attr.Attr.{Attr}
use Rattle.att_attributes.specs.Attributes.{is_configuration_at}
use Rattle.att_pdu.specs.Response.{Response}
use Rattle.att_policy.specs.declared.standing.KeyFacts.{KeyFacts}
use Rattle.att_table.specs.ConfigRow.{bits_at}
use Rattle.gatt_conn.specs.Answer.{is_confirmation}
use Rattle.gatt_laws.proofs.notices.Skipped.{still-on-time, accounts_for_each_value}
use Rattle.gatt_laws.specs.laws.MayBeHeard.{handles_told}
use Rattle.gatt_laws.specs.laws.Settled.{has_slot}
use Rattle.gatt_laws.specs.laws.Skipped.{is_among, hearer_at, heard_at, is_skip_of, IsSkippedIfTold}
use Rattle.gatt_laws.specs.laws.Skipped.{NoticesEachSkipped, NoticesOnlyWhatIsSkipped, backlog_with, wants_notification}
use Rattle.gatt_laws.specs.machine.ConnectionState.{ConnectionState, after_giving, is_live, is_there, key_of, row_in_force}
use Rattle.gatt_laws.specs.machine.Controller.{Slots, command_of_init, count_before, without_command}
use Rattle.gatt_laws.specs.machine.Effect.{Effect, effect_of, handles_written}
use Rattle.gatt_laws.specs.machine.Event as event
use Rattle.gatt_laws.specs.machine.Event.{Ordinal, Own, Encrypted, Refreshed, Asks, Event, Of, Tick}
use Rattle.gatt_laws.specs.machine.Heard.{Heard, hearer_after, heard_when_notifying, is_skipped}
use Rattle.gatt_laws.specs.machine.Heard.{skipped_in_turn, after_hearing}
use Rattle.gatt_laws.specs.machine.Notice.{Notice, Connected, Disconnected, Secured, Unsecured, Written, Configured, Confirmed}
use Rattle.gatt_laws.specs.machine.Notice.{TimedOut, Ending, Skipped, are_same_facts, link_told, write_told, confirmation_told}
use Rattle.gatt_laws.specs.machine.Notice.{end_told, live_told, own_told, late_told, slot_told, event_told, values_skipped}
use Rattle.gatt_laws.specs.machine.Notice.{slot_skips_told, skips_told, noticed}
use Rattle.gatt_laws.specs.machine.SharedState.{SharedState, share_of, fragment_size_of}
use Rattle.gatt_laws.specs.machine.State.{State, Change, change_of, connections_finished, step}
use Rattle.gatt_subs.specs.declared.pending.TheConstants.{MAX_BACKLOG}
use Rattle.gatt_subs.specs.declared.pending.Unconfirmed.{Unconfirmed}
use Rattle.gatt_subs.specs.Hearing.{may_hear_at, wants_indications}
use Rattle.gatt_subs.specs.Indications.{Indications, hears, is_notified}
use Rattle.gatt_subs.specs.Told.{Hearer, notification_of}
use Rattle.le_acl.specs.History.{packets_allowed}

-- Each causes one.

sent-pending : (connection : ConnectionState) (sent : Bool)
    → (if sent then without_command connection else connection).pending ≡ connection.pending
sent-pending connection true =
    elim (is_some connection.reason) as (λ (has : Bool).
    (if has then record connection { reason = None } else record connection { reply = None }).pending ≡ connection.pending) [
      | true ↦ refl
      | false ↦ refl
    ]
sent-pending connection false = refl

given-pending : (shared : SharedState) (connection : ConnectionState) → (after_giving shared connection).pending ≡ connection.pending
given-pending shared connection =
    elim (is_live connection.mark) as (λ (live : Bool). (if live then record connection {
      given = packets_allowed (share_of shared.slots shared.buffers) (fragment_size_of shared.buffers) connection.pdus connection.done;
    } else connection).pending ≡ connection.pending) [ true ↦ refl | false ↦ refl ]

-- The end of an event changes the indications only by what the connection hears.
waits-then : (state : State) (happens : Event) (ordinal : Ordinal)
    → ((step state happens).connections ordinal).pending ≡ (heard_at (change_of state happens) ordinal).pending
unfolding step after_hearing
waits-then state happens ordinal =
    let change : Change = change_of state happens in
    let connection : ConnectionState = change.state.connections ordinal in
    sent-pending (connections_finished change ordinal)
    (nat_lt (length (command_of_init change.state.controller)
    + count_before ordinal (connections_finished change) change.state.slots) change.state.controller.credit)
    ∙ given-pending change.state.shared
    (after_hearing change.state.shared (change.state.bonds connection.peer) (change.to_notify ordinal) connection)

module _ (change : Change) (ordinal : Ordinal) (attribute : Handle) where
  abbrev its : Notice → Bool
  its = is_skip_of (change.state.connections ordinal).handle attribute

  values-told : (handle : ℕ) (values : List Handle) → is_among attribute values ≡ true
      → list_any (is_skip_of handle attribute) (map (Skipped handle) values) ≡ true
  values-told handle [] among = cc among
  values-told handle (other ∷ values) among = first-or-later (other == attribute) among (values-told handle values)
    where
      first-or-later : (same : Bool) → (same || is_among attribute values) ≡ true
          → (is_among attribute values ≡ true → list_any (is_skip_of handle attribute) (map (Skipped handle) values) ≡ true)
          → ((handle == handle && same) || list_any (is_skip_of handle attribute) (map (Skipped handle) values)) ≡ true
      first-or-later true there later =
          or_left (handle == handle && true) (list_any (is_skip_of handle attribute) (map (Skipped handle) values))
          (λ i. eq-eqb handle handle refl i && true)
      first-or-later false there later =
          or_right (handle == handle && false) (list_any (is_skip_of handle attribute) (map (Skipped handle) values)) (later there)

  one-told : (slots : Slots) → is_among attribute (values_skipped change ordinal) ≡ true → has_slot ordinal slots ≡ true
      → list_any its (flat_map (slot_skips_told change) slots) ≡ true
  one-told [] among has = cc has
  one-told (None ∷ slots) among has = one-told slots among has
  one-told (Some one ∷ slots) among has =
      list_any-append its (slot_skips_told change (Some one)) (flat_map (slot_skips_told change) slots)
      ∙ first-or-later (one == ordinal) refl has (one-told slots among)
    where
      first-or-later : (same : Bool) → (one == ordinal) ≡ same → (same || has_slot ordinal slots) ≡ true
          → (has_slot ordinal slots ≡ true → list_any its (flat_map (slot_skips_told change) slots) ≡ true)
          → (list_any its (slot_skips_told change (Some one)) || list_any its (flat_map (slot_skips_told change) slots)) ≡ true
      first-or-later true same there later =
          or_left (list_any its (slot_skips_told change (Some one))) (list_any its (flat_map (slot_skips_told change) slots))
          (ap (λ (of : Ordinal). list_any its (slot_skips_told change (Some of))) (eqb-true one ordinal same)
          ∙ values-told (change.state.connections ordinal).handle (values_skipped change ordinal) among)
      first-or-later false differs there later =
          or_right (list_any its (slot_skips_told change (Some one))) (list_any its (flat_map (slot_skips_told change) slots))
          (later there)

or-last : (sent waits then_waits skipped told : Bool) → waits ≡ then_waits → (skipped ≡ true → told ≡ true)
    → ((sent || waits) || skipped) ≡ true → ((sent || then_waits) || told) ≡ true
or-last true waits then_waits skipped told same becomes is = refl
or-last false true then_waits skipped told same becomes is = (λ i. sym same i || told)
or-last false false then_waits skipped told same becomes is = or_right then_waits told (becomes is)

pub notices_each_skipped : NoticesEachSkipped
unfolding noticed
notices_each_skipped state happens ordinal attribute to_hear =
    let change : Change = change_of state happens in
    let shared : SharedState = change.state.shared in
    let heard : Heard = heard_at change ordinal in
    let its : Notice → Bool = is_skip_of (change.state.connections ordinal).handle attribute in
    let wants : Bool = wants_indications (hearer_at change ordinal).row attribute in
    or-last (is_among attribute (handles_told heard.responses)) (wants && is_among attribute heard.pending.waiting)
    (wants && is_among attribute ((step state happens).connections ordinal).pending.waiting)
    (is_among attribute (values_skipped change ordinal)) (list_any its (noticed state happens))
    (sym (ap (λ (pending : Indications). wants && is_among attribute pending.waiting) (waits-then state happens ordinal)))
    (λ among. list_any-append its (event_told state happens) (skips_told change)
    ∙ or_right (list_any its (event_told state happens)) (list_any its (skips_told change))
    (one-told change ordinal attribute change.state.slots among to_hear.has))
    (accounts_for_each_value shared.table.attributes shared.table.values (hearer_at change ordinal) shared.time
    (change.to_notify ordinal) attribute to_hear.live to_hear.on_time to_hear.notified to_hear.may)

-- Nothing else does: first for one hearer.

record IsRightlySkipped (attributes : List Attr) (hearer : Hearer) (handles : List Handle) (handle : Handle) : Type 0 where
  live : hearer.live ≡ true
  on_time : hearer.pending.timed_out ≡ false
  among : is_among handle handles ≡ true
  may : may_hear_at attributes hearer.row hearer.standing handle ≡ true
  by_notification : wants_indications hearer.row handle ≡ false
  before : List Handle
  rest : List Handle
  split : handles ≡ before ++ handle ∷ rest
  full : MAX_BACKLOG ≤ backlog_with attributes hearer before

-- A notification that is sent is of a value that counts.
sent-counts : (response : Response) (handle : Handle) (others : List Handle) (sent wants : Bool)
    → (sent ≡ true → wants ≡ true)
    → length (option_to_list (if sent then Some response else None)) + length others
    ≤ length (cond wants (handle ∷ others) others)
sent-counts response handle others true true wanted = omega arith
sent-counts response handle others true false wanted = cc (wanted refl)
sent-counts response handle others false true wanted = omega arith
sent-counts response handle others false false wanted = omega arith

wanted-if-sent : (attributes : List Attr) (hearer : Hearer) (handle : Handle)
    → (hearer.live && is_notified hearer.pending attributes hearer.row hearer.standing handle hearer.backlog) ≡ true
    → wants_notification attributes hearer handle ≡ true
wanted-if-sent attributes hearer handle is =
    let heard_it : Bool = hears hearer.pending attributes hearer.row hearer.standing handle in
    let by_notification : Bool = not (wants_indications hearer.row handle) in
    let few : Bool = nat_lt hearer.backlog MAX_BACKLOG in
    let notified = and_parts hearer.live (heard_it && by_notification && few) is in
    let both = and_parts (heard_it && by_notification) few notified.1 in
    let hears_it = and_parts heard_it by_notification both.0 in
    let timely = and_parts (not hearer.pending.timed_out) (may_hear_at attributes hearer.row hearer.standing handle) hears_it.0 in
    λ i. timely.1 i && hears_it.1 i

all-weaker : (P Q : Handle → Type 0) (handles : List Handle) → ((handle : Handle) → P handle → Q handle) → All P handles → All Q handles
all-weaker P Q [] weaker all = All-nil Q
all-weaker P Q (handle ∷ handles) weaker all =
    All-cons Q handle handles (weaker handle (All-head P handle handles all))
    (all-weaker P Q handles weaker (All-tail P handle handles all))

module _ (attributes : List Attr) (values : Values) (hearer : Hearer) (handle : Handle) (handles : List Handle) where
  abbrev first : Heard
  first = heard_when_notifying attributes values hearer handle

  abbrev after : Hearer
  after = hearer_after hearer first

  abbrev IsRight : Handle → Type 0
  IsRight = IsRightlySkipped attributes hearer (handle ∷ handles)

  right-later : (other : Handle) → IsRightlySkipped attributes after handles other → IsRight other
  right-later other is =
      let before : List Handle = is.before in
      let counted = sent-counts (notification_of values handle hearer.mtu) handle
      (filter (wants_notification attributes hearer) before)
      (hearer.live && is_notified hearer.pending attributes hearer.row hearer.standing handle hearer.backlog)
      (wants_notification attributes hearer handle) (wanted-if-sent attributes hearer handle) in
      let full = is.full in
      record {
        live = is.live;
        on_time = sym (still-on-time attributes hearer handle) ∙ is.on_time;
        among = or_right (handle == other) (is_among other handles) is.among;
        may = is.may;
        by_notification = is.by_notification;
        before = handle ∷ before;
        rest = is.rest;
        split = ap (λ (later : List Handle). handle ∷ later) is.split;
        full = omega (arith, counted, full);
      }

  right-here : is_skipped attributes hearer handle ≡ true → IsRight handle
  right-here is =
      let heard_it : Bool = hears hearer.pending attributes hearer.row hearer.standing handle in
      let all = and_parts (hearer.live && heard_it && not (wants_indications hearer.row handle)) (not (nat_lt hearer.backlog MAX_BACKLOG)) is in
      let but_full = and_parts (hearer.live && heard_it) (not (wants_indications hearer.row handle)) all.0 in
      let may_too = and_parts hearer.live heard_it but_full.0 in
      let timely = and_parts (not hearer.pending.timed_out) (may_hear_at attributes hearer.row hearer.standing handle) may_too.1 in
      let full = ltb-false hearer.backlog MAX_BACKLOG (not-true (nat_lt hearer.backlog MAX_BACKLOG) all.1) in
      record {
        live = may_too.0;
        on_time = not-true hearer.pending.timed_out timely.0;
        among = or_left (handle == handle) (is_among handle handles) (eq-eqb handle handle refl);
        may = timely.1;
        by_notification = not-true (wants_indications hearer.row handle) but_full.1;
        before = [];
        rest = handles;
        split = refl;
        full = omega (arith, full);
      }

  right-if : (skipped : Bool) → is_skipped attributes hearer handle ≡ skipped
      → All IsRight (if skipped then handle ∷ [] else [])
  right-if true is = All-cons IsRight handle [] (right-here is) (All-nil IsRight)
  right-if false is = All-nil IsRight

are-right : (attributes : List Attr) (values : Values) (hearer : Hearer) (handles : List Handle)
    → All (IsRightlySkipped attributes hearer handles) (skipped_in_turn attributes values hearer handles)
are-right attributes values hearer [] = All-nil (IsRightlySkipped attributes hearer [])
are-right attributes values hearer (handle ∷ handles) =
    let after : Hearer = hearer_after hearer (heard_when_notifying attributes values hearer handle) in
    let later : List Handle = skipped_in_turn attributes values after handles in
    All-append (IsRightlySkipped attributes hearer (handle ∷ handles))
    (if is_skipped attributes hearer handle then handle ∷ [] else []) later
    (right-if attributes values hearer handle handles (is_skipped attributes hearer handle) refl)
    (all-weaker (IsRightlySkipped attributes after handles) (IsRightlySkipped attributes hearer (handle ∷ handles)) later
    (right-later attributes values hearer handle handles) (are-right attributes values after handles))

-- Then for a state: no other notice of an event is of this kind.

module _ (change : Change) where
  abbrev AreSkipped : List Notice → Type 0
  AreSkipped notices = All (IsSkippedIfTold change) notices

  none-skipped : AreSkipped []
  none-skipped = All-nil (IsSkippedIfTold change)

  one-other : (notice : Notice) → IsSkippedIfTold change notice → AreSkipped (notice ∷ [])
  one-other notice is = All-cons (IsSkippedIfTold change) notice [] is none-skipped

  either-skipped : (one other : List Notice) (test : Bool) → AreSkipped one → AreSkipped other
      → AreSkipped (if test then one else other)
  either-skipped one other true is so = is
  either-skipped one other false is so = so

  both-skipped : (one other : List Notice) → AreSkipped one → AreSkipped other → AreSkipped (one ++ other)
  both-skipped one other is so = All-append (IsSkippedIfTold change) one other is so

  link-other : (handle : ℕ) (old new : Option KeyFacts) → AreSkipped (link_told handle old new)
  link-other handle None None = none-skipped
  link-other handle None (Some new) = one-other (Secured handle new) tt
  link-other handle (Some old) None = one-other (Unsecured handle) tt
  link-other handle (Some old) (Some new) =
      either-skipped [] (Secured handle new ∷ []) (are_same_facts old new) none-skipped (one-other (Secured handle new) tt)

  confirmation-other : (handle : ℕ) (unconfirmed : Option Unconfirmed) → AreSkipped (confirmation_told handle unconfirmed)
  confirmation-other handle None = none-skipped
  confirmation-other handle (Some unconfirmed) =
      either-skipped [] (Confirmed handle unconfirmed.handle ∷ []) unconfirmed.outdated none-skipped
      (one-other (Confirmed handle unconfirmed.handle) tt)

  reason-other : (handle : ℕ) (reason : Option ℕ) → AreSkipped (map (Ending handle) (option_to_list reason))
  reason-other handle None = none-skipped
  reason-other handle (Some reason) = one-other (Ending handle reason) tt

  end-other : (handle : ℕ) (new : ConnectionState) → AreSkipped (end_told handle new)
  end-other handle new =
      either-skipped [] (map (Ending handle) (option_to_list new.reason)) (is_live new.mark) none-skipped
      (reason-other handle new.reason)

  late-other : (handle : ℕ) (late : Bool) → AreSkipped (if late then TimedOut handle ∷ [] else [])
  late-other handle true = one-other (TimedOut handle) tt
  late-other handle false = none-skipped

  slots-other : (state : State) (time : ℕ) (slots : Slots) → AreSkipped (flat_map (slot_told state time) slots)
  slots-other state time [] = none-skipped
  slots-other state time (None ∷ slots) = slots-other state time slots
  slots-other state time (Some ordinal ∷ slots) =
      both-skipped (late_told time (state.connections ordinal)) (flat_map (slot_told state time) slots)
      (late-other (state.connections ordinal).handle _) (slots-other state time slots)

  write-other : (handle : ℕ) (attribute : Handle) (bits : ℕ) (configuration : Bool)
      → IsSkippedIfTold change (if configuration then Configured handle attribute bits else Written handle attribute)
  write-other handle attribute bits true = tt
  write-other handle attribute bits false = tt

  writes-other : (attributes : List Attr) (row : Row) (handle : ℕ) (handles : List Handle)
      → AreSkipped (map (write_told attributes row handle) handles)
  writes-other attributes row handle [] = none-skipped
  writes-other attributes row handle (attribute ∷ rest) =
      All-cons (IsSkippedIfTold change) (write_told attributes row handle attribute)
      (map (write_told attributes row handle) rest)
      (write-other handle attribute (bits_at row attribute) (is_configuration_at attributes attribute))
      (writes-other attributes row handle rest)

  module _ (shared : SharedState) (bond : Row) (connection : ConnectionState) (effect : Effect) where
    live-other : (own : Own) → AreSkipped (live_told shared bond connection own effect)
    live-other (Asks pdu) =
        let wrote : List Notice = map (write_told shared.table.attributes (row_in_force effect.bond effect.connection) connection.handle)
        (handles_written shared bond connection (Asks pdu)) in
        both-skipped wrote (if is_confirmation pdu then confirmation_told connection.handle connection.pending.unconfirmed else [])
        (writes-other shared.table.attributes (row_in_force effect.bond effect.connection) connection.handle
        (handles_written shared bond connection (Asks pdu)))
        (either-skipped (confirmation_told connection.handle connection.pending.unconfirmed) [] (is_confirmation pdu)
        (confirmation-other connection.handle connection.pending.unconfirmed) none-skipped)
    live-other (Encrypted status enabled) = link-other connection.handle (key_of connection) (key_of effect.connection)
    live-other (Refreshed status) = link-other connection.handle (key_of connection) (key_of effect.connection)
    live-other own = none-skipped

    own-other : (own : Own) → AreSkipped (own_told shared bond connection own effect)
    own-other (event.Connected handle peer) =
        either-skipped [] (Connected handle peer ∷ []) (is_there connection.mark) none-skipped (one-other (Connected handle peer) tt)
    own-other event.Disconnected =
        either-skipped (Disconnected connection.handle ∷ []) [] (is_there connection.mark)
        (one-other (Disconnected connection.handle) tt) none-skipped
    own-other own =
        either-skipped (live_told shared bond connection own effect ++ end_told connection.handle effect.connection) []
        (is_live connection.mark)
        (both-skipped (live_told shared bond connection own effect) (end_told connection.handle effect.connection)
        (live-other own) (end-other connection.handle effect.connection)) none-skipped

  event-other : (state : State) (happens : Event) → AreSkipped (event_told state happens)
  unfolding event_told
  event-other state (Of ordinal own) =
      let connection : ConnectionState = state.connections ordinal in
      let bond : Row = state.bonds connection.peer in
      own-other state.shared bond connection (effect_of state.shared bond (state.owed connection.peer) connection own) own
  event-other state (Tick time) = slots-other state time state.slots
  event-other state happens = none-skipped

  -- the values that are skipped for the connection of each slot
  values-skipped : (ordinal : Ordinal) → has_slot ordinal change.state.slots ≡ true → (values : List Handle)
      → All (IsRightlySkipped change.state.shared.table.attributes (hearer_at change ordinal) (change.to_notify ordinal)) values
      → AreSkipped (map (Skipped (change.state.connections ordinal).handle) values)
  values-skipped ordinal has [] right = none-skipped
  values-skipped ordinal has (attribute ∷ values) right =
      let handle : ℕ = (change.state.connections ordinal).handle in
      let Right : Handle → Type 0 = IsRightlySkipped change.state.shared.table.attributes (hearer_at change ordinal)
      (change.to_notify ordinal) in
      let is = All-head Right attribute values right in
      All-cons (IsSkippedIfTold change) (Skipped handle attribute) (map (Skipped handle) values)
      (record {
        ordinal = ordinal;
        named = refl;
        to_hear = record { has = has; live = is.live; on_time = is.on_time; notified = is.among; may = is.may };
        by_notification = is.by_notification;
        before = is.before;
        rest = is.rest;
        split = is.split;
        full = is.full;
      })
      (values-skipped ordinal has values (All-tail Right attribute values right))

  slots-skipped : (slots : Slots) → ((ordinal : Ordinal) → has_slot ordinal slots ≡ true → has_slot ordinal change.state.slots ≡ true)
      → AreSkipped (flat_map (slot_skips_told change) slots)
  slots-skipped [] has = none-skipped
  slots-skipped (None ∷ slots) has = slots-skipped slots has
  slots-skipped (Some ordinal ∷ slots) has =
      let shared : SharedState = change.state.shared in
      both-skipped (slot_skips_told change (Some ordinal)) (flat_map (slot_skips_told change) slots)
      (values-skipped ordinal
      (has ordinal (or_left (ordinal == ordinal) (has_slot ordinal slots) (eq-eqb ordinal ordinal refl)))
      (values_skipped change ordinal)
      (are-right shared.table.attributes shared.table.values (hearer_at change ordinal) (change.to_notify ordinal)))
      (slots-skipped slots (λ other later. has other (or_right (ordinal == other) (has_slot other slots) later)))

pub notices_only_what_is_skipped : NoticesOnlyWhatIsSkipped
unfolding noticed
notices_only_what_is_skipped state happens =
    let change : Change = change_of state happens in
    both-skipped change (event_told state happens) (skips_told change) (event-other change state happens)
    (slots-skipped change change.state.slots (λ ordinal has. has))
