-- A connection of which nothing was written, and to which nothing waits to be indicated, hears nothing.
use Rattle.std.proofs.Common.{◌≡◌, ℕ, ◌+◌, Bool, true, false, ◌||◌, nat_lt, ◌==◌, ◌&&◌, not, ◌∷◌, if◌then◌else◌, List, [], length, Option, Some, None, refl, sym, ap, ◌∙◌, arith}
use Rattle.std.proofs.lemmas.Bool.Decides.{nat_tests}
use Rattle.att_numbers.specs.Types.{Handle, Row}
use Rattle.att_table.specs.Table.{Contents}
use Rattle.att_attributes.specs.declared.attr.Attr.{Attr}
use Rattle.att_attributes.specs.Attributes.{attribute_at, is_value}
use Rattle.att_policy.specs.declared.guard.Guard.{Guard}
use Rattle.att_policy.specs.declared.standing.Standing.{Standing}
use Rattle.att_policy.specs.Policy.{configuration_bits_of, first_unmet_rule_of, may_hear_of}
use Rattle.std.specs.Prelude.{is_none, is_some}
use Rattle.std.specs.Int.Bits.{and_zero_l}
use Rattle.std.proofs.lemmas.Bool.{and_right, or_parts, not-false}
use Rattle.host_connections.specs.Hearing.{HearerFacts, Delivery, slot_after_hearing, hearer_facts_of, row_by_key, slot_row_in_force, delivery_of, delivery_when_notifying, delivery_when_indicating, delivery_with_heard, with_delivery}
use Rattle.gatt_subs.specs.Hearing.{may_hear_at, wants_indications}
use Rattle.gatt_subs.specs.Indications.{after_notify, hears, is_notified, with_handle}
use Rattle.gatt_subs.specs.Told.{notification_of}
use Rattle.std.specs.List.{list_any}
use Rattle.std.specs.Option.{option_map_or, option_to_list}
use Rattle.host_connections.specs.SlotState.{SlotState}
use Rattle.host_connections.specs.Places.{is_some_handle, may_listen, waits}
use Rattle.host_connections.specs.Slots.{SlotStates, all_heard, handles_for, slot_heard, heard_from, is_own_place, slot_notified}
use Rattle.gatt_subs.specs.Rows.{Subscriptions, row_of}
use Rattle.gatt_subs.specs.declared.pending.TheConstants.{MAX_BACKLOG}
use Rattle.gatt_subs.specs.declared.pending.Unconfirmed.{Unconfirmed}
use Rattle.gatt_subs.specs.Indications.{Indications}
use Rattle.le_acl.specs.Outgoing.{Outgoing}
use Rattle.octet_io.proofs.Choices.{same_choice}

abbrev told_with : List Handle → Option Unconfirmed → Bool → Outgoing → Delivery
told_with waiting unconfirmed timed_out outgoing =
    record { pending = record { waiting = waiting; unconfirmed = unconfirmed; timed_out = timed_out }; outgoing = outgoing }

none_released : (table : Contents) (ear : HearerFacts) (now : ℕ) (unconfirmed : Option Unconfirmed) (timed_out : Bool) (outgoing : Outgoing)
    → delivery_when_indicating table ear now (told_with [] unconfirmed timed_out outgoing) ≡ told_with [] unconfirmed timed_out outgoing
none_released table ear now (Some sent) timed_out outgoing = refl
none_released table ear now None true outgoing = refl
none_released table ear now None false outgoing =
    let few : Bool = nat_lt (length outgoing.queue) MAX_BACKLOG in
    let nothing : Option Handle = None in
    let pending : Indications = record { waiting = []; unconfirmed = None; timed_out = false } in
    rw (same_choice few nothing, same_choice few pending) refl

pub idle_released : (table : Contents) (ear : HearerFacts) (now : ℕ) (told : Delivery) → told.pending.waiting ≡ [] → delivery_when_indicating table ear now told
    ≡ told
idle_released table ear now told none =
    let unconfirmed : Option Unconfirmed = told.pending.unconfirmed in
    let timed_out : Bool = told.pending.timed_out in
    ap (λ (waiting : List Handle). delivery_when_indicating table ear now (told_with waiting unconfirmed timed_out told.outgoing)) none
    ∙ none_released table ear now unconfirmed timed_out told.outgoing
    ∙ sym (ap (λ (waiting : List Handle). told_with waiting unconfirmed timed_out told.outgoing) none)

pub nothing_heard : (table : Contents) (now : ℕ) (bond : Option Row) (slot_state : SlotState) → slot_state.pending.waiting ≡ []
    → slot_after_hearing table now bond [] slot_state ≡ slot_state
nothing_heard table now bond slot_state none =
    let ear : HearerFacts = hearer_facts_of now bond slot_state in
    elim slot_state.live as (λ live. (if live then with_delivery slot_state (delivery_when_indicating table ear now (delivery_of slot_state)) else slot_state)
    ≡ slot_state) [
      | true ↦ ap (with_delivery slot_state) (idle_released table ear now (delivery_of slot_state) none)
      | false ↦ refl
    ]

-- what a value that was notified leaves, by whether it is heard
abbrev raised-if : Contents → HearerFacts → Handle → Delivery → Bool → Delivery
raised-if table ear handle told heard = delivery_with_heard told (record {
  responses = option_to_list (if heard && not (wants_indications ear.row handle) && nat_lt (length told.outgoing.queue) MAX_BACKLOG
      then Some (notification_of table.values handle ear.mtu) else None);
  pending = if heard && wants_indications ear.row handle
      then record told.pending { waiting = with_handle told.pending.waiting handle } else told.pending;
})

-- nor does one that may not hear of the value that is notified
unheard-raised : (table : Contents) (ear : HearerFacts) (handle : Handle) (told : Delivery) → may_hear_at table.attributes ear.row ear.standing handle ≡ false
    → delivery_when_notifying table ear handle told ≡ told
unheard-raised table ear handle told silent = ap (raised-if table ear handle told) (and_right (not told.pending.timed_out) _ silent)

pub nothing_raised : (table : Contents) (now : ℕ) (rows : Subscriptions) (handle : Handle)
    → ((row : Row) (standing : Standing) → may_hear_at table.attributes row standing handle ≡ false)
    → (slot : Option SlotState) → slot_notified table now rows handle slot ≡ slot
nothing_raised table now rows handle silent None = refl
nothing_raised table now rows handle silent (Some slot_state) =
    let ear : HearerFacts = hearer_facts_of now (row_of rows slot_state.peer) slot_state in
    elim slot_state.live as
    (λ live. Some (if live then with_delivery slot_state (delivery_when_notifying table ear handle (delivery_of slot_state)) else slot_state)
    ≡ Some slot_state) [
      | true ↦ ap (λ (told : Delivery). Some (with_delivery slot_state told))
          (unheard-raised table ear handle (delivery_of slot_state) (silent ear.row ear.standing))
      | false ↦ refl
    ]

-- and where nothing waits for any of them, and nothing was written, none hears anything
none-waits : (waiting : List Handle) → is_some_handle waiting ≡ false → waiting ≡ []
none-waits [] none = refl
none-waits (handle ∷ handles) none = cc none

pub quiet_slot : (table : Contents) (now : ℕ) (rows : Subscriptions) (slot : Option SlotState) → waits slot ≡ false → slot_heard table now rows [] slot ≡ slot
quiet_slot table now rows None none = refl
quiet_slot table now rows (Some slot_state) none =
    ap (λ (it : SlotState). Some it) (nothing_heard table now (row_of rows slot_state.peer) slot_state (none-waits slot_state.pending.waiting none))

all-quiet : (hear : ℕ → Option SlotState → Option SlotState) → ((place : ℕ) (slot : Option SlotState) → waits slot ≡ false → hear place slot ≡ slot)
    → (start : ℕ) (slots : SlotStates) → list_any waits slots ≡ false → heard_from start hear slots ≡ slots
all-quiet hear quiet start [] none = refl
all-quiet hear quiet start (slot ∷ slots) none =
    let parts = or_parts (waits slot) (list_any waits slots) none in
    λ i. quiet start slot parts.0 i ∷ all-quiet hear quiet (start + 1) slots parts.1 i

pub nothing_heard_by_all : (table : Contents) (now : ℕ) (rows : Subscriptions) (own : Option ℕ) (slots : SlotStates) → list_any waits slots ≡ false
    → slots ≡ all_heard table now rows own [] [] slots
nothing_heard_by_all table now rows own slots none =
    sym (all-quiet (λ place slot. slot_heard table now rows (handles_for own [] [] place) slot)
    (λ place slot idle. ap (λ (handles : List Handle). slot_heard table now rows handles slot) (same_choice (is_own_place own place) [])
    ∙ quiet_slot table now rows slot idle)
    0 slots none)

pub none_there : {A : Type 0} (items : List A) → (length items == 0) ≡ true → items ≡ []
none_there [] none = refl
none_there (item ∷ items) none = absurd (grind (arith, nat_tests, none))

-- nor does one hear of any value whose client has configured nothing
unasked-of : (guard : Guard) (standing : Standing) → may_hear_of guard 0 standing ≡ false
unasked-of guard standing =
    ap (λ (both : ℕ). not (both == 0) && is_none (first_unmet_rule_of guard.read standing)) (and_zero_l (configuration_bits_of guard.properties))

pub unasked : (attributes : List Attr) (standing : Standing) (handle : Handle) → may_hear_at attributes [] standing handle ≡ false
unasked attributes standing handle =
    elim (attribute_at attributes handle) as (λ (found : Option Attr).
    option_map_or (λ (attr : Attr). is_value attr.role && may_hear_of attr.guard 0 standing) found false ≡ false) [
      | None ↦ refl
      | Some attr ↦ and_right (is_value attr.role) (may_hear_of attr.guard 0 standing) (unasked-of attr.guard standing)
    ]

pub none_in_force : (bond : Option Row) (slot_state : SlotState) → (is_some slot_state.link.key || not (length slot_state.row == 0)) ≡ false
    → slot_row_in_force bond slot_state ≡ []
none_in_force bond slot_state none =
    let parts = or_parts (is_some slot_state.link.key) (not (length slot_state.row == 0)) none in
    ap (λ (has : Bool). row_by_key has bond slot_state.row) parts.0 ∙ none_there slot_state.row (not-false (length slot_state.row == 0) parts.1)

pub unlistening : (table : Contents) (now : ℕ) (rows : Subscriptions) (handle : Handle) (slot : Option SlotState) → may_listen slot ≡ false
    → slot_notified table now rows handle slot ≡ slot
unlistening table now rows handle None deaf = refl
unlistening table now rows handle (Some slot_state) deaf =
    let ear : HearerFacts = hearer_facts_of now (row_of rows slot_state.peer) slot_state in
    elim slot_state.live as (λ (live : Bool). (live && (is_some slot_state.link.key || not (length slot_state.row == 0))) ≡ false
    → Some (if live then with_delivery slot_state (delivery_when_notifying table ear handle (delivery_of slot_state)) else slot_state) ≡ Some slot_state) [
      | true ↦ λ none. ap (λ (told : Delivery). Some (with_delivery slot_state told)) (unheard-raised table ear handle (delivery_of slot_state)
          (ap (λ (row : Row). may_hear_at table.attributes row ear.standing handle) (none_in_force (row_of rows slot_state.peer) slot_state none)
          ∙ unasked table.attributes ear.standing handle))
      | false ↦ λ none. refl
    ] deaf

-- one that is notified of a value waits for nothing more
pub notified_stays : (pending : Indications) (attributes : List Attr) (row : Row) (standing : Standing) (handle : Handle) (backlog : ℕ)
    → is_notified pending attributes row standing handle backlog ≡ true → after_notify pending attributes row standing handle ≡ pending
notified_stays pending attributes row standing handle backlog =
    by (hears pending attributes row standing handle) (wants_indications row handle) (nat_lt backlog MAX_BACKLOG)
  where
    by : (heard wanted few : Bool) → (heard && not wanted && few) ≡ true
        → (if heard && wanted then record pending { waiting = with_handle pending.waiting handle } else pending) ≡ pending
    by true true few is = cc is
    by true false few is = refl
    by false wanted few is = refl
