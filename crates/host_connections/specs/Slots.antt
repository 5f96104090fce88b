-- All slots of a host, in their order.
use Rattle.std.specs.Prelude.{ℕ, ◌+◌, ◌==◌, ◌<◌, ◌&&◌, Bool, false, is_none, if◌then◌else◌, List, [], ◌∷◌, length, map, set, slice_get, min, filter_map, Option, Some, None, IsSome}
use Rattle.std.specs.Int.{bit_at}
use Rattle.std.specs.List.{flat_map, position, reduce}
use Rattle.std.specs.Option.{option_map, option_map_or}
use Rattle.att_numbers.specs.Types.{Handle, Row}
use Rattle.att_attributes.specs.declared.attr.Attr.{Attr}
use Rattle.att_table.specs.Table.{Contents}
use Rattle.gatt_laws.specs.laws.Deadline.{earlier_of, end_after}
use Rattle.host_connections.specs.Hearing.{slot_after_hearing, slot_after_notifying, slot_after_notifying_alone, slot_row_in_force}
use Rattle.host_connections.specs.SlotState.{SlotState}
use Rattle.host_connections.specs.SlotEffects.{slot_after_packets_completed, after_table, after_time}
use Rattle.gatt_subs.specs.Deadline.{deadline_of}
use Rattle.gatt_subs.specs.Indications.{times_out}
use Rattle.gatt_subs.specs.Rows.{Subscriptions, row_of}
use Rattle.le_hci.specs.declared.event.CompletedPackets.{CompletedPackets}

abbrev pub Place : Type 0
Place = ℕ

abbrev pub SlotStates : Type 0
SlotStates = List (Option SlotState)

-- An ending connection holds its handle, but does not serve.
abbrev pub is_serving : ℕ → Option SlotState → Bool
is_serving handle slot =
    option_map_or (λ (slot_state : SlotState). slot_state.live && (slot_state.handle == handle))
    slot false

abbrev pub is_holding : ℕ → Option SlotState → Bool
is_holding handle slot =
    option_map_or (λ (slot_state : SlotState). slot_state.handle == handle) slot false

abbrev pub place_serving : SlotStates → ℕ → Option ℕ
place_serving slots handle = position (is_serving handle) slots

abbrev pub place_holding : SlotStates → ℕ → Option ℕ
place_holding slots handle = position (is_holding handle) slots

abbrev pub place_free : SlotStates → Option ℕ
place_free slots = position is_none slots

abbrev pub slot_state_at : SlotStates → ℕ → Option SlotState
slot_state_at slots place =
    option_map_or (λ (slot : Option SlotState). slot) (slice_get slots place) None

abbrev pub at_place : {A : Type 0} → ℕ → (A → A) → List A → List A
at_place place change xs = option_map_or (λ x. set xs place (change x)) (slice_get xs place) xs

abbrev pub slots_at : ℕ → (SlotState → SlotState) → SlotStates → SlotStates
slots_at place change slots = at_place place (option_map change) slots

-- The row in force of a slot, if it has a connection.
abbrev pub slot_row : SlotStates → Subscriptions → ℕ → Option Row
slot_row slots rows place =
    option_map
    (λ (slot_state : SlotState). slot_row_in_force (row_of rows slot_state.peer) slot_state)
    (slot_state_at slots place)

abbrev pub slot_row_at : SlotStates → Subscriptions → ℕ → Row
slot_row_at slots rows place =
    option_map_or
    (λ (slot_state : SlotState). slot_row_in_force (row_of rows slot_state.peer) slot_state)
    (slot_state_at slots place) []

pub record IsThere (slots : SlotStates) (place : ℕ) : Type 0 where
  pub within : place < length slots
  pub some : IsSome (slot_state_at slots place)

-- The event's connection is notified of the values `here`, all others of `handles`.
abbrev pub is_own_place : Option ℕ → ℕ → Bool
is_own_place own place = option_map_or (λ (at : ℕ). at == place) own false

abbrev pub handles_for : Option ℕ → List Handle → List Handle → ℕ → List Handle
handles_for own here handles place = if is_own_place own place then here else handles

abbrev pub slot_heard : Contents → ℕ → Subscriptions → List Handle → Option SlotState
    → Option SlotState
slot_heard table now rows handles slot =
    option_map
    (λ (slot_state : SlotState). slot_after_hearing table now (row_of rows slot_state.peer) handles
    slot_state) slot

abbrev pub heard_from : ℕ → (ℕ → Option SlotState → Option SlotState) → SlotStates → SlotStates
heard_from place hear [] = []
heard_from place hear (slot ∷ slots) = hear place slot ∷ heard_from (place + 1) hear slots

abbrev pub all_heard : Contents → ℕ → Subscriptions → Option ℕ → List Handle → List Handle
    → SlotStates → SlotStates
all_heard table now rows own here handles slots =
    heard_from 0 (λ place slot. slot_heard table now rows (handles_for own here handles place) slot)
    slots

abbrev pub slot_notified : Contents → ℕ → Subscriptions → Handle → Option SlotState
    → Option SlotState
slot_notified table now rows handle slot =
    option_map
    (λ (slot_state : SlotState). slot_after_notifying table now (row_of rows slot_state.peer) handle
    slot_state) slot

-- A set of places, as the bits of a number (of the code alone).
abbrev pub is_in : ℕ → ℕ → Bool
is_in places place = bit_at places place == 1

abbrev pub slot_notified_at : Contents → ℕ → Subscriptions → ℕ → Handle → ℕ → Option SlotState
    → Option SlotState
slot_notified_at table now rows places handle place slot =
    if is_in places place then slot_notified table now rows handle slot else slot

abbrev pub all_notified : Contents → ℕ → Subscriptions → ℕ → Handle → SlotStates → SlotStates
all_notified table now rows places handle slots =
    heard_from 0 (λ place slot. slot_notified_at table now rows places handle place slot) slots

-- The same, value by value (of the code alone).
abbrev pub all_notified_in_turn : Contents → ℕ → Subscriptions → ℕ → List Handle → SlotStates
    → SlotStates
all_notified_in_turn table now rows places [] slots = slots
all_notified_in_turn table now rows places (handle ∷ handles) slots =
    all_notified_in_turn table now rows places handles
    (all_notified table now rows places handle slots)

-- A value that is the only one is sent at once (of the code alone).
abbrev pub slot_notified_alone : Contents → ℕ → Subscriptions → Handle → Option SlotState
    → Option SlotState
slot_notified_alone table now rows handle slot =
    option_map
    (λ (slot_state : SlotState). slot_after_notifying_alone table now (row_of rows slot_state.peer)
    handle slot_state) slot

abbrev pub all_notified_alone : Contents → ℕ → Subscriptions → ℕ → Handle → SlotStates → SlotStates
all_notified_alone table now rows places handle slots =
    heard_from 0
    (λ place slot. if is_in places place then slot_notified_alone table now rows handle slot
    else slot) slots

-- The handles of connections that time out, in the order of their slots.
abbrev pub late_handle : ℕ → SlotState → List ℕ
late_handle now slot_state = if times_out slot_state.pending now then slot_state.handle ∷ [] else []

abbrev pub late_handles : ℕ → SlotStates → List ℕ
late_handles now slots =
    flat_map (λ (slot : Option SlotState). option_map_or (late_handle now) slot []) slots

abbrev pub slot_authorization_end : ℕ → SlotState → Option ℕ
slot_authorization_end now slot_state =
    if slot_state.live then end_after now slot_state.until else None

-- The earlier of the authorization's end and the time at which the indication is late.
abbrev pub slot_state_deadline : ℕ → Option SlotState → Option ℕ
slot_state_deadline now None = None
slot_state_deadline now (Some slot_state) =
    earlier_of (deadline_of slot_state.pending) (slot_authorization_end now slot_state)

abbrev pub slots_deadline : ℕ → SlotStates → Option ℕ
slots_deadline now slots = reduce min (filter_map (slot_state_deadline now) slots)

abbrev pub all_after_time : ℕ → SlotStates → SlotStates
all_after_time now slots = map (λ (slot : Option SlotState). option_map (after_time now) slot) slots

abbrev pub all_after_table : List Attr → List Attr → SlotStates → SlotStates
all_after_table old new slots =
    map (λ (slot : Option SlotState). option_map (after_table old new) slot) slots

-- An entry of an unknown handle is ignored.
abbrev pub slots_after_entry : CompletedPackets → SlotStates → SlotStates
slots_after_entry entry slots =
    option_map_or
    (λ (place : ℕ).
    option_map_or
    (λ slot. set slots place (option_map (slot_after_packets_completed entry.packets) slot))
    (slice_get slots place) slots)
    (place_holding slots entry.handle) slots

abbrev pub slots_after_entries : List CompletedPackets → SlotStates → SlotStates
slots_after_entries [] slots = slots
slots_after_entries (entry ∷ entries) slots =
    slots_after_entries entries (slots_after_entry entry slots)

abbrev pub after_completions : List (Place × ℕ) → SlotStates → SlotStates
after_completions [] slots = slots
after_completions (entry ∷ entries) slots =
    after_completions entries (slots_at entry.0 (slot_after_packets_completed entry.1) slots)
