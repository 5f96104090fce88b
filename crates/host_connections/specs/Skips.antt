-- The values that are skipped when they are notified (this profile's own).
use Rattle.std.specs.Prelude.{ℕ, ◌+◌, Bool, ◌&&◌, not, nat_lt, if◌then◌else◌, List, [], ◌∷◌, ◌++◌, map, Option}
use Rattle.std.specs.Option.{option_map_or}
use Rattle.att_numbers.specs.Types.{Handle, Row}
use Rattle.att_policy.specs.declared.standing.Standing.{Standing}
use Rattle.att_attributes.specs.declared.attr.Attr.{Attr}
use Rattle.att_table.specs.Table.{Contents}
use Rattle.gatt_laws.specs.machine.Heard.{skipped_in_turn}
use Rattle.host_connections.specs.declared.skipped.Skipped.{Skipped}
use Rattle.host_connections.specs.Hearing.{delivery_of, hearer_facts_of, slot_hearer}
use Rattle.host_connections.specs.SlotState.{SlotState}
use Rattle.host_connections.specs.Slots.{SlotStates, handles_for, is_in}
use Rattle.gatt_subs.specs.declared.pending.TheConstants.{MAX_BACKLOG}
use Rattle.gatt_subs.specs.Hearing.{wants_indications}
use Rattle.gatt_subs.specs.Indications.{Indications, hears}
use Rattle.gatt_subs.specs.Rows.{Subscriptions, row_of}

abbrev pub skip_of : ℕ → Handle → Skipped
skip_of connection attribute = record { handle = connection; attribute = attribute }

abbrev pub skips_if_live : Contents → ℕ → Subscriptions → List Handle → SlotState → List Skipped
skips_if_live table now rows handles slot_state =
    let ear = hearer_facts_of now (row_of rows slot_state.peer) slot_state in
    if slot_state.live
    then map (skip_of slot_state.handle) (skipped_in_turn table.attributes table.values
    (slot_hearer ear (delivery_of slot_state)) handles)
    else []

abbrev pub slot_skips : Contents → ℕ → Subscriptions → List Handle → Option SlotState → List Skipped
slot_skips table now rows handles slot =
    option_map_or (skips_if_live table now rows handles) slot []

-- The values `here` are notified to the event's connection, the values `handles` to each other.
abbrev pub skips_from : ℕ → (ℕ → Option SlotState → List Skipped) → SlotStates → List Skipped
skips_from place skips [] = []
skips_from place skips (slot ∷ slots) = skips place slot ++ skips_from (place + 1) skips slots

abbrev pub all_skipped : Contents → ℕ → Subscriptions → Option ℕ → List Handle → List Handle
    → SlotStates → List Skipped
all_skipped table now rows own here handles slots = skips_from 0
    (λ place slot. slot_skips table now rows (handles_for own here handles place) slot) slots

-- Only the places of a set, as the bits of a number, count (of the code alone).
abbrev pub skips_among : Contents → ℕ → Subscriptions → ℕ → List Handle → SlotStates → List Skipped
skips_among table now rows places handles slots = skips_from 0
    (λ place slot. if is_in places place then slot_skips table now rows handles slot else []) slots

abbrev pub wants_notification : List Attr → Indications → Row → Standing → Handle → Bool
wants_notification attributes pending row standing handle =
    hears pending attributes row standing handle && not (wants_indications row handle)

-- The values of `wants` that are skipped with this backlog (of the code alone).
abbrev pub skips_by : (Handle → Bool) → ℕ → List Handle → List Handle
skips_by wants backlog [] = []
skips_by wants backlog (handle ∷ handles) =
    if wants handle then
    (if nat_lt backlog MAX_BACKLOG then skips_by wants (backlog + 1) handles
    else handle ∷ skips_by wants backlog handles)
    else skips_by wants backlog handles
