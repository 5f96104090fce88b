-- The slot of a connection is found by its handle, and packets are completed entry by entry.
use Rattle.std.proofs.Common.{◌≡◌, ℕ, zero, suc, Bool, true, false, List, [], ◌∷◌, ◌++◌, map, set, Option, Some, None, refl, sym, ap, subst, ◌∙◌}
use Rattle.std.specs.Prelude.{if◌then◌else◌, ◌==◌, ◌&&◌, slice_get}
use Rattle.std.specs.Option.{option_map, option_map_or, option_to_list}
use Rattle.std.proofs.lemmas.Bool.{eq-eqb, eqb-false, ne_eqb}
use Rattle.gatt_laws.specs.machine.Context.{serving, holding}
use Rattle.gatt_laws.specs.machine.Controller.{Slots}
use Rattle.gatt_laws.specs.machine.Event.{Ordinal}
use Rattle.gatt_laws.specs.machine.Packets.{entries_of_connections}
use Rattle.gatt_laws.specs.machine.ConnectionState.{ConnectionState, Mark, Absent, Live, Ending, is_live, is_there}
use Rattle.gatt_laws.specs.machine.SharedState.{SharedState}
use Rattle.gatt_laws.specs.laws.Possible.{HaveSlots}
use Rattle.gatt_laws.specs.laws.Renaming.{renamed_entry}
use Rattle.gatt_laws.specs.laws.Settled.{has_slot, HaveOneSlotEach}
use Rattle.gatt_laws.specs.machine.State.{State, with_packets_completed, after_packets_completed}
use Rattle.host_connections.proofs.states.Events.{completed_kept}
use Rattle.host_connections.proofs.states.SlotStates.{kept_there}
use Rattle.host_connections.proofs.states.Places.{Finds, finds_same, all_same, changed_at, position_step}
use Rattle.host_connections.specs.SlotState.{SlotState, slot_state_of, slot_state_if_there}
use Rattle.host_connections.specs.Slots.{Place, SlotStates, is_serving, is_holding, place_serving, place_holding, slots_at, after_completions, slots_after_entries}
use Rattle.host_connections.specs.SlotEffects.{slot_after_packets_completed}
use Rattle.le_hci.specs.declared.event.CompletedPackets.{CompletedPackets}

-- what is kept tells whether a connection serves, and its handle
serving-kept : (shared : SharedState) (part : ConnectionState) (handed handle : ℕ) → is_serving handle (slot_state_if_there shared part handed)
    ≡ (is_live part.mark && (part.handle == handle))
serving-kept shared part handed handle = elim part.mark as (λ (mark : Mark).
    is_serving handle (if is_there mark then Some (record (slot_state_of shared part handed) { live = is_live mark }) else None)
    ≡ (is_live mark && (part.handle == handle))) [
      | Absent ↦ refl
      | Live ↦ refl
      | Ending ↦ refl
    ]

holding-kept : (shared : SharedState) (part : ConnectionState) (handed handle : ℕ) → is_there part.mark ≡ true
    → is_holding handle (slot_state_if_there shared part handed) ≡ (part.handle == handle)
holding-kept shared part handed handle there = ap (λ (slot : Option SlotState). is_holding handle slot) (kept_there shared part handed there)

module _ (state : State) (handed : Ordinal → ℕ) (keep : Option Ordinal → Option SlotState) (free : keep None ≡ None)
    (keeps : (ordinal : Ordinal) → keep (Some ordinal) ≡ slot_state_if_there state.shared (state.connections ordinal) (handed ordinal)) where
  pub finds_serving : (handle : ℕ) → Finds state.slots (serving state handle) (place_serving (map keep state.slots) handle)
  finds_serving handle =
      finds_same keep (λ ordinal. is_live (state.connections ordinal).mark && ((state.connections ordinal).handle == handle)) (is_serving handle)
      (ap (λ (slot : Option SlotState). is_serving handle slot) free) state.slots
      (λ ordinal has. ap (λ (slot : Option SlotState). is_serving handle slot) (keeps ordinal) ∙ serving-kept state.shared (state.connections ordinal)
      (handed ordinal) handle)

  pub finds_holding : (handle : ℕ) → ((ordinal : Ordinal) → has_slot ordinal state.slots ≡ true → is_there (state.connections ordinal).mark ≡ true)
      → Finds state.slots (holding state handle) (place_holding (map keep state.slots) handle)
  finds_holding handle there =
      finds_same keep (λ ordinal. (state.connections ordinal).handle == handle) (is_holding handle)
      (ap (λ (slot : Option SlotState). is_holding handle slot) free) state.slots
      (λ ordinal has. ap (λ (slot : Option SlotState). is_holding handle slot) (keeps ordinal)
      ∙ holding-kept state.shared (state.connections ordinal) (handed ordinal) handle (there ordinal has))

-- packets are completed, place by place
module _ (shared : SharedState) (next : Ordinal) (slots : Slots) (each : HaveOneSlotEach next slots) (handed : Ordinal → ℕ) (places : Ordinal → Place)
    (placed : (ordinal : Ordinal) → has_slot ordinal slots ≡ true → slice_get slots (places ordinal) ≡ Some (Some ordinal)) where
  keeps_of : (Ordinal → ConnectionState) → Option Ordinal → Option SlotState
  keeps_of parts None = None
  keeps_of parts (Some ordinal) = slot_state_if_there shared (parts ordinal) (handed ordinal)

  abbrev AreGiven : (Ordinal → ConnectionState) → Type 0
  AreGiven parts = (ordinal : Ordinal) → (parts ordinal).given ≡ handed ordinal

  abbrev one-completed : (Ordinal → ConnectionState) → Ordinal → ℕ → Ordinal → ConnectionState
  one-completed parts own count ordinal = if own == ordinal then with_packets_completed (parts ordinal) count else parts ordinal

  still-given : (parts : Ordinal → ConnectionState) (own : Ordinal) (count : ℕ) → AreGiven parts → AreGiven (one-completed parts own count)
  still-given parts own count given ordinal =
      (elim (own == ordinal) as (λ (is : Bool). (if is then with_packets_completed (parts ordinal) count else parts ordinal).given ≡ (parts ordinal).given)
      [ true ↦ refl | false ↦ refl ])
      ∙ given ordinal

  entry-counted : (parts : Ordinal → ConnectionState) (count : ℕ) (own : Ordinal) (at : Place) → AreGiven parts → slice_get slots at ≡ Some (Some own)
      → slots_at at (slot_after_packets_completed count) (map (keeps_of parts) slots) ≡ map (keeps_of (one-completed parts own count)) slots
  unfolding keeps_of
  entry-counted parts count own at given has =
      changed_at (keeps_of parts) (keeps_of (one-completed parts own count)) (λ slot. option_map (slot_after_packets_completed count) slot) next slots at own
      refl each has
      (subst (λ (n : ℕ). option_map (slot_after_packets_completed count) (slot_state_if_there shared (parts own) n)
      ≡ slot_state_if_there shared (with_packets_completed (parts own) count) n) (given own)
      (sym (completed_kept shared (parts own) count))
      ∙ ap (λ (is : Bool). slot_state_if_there shared (if is then with_packets_completed (parts own) count else parts own) (handed own))
      (sym (eq-eqb own own refl)))
      (λ other has_other differs.
      ap (λ (is : Bool). slot_state_if_there shared (if is then with_packets_completed (parts other) count else parts other) (handed other))
      (sym (ne_eqb own other (λ same. eqb-false other own differs (sym same)))))

  entries-counted : (entries : List (Ordinal × ℕ)) (parts : Ordinal → ConnectionState) → HaveSlots slots entries → AreGiven parts
      → after_completions (map (renamed_entry places) entries) (map (keeps_of parts) slots)
      ≡ map (keeps_of (λ ordinal. after_packets_completed ordinal entries (parts ordinal))) slots
  entries-counted [] parts have given = refl
  entries-counted (entry ∷ entries) parts have given =
      ap (λ (held : SlotStates). after_completions (map (renamed_entry places) entries) held)
      (entry-counted parts entry.1 entry.0 (places entry.0) given (placed entry.0 have.0))
      ∙ entries-counted entries (one-completed parts entry.0 entry.1) have.1 (still-given parts entry.0 entry.1 given)

  keeps-same : (parts : Ordinal → ConnectionState) (keep : Option Ordinal → Option SlotState) → keep None ≡ None
      → ((ordinal : Ordinal) → keep (Some ordinal) ≡ slot_state_if_there shared (parts ordinal) (handed ordinal))
      → map keep slots ≡ map (keeps_of parts) slots
  unfolding keeps_of
  keeps-same parts keep free same = all_same keep (keeps_of parts) free slots (λ ordinal has. same ordinal)

  held-counted : (entries : List (Ordinal × ℕ)) (parts : Ordinal → ConnectionState) (keep after : Option Ordinal → Option SlotState) → HaveSlots slots entries
      → AreGiven parts
      → keep None ≡ None → ((ordinal : Ordinal) → keep (Some ordinal) ≡ slot_state_if_there shared (parts ordinal) (handed ordinal))
      → after None ≡ None
      → ((ordinal : Ordinal) → after (Some ordinal) ≡ slot_state_if_there shared (after_packets_completed ordinal entries (parts ordinal)) (handed ordinal))
      → after_completions (map (renamed_entry places) entries) (map keep slots) ≡ map after slots
  held-counted entries parts keep after have given free keeps free_after keeps_after =
      ap (λ (held : SlotStates). after_completions (map (renamed_entry places) entries) held) (keeps-same parts keep free keeps)
      ∙ entries-counted entries parts have given
      ∙ sym (keeps-same (λ ordinal. after_packets_completed ordinal entries (parts ordinal)) after free_after keeps_after)

-- in a state
pub all_completed : (state : State) (places : Ordinal → Place) (entries : List (Ordinal × ℕ)) (keep after : Option Ordinal → Option SlotState)
    → HaveOneSlotEach state.next state.slots
    → ((ordinal : Ordinal) → has_slot ordinal state.slots ≡ true → slice_get state.slots (places ordinal) ≡ Some (Some ordinal))
    → HaveSlots state.slots entries
    → keep None ≡ None
    → ((ordinal : Ordinal) → keep (Some ordinal) ≡ slot_state_if_there state.shared (state.connections ordinal) (state.connections ordinal).given)
    → after None ≡ None → ((ordinal : Ordinal)
    → after (Some ordinal) ≡ slot_state_if_there state.shared (after_packets_completed ordinal entries (state.connections ordinal))
    (state.connections ordinal).given)
    → after_completions (map (renamed_entry places) entries) (map keep state.slots) ≡ map after state.slots
all_completed state places entries keep after each placed have free keeps free_after keeps_after =
    held-counted state.shared state.next state.slots each (λ ordinal. (state.connections ordinal).given) places placed entries state.connections keep after
    have (λ ordinal. refl) free keeps free_after keeps_after

-- and entry by entry it is the same: what is completed leaves each handle where it is
holds-still : (handle count : ℕ) (slot : Option SlotState) → is_holding handle (option_map (slot_after_packets_completed count) slot) ≡ is_holding handle slot
holds-still handle count None = refl
holds-still handle count (Some slot_state) = refl

behind-first : {A : Type 0} (x : A) (xs : List A) (change : A → List A) (found : Option A)
    → option_map_or (λ y. x ∷ change y) found (x ∷ xs) ≡ x ∷ option_map_or change found xs
behind-first x xs change None = refl
behind-first x xs change (Some y) = refl

found-still : (handle count : ℕ) (place : Place) (slots : SlotStates) → place_holding (slots_at place (slot_after_packets_completed count) slots) handle
    ≡ place_holding slots handle
found-still handle count place [] = refl
found-still handle count zero (slot ∷ slots) =
    position_step (is_holding handle) (option_map (slot_after_packets_completed count) slot) slots
    ∙ ap (λ (holds : Bool). if holds then Some 0 else option_map suc (place_holding slots handle)) (holds-still handle count slot)
    ∙ sym (position_step (is_holding handle) slot slots)
found-still handle count (suc place) (slot ∷ slots) =
    ap (λ (held : SlotStates). place_holding held handle)
    (behind-first slot slots (λ (other : Option SlotState). set slots place (option_map (slot_after_packets_completed count) other)) (slice_get slots place))
    ∙ position_step (is_holding handle) slot (slots_at place (slot_after_packets_completed count) slots)
    ∙ ap (λ (found : Option Place). if is_holding handle slot then Some 0 else option_map suc found) (found-still handle count place slots)
    ∙ sym (position_step (is_holding handle) slot slots)

entries-placed : (entries : List CompletedPackets) (found : ℕ → Option Place) (slots : SlotStates) → ((handle : ℕ) → place_holding slots handle ≡ found handle)
    → slots_after_entries entries slots ≡ after_completions (entries_of_connections found entries) slots
entries-placed [] found slots same = refl
entries-placed (entry ∷ entries) found slots same =
    ap (λ (place : Option Place).
    slots_after_entries entries (option_map_or (λ (at : Place). slots_at at (slot_after_packets_completed entry.packets) slots) place slots))
    (same entry.handle)
    ∙ by (found entry.handle) (λ held is. entries-placed entries found held is)
  where
    by : (place : Option Place)
        → ((held : SlotStates) → ((handle : ℕ) → place_holding held handle ≡ found handle) → slots_after_entries entries held
        ≡ after_completions (entries_of_connections found entries) held)
        → slots_after_entries entries (option_map_or (λ (at : Place). slots_at at (slot_after_packets_completed entry.packets) slots) place slots)
        ≡ after_completions (option_to_list (option_map (λ connection. (connection, entry.packets)) place) ++ entries_of_connections found entries) slots
    by None others = others slots same
    by (Some at) others =
        others (slots_at at (slot_after_packets_completed entry.packets) slots) (λ handle. found-still handle entry.packets at slots ∙ same handle)

pub entries_at_places : (entries : List CompletedPackets) (slots : SlotStates)
    → slots_after_entries entries slots ≡ after_completions (entries_of_connections (place_holding slots) entries) slots
entries_at_places entries slots = entries-placed entries (place_holding slots) slots (λ handle. refl)
