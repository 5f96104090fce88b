-- What is read of the slots by their places, wherever a host is.
use Rattle.std.proofs.Common.{◌≡◌, ℕ, zero, suc, ◌+◌, Bool, true, false, List, [], ◌∷◌, map, slice_get, Option, Some, None, refl, sym, ap, subst, ◌∙◌, arith}
use Rattle.std.specs.Prelude.{◌==◌, replicate, if◌then◌else◌}
use Rattle.std.specs.List.{cons_option}
use Rattle.std.proofs.lemmas.Bool.{eq-eqb, or_left, or_right}
use Rattle.gatt_host.specs.ServerState.{ServerState, open_slots}
use Rattle.gatt_host.specs.Owing.{Handed, IsOwing, slot_state_handed}
use Rattle.gatt_host.specs.StateRefinement.{RefinesState}
use Rattle.gatt_laws.specs.machine.Controller.{Slots, is_ready}
use Rattle.gatt_laws.specs.machine.Event.{Ordinal}
use Rattle.gatt_laws.specs.machine.ConnectionState.{is_there}
use Rattle.gatt_laws.specs.laws.Settled.{has_slot}
use Rattle.gatt_laws.specs.machine.State.{State, with_commands_sent}
use Rattle.host_connections.specs.Connections.{read_from}
use Rattle.host_connections.specs.SlotState.{SlotState}
use Rattle.octet_io.specs.Number.{Octets}

-- what holds of the connection of each slot by its place, of slots of which the first is at a place
abbrev HoldsFrom : (ℕ → Ordinal → Type 0) → ℕ → Slots → Type 0
HoldsFrom P place slots = (at : ℕ) (ordinal : Ordinal) → slice_get slots at ≡ Some (Some ordinal) → P (place + at) ordinal

-- what is read of a slot is what is read of its connection in the state, where that holds, also while commands are still to go out
pub record ReadsPlaced {A : Type 0} (keep : ℕ → Option SlotState → Option A) (of : State → ℕ → Option Ordinal → Option A) (P : ℕ → Ordinal → Type 0) : Type 0
  where
    pub free : (place : ℕ) → keep place None ≡ None
    pub none : (state : State) (place : ℕ) → of state place None ≡ None
    pub same : (state : State) (handed : Handed) (place : ℕ) (ordinal : Ordinal) → is_there (state.connections ordinal).mark ≡ true → P place ordinal
        → keep place (slot_state_handed state handed (Some ordinal)) ≡ of (with_commands_sent state) place (Some ordinal)

module _ {A : Type 0} (keep : ℕ → Option SlotState → Option A) (of : State → ℕ → Option Ordinal → Option A) (P : ℕ → Ordinal → Type 0)
    (reads : ReadsPlaced keep of P) where
  behind : (place : ℕ) (slot : Option Ordinal) (slots : Slots) → HoldsFrom P place (slot ∷ slots) → HoldsFrom P (place + 1) slots
  behind place slot slots holds at ordinal there = subst (λ (k : ℕ). P k ordinal) (omega arith) (holds (suc at) ordinal there)

  all-kept : (state : State) (handed : Handed) (place : ℕ) (slots : Slots)
      → ((ordinal : Ordinal) → has_slot ordinal slots ≡ true → is_there (state.connections ordinal).mark ≡ true)
      → HoldsFrom P place slots → read_from keep place (map (slot_state_handed state handed) slots) ≡ read_from (of (with_commands_sent state)) place slots
  all-kept state handed place [] there holds = refl
  all-kept state handed place (None ∷ slots) there holds = λ i.
      cons_option ((reads.free place ∙ sym (reads.none (with_commands_sent state) place)) i)
      (all-kept state handed (place + 1) slots there (behind place None slots holds) i)
  all-kept state handed place (Some ordinal ∷ slots) there holds =
      let own : P place ordinal = subst (λ (k : ℕ). P k ordinal) (omega arith) (holds 0 ordinal refl) in
      let is : is_there (state.connections ordinal).mark ≡ true =
      there ordinal (or_left (ordinal == ordinal) (has_slot ordinal slots) (eq-eqb ordinal ordinal refl)) in
      λ i. cons_option (reads.same state handed place ordinal is own i)
      (all-kept state handed (place + 1) slots (λ other has. there other (or_right (ordinal == other) (has_slot other slots) has))
      (behind place (Some ordinal) slots holds) i)

  none-free : (count place : ℕ) → read_from keep place (replicate count None) ≡ []
  none-free zero place = refl
  none-free (suc count) place = λ i. cons_option (reads.free place i) (none-free count (place + 1) i)

  abbrev Holds : Slots → Type 0
  Holds slots = (at : ℕ) (ordinal : Ordinal) → slice_get slots at ≡ Some (Some ordinal) → P at ordinal

  from-first : (slots : Slots) → Holds slots → HoldsFrom P 0 slots
  from-first slots holds at ordinal there = subst (λ (k : ℕ). P k ordinal) (omega arith) (holds at ordinal there)

  owing-read : (final : State) (owed : List Octets) (server : ServerState) → IsOwing final owed server.controller (open_slots server) → Holds final.slots
      → read_from keep 0 (open_slots server) ≡ read_from (of final) 0 final.slots
  owing-read final owed server owing holds =
      let before : Holds owing.state.slots = subst (λ (state : State). Holds state.slots) (sym owing.arrives) holds in
      ap (λ (slots : List (Option SlotState)). read_from keep 0 slots) owing.slots_are
      ∙ all-kept owing.state owing.handed 0 owing.state.slots owing.placed.there (from-first owing.state.slots before)
      ∙ ap (λ (state : State). read_from (of state) 0 state.slots) owing.arrives

  -- before the controller is initialised no slot has a connection; it is that before the commands, which are none of initialisation
  pub placed_read : (state : State) (owed : List Octets) (server : ServerState) → RefinesState state owed server → Holds state.slots
      → read_from keep 0 server.slots ≡ read_from (of state) 0 state.slots
  placed_read state owed server is held =
      elim (is_ready server.controller) as (λ (ready : Bool). is_ready server.controller ≡ ready → read_from keep 0 server.slots
      ≡ read_from (of state) 0 state.slots) [
        | true ↦ λ ready.
            ap (λ (open_now : Bool). read_from keep 0 (if open_now then server.slots else [])) (sym ready) ∙ owing-read state owed server is.owing held
        | false ↦ λ early.
            ap (λ (slots : List (Option SlotState)). read_from keep 0 slots)
            (is.free (sym (ap (λ (at : State). is_ready at.controller) is.owing.arrives) ∙ ap is_ready (sym is.owing.controller_is) ∙ early))
            ∙ none-free state.shared.slots 0
            ∙ ap (λ (open_now : Bool). read_from keep 0 (if open_now then server.slots else [])) (sym early)
            ∙ owing-read state owed server is.owing held
      ] refl
