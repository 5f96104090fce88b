-- What is read of the slots, wherever a host stands.
use Rattle.std.proofs.Common.{◌≡◌, ℕ, zero, suc, Bool, true, false, List, [], ◌∷◌, map, Option, Some, None, refl, sym, ap, ◌∙◌}
use Rattle.std.specs.Prelude.{◌==◌, replicate, filter_map, if◌then◌else◌}
use Rattle.std.specs.List.{cons_option}
use Rattle.std.proofs.lemmas.Bool.{eq-eqb, or_left, or_right}
use Rattle.gatt_host.specs.ServerState.{ServerState, open_slots}
use Rattle.gatt_host.specs.Owing.{Handed, IsOwing, slot_state_handed}
use Rattle.gatt_host.specs.StateRefinement.{RefinesState}
use Rattle.gatt_laws.specs.machine.Controller.{Slots, is_ready}
use Rattle.gatt_laws.specs.machine.Event.{Ordinal}
use Rattle.gatt_laws.specs.machine.ConnectionState.{is_there}
use Rattle.gatt_laws.specs.laws.Settled.{has_slot}
use Rattle.gatt_laws.specs.machine.State.{State, with_commands_sent}
use Rattle.host_connections.specs.SlotState.{SlotState}
use Rattle.octet_io.specs.Number.{Octets}

-- what is read of a slot is what is read of its connection in the state, also while commands are still to go out
pub record ReadsTheSame {A : Type 0} (keep : Option SlotState → Option A) (of : State → Option Ordinal → Option A) : Type 0 where
  pub free : keep None ≡ None
  pub none : (state : State) → of state None ≡ None
  pub same : (state : State) (handed : Handed) (ordinal : Ordinal) → is_there (state.connections ordinal).mark ≡ true
      → keep (slot_state_handed state handed (Some ordinal)) ≡ of (with_commands_sent state) (Some ordinal)

module _ {A : Type 0} (keep : Option SlotState → Option A) (of : State → Option Ordinal → Option A) (reads : ReadsTheSame keep of) where
  all-kept : (state : State) (handed : Handed) (slots : Slots)
      → ((ordinal : Ordinal) → has_slot ordinal slots ≡ true → is_there (state.connections ordinal).mark ≡ true)
      → filter_map keep (map (slot_state_handed state handed) slots) ≡ filter_map (of (with_commands_sent state)) slots
  all-kept state handed [] there = refl
  all-kept state handed (None ∷ slots) there = λ i.
      cons_option ((reads.free ∙ sym (reads.none (with_commands_sent state))) i) (all-kept state handed slots there i)
  all-kept state handed (Some ordinal ∷ slots) there = λ i.
      cons_option (reads.same state handed ordinal (there ordinal (or_left (ordinal == ordinal) (has_slot ordinal slots) (eq-eqb ordinal ordinal refl))) i)
      (all-kept state handed slots (λ other has. there other (or_right (ordinal == other) (has_slot other slots) has)) i)

  none-free : (count : ℕ) → filter_map keep (replicate count None) ≡ []
  none-free zero = refl
  none-free (suc count) = λ i. cons_option (reads.free i) (none-free count i)

  owing-read : (final : State) (owed : List Octets) (server : ServerState) → IsOwing final owed server.controller (open_slots server)
      → filter_map keep (open_slots server) ≡ filter_map (of final) final.slots
  owing-read final owed server owing =
      ap (λ (slots : List (Option SlotState)). filter_map keep slots) owing.slots_are
      ∙ all-kept owing.state owing.handed owing.state.slots owing.placed.there
      ∙ ap (λ (state : State). filter_map (of state) state.slots) owing.arrives

  -- before the controller is initialised no slot has a connection; it is that before the commands, which are none of initialisation
  pub slots_read : (state : State) (owed : List Octets) (server : ServerState) → RefinesState state owed server
      → filter_map keep server.slots ≡ filter_map (of state) state.slots
  slots_read state owed server is =
      elim (is_ready server.controller) as (λ (ready : Bool). is_ready server.controller ≡ ready → filter_map keep server.slots
      ≡ filter_map (of state) state.slots) [
        | true ↦ λ ready.
            ap (λ (open_now : Bool). filter_map keep (if open_now then server.slots else [])) (sym ready) ∙ owing-read state owed server is.owing
        | false ↦ λ early.
            ap (λ (slots : List (Option SlotState)). filter_map keep slots)
            (is.free (sym (ap (λ (at : State). is_ready at.controller) is.owing.arrives) ∙ ap is_ready (sym is.owing.controller_is) ∙ early))
            ∙ none-free state.shared.slots
            ∙ ap (λ (open_now : Bool). filter_map keep (if open_now then server.slots else [])) (sym early)
            ∙ owing-read state owed server is.owing
      ] refl
