-- A host knows what its state knows, but for the names of connections: each is named by the place
-- of its slot.
use Rattle.std.proofs.Common.{◌≡◌, ℕ, zero, suc, Bool, true, false, [], ◌∷◌, slice_get, Option}
use Rattle.std.proofs.Common.{Some, None, refl, sym, ap, subst, ◌∙◌, arith}
use Rattle.std.specs.Prelude.{is_some, replicate, ◌==◌, ◌||◌, ◌&&◌, if◌then◌else◌}
use Rattle.std.specs.List.{position}
use Rattle.std.specs.Option.{option_map}
use Rattle.std.proofs.lemmas.Bool.{eqb-true}
use Rattle.att_table.specs.Table.{Contents}
use Rattle.gatt_host.proofs.meaning.Together.{finds_free, next_place}
use Rattle.gatt_host.proofs.refinement.Holding.{Holds, has_slot_there, holds, were_open}
use Rattle.gatt_host.proofs.refinement.OneSlot.{apart, same_place}
use Rattle.gatt_host.specs.ServerState.{ServerState}
use Rattle.gatt_host.specs.EventRefinement.{KnowsTheSame}
use Rattle.gatt_host.specs.Owing.{all_given, slot_state_handed, slot_states_handed}
use Rattle.gatt_host.specs.StateRefinement.{IsSound, RefinesState, place_among, place_of_connection}
use Rattle.gatt_laws.proofs.invariants.Settled.{none_next}
use Rattle.gatt_laws.specs.laws.Settled.{has_slot}
use Rattle.gatt_laws.specs.machine.Context.{holding, ordinal_where, serving}
use Rattle.gatt_laws.specs.machine.Controller.{Slots, has_free, is_ready, with_taken}
use Rattle.gatt_laws.specs.machine.Event.{Ordinal}
use Rattle.gatt_laws.specs.machine.ConnectionState.{is_live}
use Rattle.gatt_laws.specs.machine.State.{State}
use Rattle.host_connections.proofs.states.Found.{finds_holding, finds_serving}
use Rattle.host_connections.proofs.states.SlotStates.{kept_there}
use Rattle.host_connections.proofs.states.Places.{Finds, none_free, position_step}
use Rattle.host_connections.specs.SlotState.{SlotState}
use Rattle.host_connections.specs.Slots.{Place, is_serving, place_free, place_holding, place_serving}
use Rattle.octet_io.proofs.Choices.{or_false_right}

-- who has a slot is at its place
first-or-later : (first ordinal : Ordinal) (rest : Bool) (slots : Slots) (later : Place)
    → ((first == ordinal) || rest) ≡ true
    → (rest ≡ true → slice_get slots later ≡ Some (Some ordinal))
    → slice_get (Some first ∷ slots) (if first == ordinal then 0 else suc later)
    ≡ Some (Some ordinal)
first-or-later first ordinal rest slots later has others =
    elim (first == ordinal) as (λ (same : Bool). (first == ordinal) ≡ same → (same || rest) ≡ true
    → slice_get (Some first ∷ slots) (if same then 0 else suc later) ≡ Some (Some ordinal)) [
      | true ↦ λ same there. ap (λ (one : Ordinal). Some (Some one)) (eqb-true first ordinal same)
      | false ↦ λ differs there. others there
    ] refl has

at-its-place : (ordinal : Ordinal) (slots : Slots) → has_slot ordinal slots ≡ true
    → slice_get slots (place_among slots ordinal) ≡ Some (Some ordinal)
at-its-place ordinal [] has = cc has
at-its-place ordinal (None ∷ slots) has = at-its-place ordinal slots has
at-its-place ordinal (Some first ∷ slots) has =
    first-or-later first ordinal (has_slot ordinal slots) slots (place_among slots ordinal) has
    (at-its-place ordinal slots)

still-there : (next ordinal : Ordinal) (slots : Slots) → has_slot next slots ≡ false
    → has_slot ordinal slots ≡ true
    → slice_get slots (place_among (with_taken next slots) ordinal) ≡ Some (Some ordinal)
still-there next ordinal [] lacks has = cc has
still-there next ordinal (None ∷ slots) lacks has =
    ap (λ (same : Bool). slice_get (None ∷ slots)
    (if same then 0 else suc (place_among slots ordinal))) (apart next ordinal slots lacks has)
    ∙ at-its-place ordinal slots has
still-there next ordinal (Some first ∷ slots) lacks has =
    first-or-later first ordinal (has_slot ordinal slots) slots
    (place_among (with_taken next slots) ordinal) has
    (still-there next ordinal slots (or_false_right (first == next) (has_slot next slots) lacks))

-- none is found where all slots are free
none-found : (test : Option SlotState → Bool) → test None ≡ false → (count : ℕ)
    → position test (replicate count None) ≡ None
none-found test free zero = refl
none-found test free (suc count) =
    position_step test None (replicate count None)
    ∙ (λ i. if free i then Some 0 else option_map suc (none-found test free count i))

module _ (state : State) (server : ServerState) (sound : IsSound state) (refines : RefinesState state [] server) where
  is : Holds state (all_given state) server
  is = holds state server refines

  lacks-next : has_slot state.next state.slots ≡ false
  lacks-next = none_next state.next state.next state.slots (omega arith) sound.settled.slots

  pub place_there : (ordinal : Ordinal) → has_slot ordinal state.slots ≡ true
      → slice_get state.slots (place_of_connection state ordinal) ≡ Some (Some ordinal)
  place_there ordinal has = still-there state.next ordinal state.slots lacks-next has

  abbrev keep : Option Ordinal → Option SlotState
  keep slot = slot_state_handed state (all_given state) slot

  -- who is found
  pub finds : (handle : ℕ)
      → Finds state.slots (serving state handle) (place_serving server.slots handle)
  finds handle =
      elim (is_ready state.controller) as (λ (ready : Bool). is_ready state.controller ≡ ready
      → Finds state.slots (serving state handle) (place_serving server.slots handle)) [
        | true ↦ λ ready.
            subst (λ slots. Finds state.slots (serving state handle) (place_serving slots handle))
            (sym (were_open state (all_given state) server is ready))
            (finds_serving state (all_given state) keep refl (λ ordinal. refl) handle)
        | false ↦ λ early.
            let none : serving state handle ≡ None =
            ap (ordinal_where
            (λ ordinal. is_live (state.connections ordinal).mark && (state.connections ordinal).handle == handle))
            (sound.settled.early early) in
            subst (λ (found : Option Ordinal). Finds state.slots found
            (place_serving server.slots handle)) (sym none)
            (ap (λ slots. place_serving slots handle) (is.free early)
            ∙ none-found (is_serving handle) refl state.shared.slots)
      ] refl

  named : (found : Option Ordinal) (place : Option Place) → Finds state.slots found place
      → place ≡ option_map (place_of_connection state) found
  named None place none = none
  named (Some ordinal) place found =
      found.is ∙ ap (λ (at : Place). Some at)
      (same_place state.next state.slots found.at (place_of_connection state ordinal) ordinal
      sound.settled.slots found.has
      (place_there ordinal (has_slot_there ordinal state.slots found.at found.has)))

  module _ (ready : is_ready state.controller ≡ true) where
    now-open : server.slots ≡ slot_states_handed state (all_given state)
    now-open = were_open state (all_given state) server is ready

    finds-holder : (handle : ℕ)
        → Finds state.slots (holding state handle) (place_holding server.slots handle)
    finds-holder handle =
        subst (λ slots. Finds state.slots (holding state handle) (place_holding slots handle))
        (sym now-open)
        (finds_holding state (all_given state) keep refl (λ ordinal. refl) handle
        sound.placed.there)

    some-kept : (other : Ordinal) → has_slot other state.slots ≡ true → is_some (keep (Some other))
        ≡ true
    some-kept other has =
        ap (λ (slot : Option SlotState). is_some slot)
        (kept_there state.shared (state.connections other) (state.connections other).given
        (sound.placed.there other has))

    comes-to : (free : Bool) → has_free state.slots ≡ free
        → place_free server.slots
        ≡ option_map (place_of_connection state) (if free then Some state.next else None)
    comes-to true free =
        ap place_free now-open ∙ finds_free keep refl state.slots free some-kept
        ∙ ap (λ (place : Place). Some place)
        (sym (next_place state.next state.slots free lacks-next))
    comes-to false full =
        ap place_free now-open ∙ none_free keep keep state.next refl refl state.slots full some-kept

pub knows_the_same : KnowsTheSame
knows_the_same state server sound refines =
    let is : Holds state (all_given state) server = holds state server refines in
    record {
      controller = is.controller;
      attributes = ap (λ (table : Contents). table.attributes) is.table;
      changer = is.changer;
      time = is.time;
      serving =
          λ handle. named state server sound refines (serving state handle)
          (place_serving server.slots handle) (finds state server sound refines handle);
      holding = λ ready handle.
          named state server sound refines (holding state handle) (place_holding server.slots handle)
          (finds-holder state server sound refines ready handle);
      next_free = λ ready. comes-to state server sound refines ready (has_free state.slots) refl;
    }
