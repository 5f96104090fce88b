-- Packets that are completed lead a host on.
use Rattle.std.proofs.Common.{◌≡◌, ℕ, Bool, true, false, List, [], ◌∷◌, map, length, Option, Some, None, refl, sym, ap, ◌∙◌}
use Rattle.std.specs.Prelude.{if◌then◌else◌, ◌==◌}
use Rattle.gatt_host.proofs.owing.Nexts.{clash}
use Rattle.gatt_host.proofs.refinement.ForAll.{each_length}
use Rattle.gatt_host.proofs.refinement.Holding.{Holds, SameLink, ends, holds, keyed_alike, were_open}
use Rattle.gatt_host.proofs.refinement.Names.{place_there}
use Rattle.gatt_host.specs.ServerState.{ServerState, server_after_packets_completed}
use Rattle.gatt_host.specs.Owing.{all_given, slot_state_handed, slot_states_handed}
use Rattle.gatt_host.specs.StateRefinement.{RefinesStep, RefinesState, IsSound, place_of_connection}
use Rattle.gatt_laws.specs.laws.Possible.{HaveSlots}
use Rattle.gatt_laws.specs.laws.Renaming.{renamed_entry}
use Rattle.gatt_laws.specs.machine.Controller.{is_ready}
use Rattle.gatt_laws.specs.machine.Event.{Ordinal, Completed}
use Rattle.gatt_laws.specs.machine.Notice.{event_told}
use Rattle.gatt_laws.specs.machine.ConnectionState.{ConnectionState}
use Rattle.gatt_laws.specs.machine.State.{State, with_packets_completed, after_packets_completed, change_of}
use Rattle.host_connections.proofs.states.Found.{all_completed}
use Rattle.host_connections.specs.SlotState.{SlotState}
use Rattle.host_connections.specs.Slots.{Place, after_completions}

one-link : (connection : ConnectionState) (count : ℕ) (own : Bool) → SameLink connection (if own then with_packets_completed connection count else connection)
one-link connection count true = (refl, refl)
one-link connection count false = (refl, refl)

completed-link : (ordinal : Ordinal) (entries : List (Ordinal × ℕ)) (connection : ConnectionState)
    → SameLink connection (after_packets_completed ordinal entries connection)
completed-link ordinal [] connection = (refl, refl)
completed-link ordinal (entry ∷ entries) connection =
    let next : ConnectionState = if entry.0 == ordinal then with_packets_completed connection entry.1 else connection in
    let first : SameLink connection next = one-link connection entry.1 (entry.0 == ordinal) in
    let later : SameLink next (after_packets_completed ordinal entries next) = completed-link ordinal entries next in
    (later.0 ∙ first.0, later.1 ∙ first.1)

module _ (state : State) (server : ServerState) (entries : List (Ordinal × ℕ)) (sound : IsSound state) (refines : RefinesState state [] server)
    (ready : is_ready state.controller ≡ true)
    (have : HaveSlots state.slots entries) where
  is : Holds state (all_given state) server
  is = holds state server refines

  abbrev counted : List (Place × ℕ)
  counted = map (renamed_entry (place_of_connection state)) entries

  slots-counted : (after : Option Ordinal → Option SlotState) → after None ≡ None
      → ((ordinal : Ordinal)
      → after (Some ordinal) ≡ slot_state_handed (record state { connections = λ one. after_packets_completed one entries (state.connections one) })
      (all_given state) (Some ordinal))
      → after_completions counted server.slots ≡ map after state.slots
  slots-counted after none each =
      ap (λ slots. after_completions counted slots) (were_open state (all_given state) server is ready)
      ∙ all_completed state (place_of_connection state) entries (slot_state_handed state (all_given state)) after sound.settled.slots
      (place_there state server sound refines) have
      refl (λ ordinal. refl) none each

  completion-holds : Holds (change_of state (Completed entries)).state (all_given state) (record server { slots = after_completions counted server.slots })
  unfolding change_of
  completion-holds =
      let new : State = (change_of state (Completed entries)).state in
      let counts : after_completions counted server.slots ≡ slot_states_handed new (all_given state) =
      slots-counted (slot_state_handed new (all_given state)) refl (λ ordinal. refl) in
      record {
        table = is.table;
        changer = is.changer;
        keys = is.keys;
        rx_mtu = is.rx_mtu;
        time = is.time;
        buffers = is.buffers;
        rows = is.rows;
        keyed = λ ordinal.
            keyed_alike state.shared.keys (state.connections ordinal) (after_packets_completed ordinal entries (state.connections ordinal))
            (completed-link ordinal entries (state.connections ordinal)) (is.keyed ordinal);
        controller = is.controller;
        free = λ early. absurd (clash (sym early ∙ ready));
        ready = λ now. ap (λ slots. length slots) counts ∙ each_length (slot_state_handed new (all_given state)) state.slots
            ∙ sym (each_length (slot_state_handed state (all_given state)) state.slots)
            ∙ sym (ap (λ slots. length slots) (were_open state (all_given state) server is ready))
            ∙ is.ready ready;
        slots = ap (λ (open_now : Bool). if open_now then after_completions counted server.slots else []) (ap is_ready is.controller ∙ ready) ∙ counts;
      }

  pub completion_leads : RefinesStep state (Completed entries) (server_after_packets_completed counted server)
  unfolding change_of event_told
  completion_leads =
      ends state (Completed entries) sound tt (record server { slots = after_completions counted server.slots }) completion-holds None [] []
      (λ place ordinal there found slot_state. refl) refl
