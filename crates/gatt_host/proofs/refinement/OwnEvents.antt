-- What happens to one connection leads a host on: it is authorized, or ended by the application, its key is asked for, or a
-- PDU of another channel comes.
use Rattle.std.proofs.Common.{◌≡◌, ℕ, Bool, true, false, List, [], ◌∷◌, Option, Some, None, refl, sym, ap, subst, ◌∙◌}
use Rattle.std.specs.Prelude.{is_some, if◌then◌else◌, ◌||◌}
use Rattle.std.specs.List.{find}
use Rattle.std.specs.Option.{option_map, option_map_or}
use Rattle.gatt_host.proofs.owing.Nexts.{clash}
use Rattle.gatt_host.proofs.refinement.Holding.{Holds, ends, ends_with, holds, keyed_alike, SameLink}
use Rattle.gatt_host.proofs.refinement.OneSlot.{none_raised_at}
use Rattle.gatt_host.proofs.refinement.Told.{authorized_told, disconnected_told, key_asked_told, other_channel_told}
use Rattle.gatt_host.proofs.refinement.Effects.{holds_alone}
use Rattle.gatt_host.specs.declared.last_event.LastEvent.TheVariants as last
use Rattle.gatt_host.specs.ServerState.{ServerState, server_slot_at, end_event, other_channel_event, after_authorize, after_ask_key, after_disconnect, server_after_other_channel}
use Rattle.host_connections.specs.Slots.{slots_at}
use Rattle.gatt_host.specs.Owing.{all_given}
use Rattle.gatt_host.specs.StateRefinement.{HasKeysOfItsPeer, IsServing, RefinesStep, RefinesState, IsSound}
use Rattle.gatt_laws.specs.machine.Event.{Ordinal, Own, Of, Authorized, Ended, KeyAsked, OtherChannel}
use Rattle.gatt_laws.specs.machine.ConnectionState.{ConnectionState, is_live, is_there, with_pdus, after_ending}
use Rattle.gatt_laws.specs.machine.State.{State, change_of}
use Rattle.gatt_laws.specs.machine.Effect.{Effect, live_effect, effect_of, effect_on_connection, with_key_asked, after_other_channel, channel_answer, is_full, remote_user_terminated}
use Rattle.host_connections.proofs.states.Effects.{authorized_kept, disconnected_kept, key_asked_kept, live_turned, other_channel_kept}
use Rattle.host_connections.specs.SlotState.{SlotState, slot_state_of, slot_state_if_there}
use Rattle.host_connections.specs.SlotEffects.{after_authorizing, slot_after_ending, after_key_asked, slot_after_other_channel}
use Rattle.le_hci.specs.declared.peer.Peer.{Peer}
use Rattle.le_security.specs.Entry.{is_for, same_peer}
use Rattle.le_security.specs.Keys.{key_asked_for, is_known}
use Rattle.le_security.specs.declared.entry.Entry.{Entry}
use Rattle.le_security.specs.declared.entry.Key.{Key}
use Rattle.octet_io.proofs.Choices.{and_true_left}
use Rattle.octet_io.specs.Number.{Octets}

answered-known : (keys : List Entry) (peer : Peer) (random_number : Octets) (diversifier : ℕ) → is_some (key_asked_for keys peer random_number diversifier)
    ≡ true → is_known keys peer ≡ true
answered-known [] peer random_number diversifier is = is
answered-known (entry ∷ keys) peer random_number diversifier is =
    elim (same_peer entry.peer peer) as (λ (same : Bool). same_peer entry.peer peer ≡ same → (same || is_known keys peer) ≡ true) [
      | true ↦ λ same. refl
      | false ↦ λ differs.
          answered-known keys peer random_number diversifier
          (later (is_for peer random_number diversifier entry) (λ own. clash (sym differs ∙ and_true_left (same_peer entry.peer peer) _ own)) is)
    ] refl
  where
    later : (own : Bool) → (own ≡ true → ⊥)
        → is_some (option_map (λ (entry : Entry). entry.key) (if own then Some entry else find (is_for peer random_number diversifier) keys)) ≡ true
        → is_some (key_asked_for keys peer random_number diversifier) ≡ true
    later true not is = absurd (not refl)
    later false not is = is

some-mapped : {A B : Type 0} (f : A → B) (found : Option A) → is_some (option_map f found) ≡ is_some found
some-mapped f None = refl
some-mapped f (Some x) = refl

module _ (state : State) (server : ServerState) (place : ℕ) (ordinal : Ordinal) (sound : IsSound state) (refines : RefinesState state [] server)
    (serving : IsServing state place ordinal) where
  abbrev connection : ConnectionState
  connection = state.connections ordinal

  abbrev effect : Own → Effect
  effect own = effect_of state.shared (state.bonds connection.peer) (state.owed connection.peer) connection own

  abbrev live : Own → Effect
  live own = live_effect state.shared (state.bonds connection.peer) (state.owed connection.peer) connection own

  keyed-by : (own : Own) → HasKeysOfItsPeer state.shared.keys (live own).connection
      → HasKeysOfItsPeer state.shared.keys
      (if is_live connection.mark then live own else effect_on_connection state.shared (state.bonds connection.peer) (state.owed connection.peer)
      connection).connection
  keyed-by own keyed =
      subst (λ (effect : Effect). HasKeysOfItsPeer state.shared.keys effect.connection)
      (sym (live_turned state.shared (state.bonds connection.peer) (state.owed connection.peer) connection serving.live own)) keyed

  effect-is : (own : Own)
      → (if is_live connection.mark then live own else effect_on_connection state.shared (state.bonds connection.peer) (state.owed connection.peer) connection)
      ≡ live own
  effect-is own = live_turned state.shared (state.bonds connection.peer) (state.owed connection.peer) connection serving.live own

  is-keyed : HasKeysOfItsPeer state.shared.keys connection
  is-keyed = (holds state server refines).keyed ordinal

  -- it is authorized
  authorized-holds : (until : ℕ) → Holds (change_of state (Of ordinal (Authorized until))).state (all_given state)
      (record server { slots = slots_at place (after_authorizing until) server.slots })
  unfolding change_of live_effect
  authorized-holds until =
      let own : Own = Authorized until in
      holds_alone state server (holds state server refines) sound.settled place ordinal serving.there (effect own) (after_authorizing until)
      (ap (λ (effect : Effect). effect.values) (effect-is own)) (ap (λ (effect : Effect). effect.bond) (effect-is own))
      (ap (λ (effect : Effect). effect.owed) (effect-is own))
      (keyed-by own (keyed_alike state.shared.keys connection (live own).connection (refl, refl) is-keyed))
      (authorized_kept state.shared (state.bonds connection.peer) (state.owed connection.peer) connection serving.live until)

  pub authorized_leads : (until : ℕ) → RefinesStep state (Of ordinal (Authorized until)) (after_authorize place until server)
  unfolding change_of live_effect
  authorized_leads until =
      let own : Own = Authorized until in
      ends state (Of ordinal own) sound tt (record server { slots = slots_at place (after_authorizing until) server.slots }) (authorized-holds until) None [] []
      (none_raised_at (record state.shared.table { values = (effect own).values }) state.shared.time state.slots ordinal (effect own).to_notify_here
      (effect own).to_notify
      (ap (λ (effect : Effect). effect.to_notify_here) (effect-is own)) (ap (λ (effect : Effect). effect.to_notify) (effect-is own)))
      (authorized_told state server place ordinal sound refines serving until)

  -- the application ends it
  disconnected-holds : Holds (change_of state (Of ordinal Ended)).state (all_given state)
      (record server { slots = slots_at place (slot_after_ending remote_user_terminated) server.slots })
  unfolding change_of live_effect
  disconnected-holds =
      let own : Own = Ended in
      holds_alone state server (holds state server refines) sound.settled place ordinal serving.there (effect own) (slot_after_ending remote_user_terminated)
      (ap (λ (effect : Effect). effect.values) (effect-is own)) (ap (λ (effect : Effect). effect.bond) (effect-is own))
      (ap (λ (effect : Effect). effect.owed) (effect-is own))
      (keyed-by own (keyed_alike state.shared.keys connection (live own).connection (refl, refl) is-keyed))
      (disconnected_kept state.shared (state.bonds connection.peer) (state.owed connection.peer) connection serving.live)

  pub disconnected_leads : RefinesStep state (Of ordinal Ended) (after_disconnect place server)
  unfolding change_of live_effect
  disconnected_leads =
      let own : Own = Ended in
      ends_with state (Of ordinal own) sound tt (record server { slots = slots_at place (slot_after_ending remote_user_terminated) server.slots })
      disconnected-holds None [] []
      (none_raised_at (record state.shared.table { values = (effect own).values }) state.shared.time state.slots ordinal (effect own).to_notify_here
      (effect own).to_notify
      (ap (λ (effect : Effect). effect.to_notify_here) (effect-is own)) (ap (λ (effect : Effect). effect.to_notify) (effect-is own)))
      (option_map_or end_event (server_slot_at server place) last.Quiet)
      (disconnected_told state server place ordinal sound refines serving (after_disconnect place server))

  -- its key is asked for
  abbrev asked_of : List Entry → Octets → ℕ → SlotState → SlotState
  asked_of keys random_number diversifier slot_state = after_key_asked (key_asked_for keys slot_state.peer random_number diversifier) slot_state

  asked-kept : (random_number : Octets) (diversifier : ℕ) (keys : List Entry) → keys ≡ state.shared.keys
      → option_map (after_key_asked (key_asked_for state.shared.keys connection.peer random_number diversifier))
      (slot_state_if_there state.shared connection connection.given)
      ≡ option_map (asked_of keys random_number diversifier) (slot_state_if_there state.shared connection connection.given)
  asked-kept random_number diversifier keys is =
      elim (is_there connection.mark) as (λ (there : Bool).
      option_map (after_key_asked (key_asked_for state.shared.keys connection.peer random_number diversifier))
      (if there then Some (slot_state_of state.shared connection connection.given) else None)
      ≡ option_map (asked_of keys random_number diversifier) (if there then Some (slot_state_of state.shared connection connection.given) else None)) [
        | true ↦ ap (λ (keys : List Entry). Some (asked_of keys random_number diversifier (slot_state_of state.shared connection connection.given))) (sym is)
        | false ↦ refl
      ]

  asked-keyed : (random_number : Octets) (diversifier : ℕ)
      → HasKeysOfItsPeer state.shared.keys (with_key_asked connection (key_asked_for state.shared.keys connection.peer random_number diversifier))
  asked-keyed random_number diversifier =
      let found : Option Key = key_asked_for state.shared.keys connection.peer random_number diversifier in
      record {
        asked = λ is. answered-known state.shared.keys connection.peer random_number diversifier (sym (some-mapped (λ (key : Key). key.facts) found) ∙ is);
        key = λ is. is-keyed.key is;
      }

  key-asked-holds : (random_number : Octets) (diversifier : ℕ) → Holds (change_of state (Of ordinal (KeyAsked random_number diversifier))).state
      (all_given state)
      (record server { slots = slots_at place (asked_of server.keys random_number diversifier) server.slots })
  unfolding change_of live_effect
  key-asked-holds random_number diversifier =
      let own : Own = KeyAsked random_number diversifier in
      holds_alone state server (holds state server refines) sound.settled place ordinal serving.there (effect own)
      (asked_of server.keys random_number diversifier)
      (ap (λ (effect : Effect). effect.values) (effect-is own)) (ap (λ (effect : Effect). effect.bond) (effect-is own))
      (ap (λ (effect : Effect). effect.owed) (effect-is own))
      (keyed-by own (asked-keyed random_number diversifier))
      (key_asked_kept state.shared (state.bonds connection.peer) (state.owed connection.peer) connection serving.live random_number diversifier
      ∙ asked-kept random_number diversifier server.keys refines.keys)

  pub key_asked_leads : (random_number : Octets) (diversifier : ℕ)
      → RefinesStep state (Of ordinal (KeyAsked random_number diversifier))
      (after_ask_key place random_number diversifier server)
  unfolding change_of live_effect
  key_asked_leads random_number diversifier =
      let own : Own = KeyAsked random_number diversifier in
      ends state (Of ordinal own) sound tt (record server { slots = slots_at place (asked_of server.keys random_number diversifier) server.slots })
      (key-asked-holds random_number diversifier) None [] []
      (none_raised_at (record state.shared.table { values = (effect own).values }) state.shared.time state.slots ordinal (effect own).to_notify_here
      (effect own).to_notify
      (ap (λ (effect : Effect). effect.to_notify_here) (effect-is own)) (ap (λ (effect : Effect). effect.to_notify) (effect-is own)))
      (key_asked_told state server place ordinal sound refines serving random_number diversifier)

  -- a PDU of another channel comes
  channel-link : (channel : ℕ) (answer : Option Octets) → SameLink connection (after_other_channel state.shared connection channel answer)
  channel-link channel None = (refl, refl)
  channel-link channel (Some answer) =
      elim (is_full state.shared connection) as
      (λ (full : Bool). SameLink connection (if full then after_ending connection remote_user_terminated else with_pdus connection ((channel, answer) ∷ []))) [
        | true ↦ (refl, refl)
        | false ↦ (refl, refl)
      ]

  other_channel-holds : (channel : ℕ) (payload : Octets) → Holds (change_of state (Of ordinal (OtherChannel channel payload))).state (all_given state)
      (record server { slots = slots_at place (slot_after_other_channel channel payload) server.slots })
  unfolding change_of live_effect
  other_channel-holds channel payload =
      let own : Own = OtherChannel channel payload in
      holds_alone state server (holds state server refines) sound.settled place ordinal serving.there (effect own) (slot_after_other_channel channel payload)
      (ap (λ (effect : Effect). effect.values) (effect-is own)) (ap (λ (effect : Effect). effect.bond) (effect-is own))
      (ap (λ (effect : Effect). effect.owed) (effect-is own))
      (keyed-by own (keyed_alike state.shared.keys connection (live own).connection (channel-link channel (channel_answer channel payload)) is-keyed))
      (other_channel_kept state.shared (state.bonds connection.peer) (state.owed connection.peer) connection serving.live (sound.queued ordinal) channel
      payload)

  pub other_channel_leads : (channel : ℕ) (payload : Octets)
      → RefinesStep state (Of ordinal (OtherChannel channel payload)) (server_after_other_channel place channel payload server)
  unfolding change_of live_effect
  other_channel_leads channel payload =
      let own : Own = OtherChannel channel payload in
      ends_with state (Of ordinal own) sound tt (record server { slots = slots_at place (slot_after_other_channel channel payload) server.slots })
      (other_channel-holds channel payload) None [] []
      (none_raised_at (record state.shared.table { values = (effect own).values }) state.shared.time state.slots ordinal (effect own).to_notify_here
      (effect own).to_notify
      (ap (λ (effect : Effect). effect.to_notify_here) (effect-is own)) (ap (λ (effect : Effect). effect.to_notify) (effect-is own)))
      (option_map_or (other_channel_event channel payload) (server_slot_at server place) last.Quiet)
      (other_channel_told state server place ordinal sound refines serving channel payload (server_after_other_channel place channel payload server))
