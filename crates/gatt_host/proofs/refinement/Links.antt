-- A change of a connection's link leads a host on.
use Rattle.std.proofs.Common.{◌≡◌, ℕ, Bool, true, false, List, [], ◌∷◌, Option, Some, None, refl, sym, ap, subst, ◌∙◌}
use Rattle.std.specs.Prelude.{is_some, if◌then◌else◌, not, ◌&&◌, ◌==◌, unwrap_or}
use Rattle.std.specs.Option.{option_map, option_map_or, option_to_list}
use Rattle.att_numbers.specs.Types.{Handle}
use Rattle.att_policy.specs.declared.standing.KeyFacts.{KeyFacts}
use Rattle.gatt_host.proofs.refinement.Holding.{Holds, ends_with, holds, hears_and_skips, keyed_alike, HearsRaised}
use Rattle.gatt_host.proofs.refinement.OneSlot.{raised_at}
use Rattle.gatt_host.proofs.refinement.Told.{encrypted_told, refreshed_told}
use Rattle.gatt_host.proofs.refinement.Effects.{holds_alone, kept_here}
use Rattle.gatt_host.specs.declared.last_event.LastEvent.TheVariants as last
use Rattle.gatt_host.specs.ServerState.{ServerState, server_slot_at, link_event, owed_here, after_link}
use Rattle.gatt_host.specs.Owing.{all_given}
use Rattle.gatt_host.specs.StateRefinement.{bond_in, HoldsBonds, HasKeysOfItsPeer, IsServing, RefinesStep, RefinesState, IsSound}
use Rattle.gatt_laws.specs.machine.Event.{Ordinal, Own, Of, Encrypted, Refreshed}
use Rattle.gatt_laws.specs.machine.ConnectionState.{ConnectionState, is_live, key_of, after_ending}
use Rattle.gatt_laws.specs.machine.SharedState.{Bonds, ServiceChangedPending}
use Rattle.gatt_laws.specs.machine.State.{State, all_to_notify, at_ordinal, change_of, step}
use Rattle.gatt_laws.specs.machine.Effect.{Effect, live_effect, effect_of, effect_on_connection, with_step, lost_encryption, gained_encryption, authentication_failure}
use Rattle.host_connections.proofs.states.Effects.{encrypted_kept, encrypted_raised, refreshed_kept, refreshed_raised, live_turned}
use Rattle.host_connections.specs.SlotState.{SlotState, slot_state_of}
use Rattle.host_connections.specs.Slots.{handles_for, slots_at}
use Rattle.host_connections.specs.SlotEffects.{after_link_step}
use Rattle.gatt_subs.specs.declared.bond.Bond.{Bond}
use Rattle.gatt_subs.specs.Rows.{Subscriptions, owes}
use Rattle.gatt_subs.specs.Unfitted.{has_peer}
use Rattle.le_hci.specs.declared.peer.Peer.{Peer}
use Rattle.le_security.proofs.Links.{key_of_steps}
use Rattle.le_security.specs.Keys.{is_known}
use Rattle.le_security.specs.Link.{Step, Encryption, Refresh, after_step, last_asked}
use Rattle.le_security.specs.declared.entry.Entry.{Entry}
use Rattle.octet_io.proofs.Choices.{and_true_right}

-- a step with the key that was answered
key-if : (keys : List Entry) (peer : Peer) (asked : Option KeyFacts) (encrypted : Bool) → (is_some asked ≡ true → is_known keys peer ≡ true)
    → is_some (if encrypted then asked else None) ≡ true → is_known keys peer ≡ true
key-if keys peer asked true known is = known is
key-if keys peer asked false known is = cc is

encryption-keyed : (keys : List Entry) (connection : ConnectionState) (status enabled : ℕ) → HasKeysOfItsPeer keys connection
    → HasKeysOfItsPeer keys (with_step connection (Encryption status enabled))
encryption-keyed keys connection status enabled keyed =
    record { asked = keyed.asked; key = key-if keys connection.peer (last_asked connection.steps) ((status == 0) && not (enabled == 0)) keyed.asked }

refresh-keyed : (keys : List Entry) (connection : ConnectionState) (status : ℕ) → HasKeysOfItsPeer keys connection
    → HasKeysOfItsPeer keys (with_step connection (Refresh status))
refresh-keyed keys connection status keyed =
    record { asked = keyed.asked; key = key-if keys connection.peer (last_asked connection.steps) (status == 0) keyed.asked }

or-ended : (keys : List Entry) (new : ConnectionState) (lost : Bool) → HasKeysOfItsPeer keys new
    → HasKeysOfItsPeer keys (if lost then after_ending new authentication_failure else new)
or-ended keys new true keyed = keyed_alike keys new (after_ending new authentication_failure) (refl, refl) keyed
or-ended keys new false keyed = keyed

-- whom a gained key makes hear is owed by its peer's bond
same-owed : (keys : List Entry) (rows : Subscriptions) (bonds : Bonds) (owed : ServiceChangedPending) (peer : Peer) → HoldsBonds keys rows bonds owed
    → is_known keys peer ≡ true
    → owes rows peer ≡ owed peer
same-owed keys rows bonds owed peer holds known =
    ap (λ (found : Option Bond). unwrap_or (option_map (λ (bond : Bond). bond.owed) found) (has_peer rows.unfitted.owed peer))
    (holds.known peer ∙ ap (λ (is : Bool). if is then Some (bond_in bonds owed peer) else None) known)

and-same : (test one other : Bool) → (test ≡ true → one ≡ other) → (test && one) ≡ (test && other)
and-same true one other same = same refl
and-same false one other same = refl

module _ (state : State) (server : ServerState) (place : ℕ) (ordinal : Ordinal) (sound : IsSound state) (refines : RefinesState state [] server)
    (serving : IsServing state place ordinal) where
  abbrev connection : ConnectionState
  connection = state.connections ordinal

  abbrev slot_state : SlotState
  slot_state = slot_state_of state.shared connection connection.given

  abbrev effect : Own → Effect
  effect own = effect_of state.shared (state.bonds connection.peer) (state.owed connection.peer) connection own

  abbrev live : Own → Effect
  live own = live_effect state.shared (state.bonds connection.peer) (state.owed connection.peer) connection own

  effect-is : (own : Own)
      → (if is_live connection.mark then live own else effect_on_connection state.shared (state.bonds connection.peer) (state.owed connection.peer) connection)
      ≡ live own
  effect-is own = live_turned state.shared (state.bonds connection.peer) (state.owed connection.peer) connection serving.live own

  keyed-by : (own : Own) → HasKeysOfItsPeer state.shared.keys (live own).connection
      → HasKeysOfItsPeer state.shared.keys
      (if is_live connection.mark then live own else effect_on_connection state.shared (state.bonds connection.peer) (state.owed connection.peer)
      connection).connection
  keyed-by own keyed = subst (λ (effect : Effect). HasKeysOfItsPeer state.shared.keys effect.connection) (sym (effect-is own)) keyed

  is-keyed : HasKeysOfItsPeer state.shared.keys connection
  is-keyed = (holds state server refines).keyed ordinal

  -- what it hears of
  abbrev told_here : Step → List Handle
  told_here step = option_map_or (owed_here step server) (server_slot_at server place) []

  abbrev gained : Step → Bool
  gained step = gained_encryption slot_state.link.key (after_step slot_state.link step).key

  gained-known : (step : Step) → HasKeysOfItsPeer state.shared.keys (with_step connection step) → gained step ≡ true
      → is_known state.shared.keys connection.peer ≡ true
  gained-known step keyed is =
      keyed.key (sym (ap (λ (key : Option KeyFacts). is_some key) (key_of_steps (step ∷ connection.steps)))
      ∙ and_true_right (not (is_some slot_state.link.key)) (is_some (after_step slot_state.link step).key) is)

  told-here : (step : Step) → HasKeysOfItsPeer state.shared.keys (with_step connection step)
      → told_here step ≡ (if gained step && state.owed connection.peer then option_to_list state.shared.changer else [])
  told-here step keyed =
      let is : Holds state (all_given state) server = holds state server refines in
      ap (λ (found : Option SlotState). option_map_or (owed_here step server) found [])
      (kept_here state server is sound.settled place ordinal serving.there (effect (Refreshed 0)) (after_link_step step) serving.live)
      ∙ (λ i. if gained step && owes server.rows connection.peer then option_to_list (is.changer i) else [])
      ∙ ap (λ (due : Bool). if due then option_to_list state.shared.changer else [])
      (and-same (gained step) (owes server.rows connection.peer) (state.owed connection.peer) (λ gains.
      same-owed state.shared.keys server.rows state.bonds state.owed connection.peer is.rows (gained-known step keyed gains)))

  link-raised : (own : Own) (step : Step) → HasKeysOfItsPeer state.shared.keys (with_step connection step)
      → (effect own).to_notify_here ≡ (if gained step && state.owed connection.peer then option_to_list state.shared.changer else []) → (effect own).to_notify
      ≡ []
      → HearsRaised (record state.shared.table { values = (effect own).values }) state.shared.time state.slots (handles_for (Some place) (told_here step) [])
      (at_ordinal ordinal (effect own).to_notify_here (all_to_notify (effect own).to_notify))
  link-raised own step keyed here none =
      raised_at (record state.shared.table { values = (effect own).values }) state.shared.time state.next state.slots place ordinal (told_here step) []
      (effect own).to_notify_here (effect own).to_notify sound.settled.slots serving.there (told-here step keyed ∙ sym here)
      (λ found slot_state.
      ap (λ (handles : List Handle). hears_and_skips (record state.shared.table { values = (effect own).values }) state.shared.time found handles slot_state)
      (sym none))

  -- its encryption is changed
  encryption-holds : (status enabled : ℕ) → Holds (change_of state (Of ordinal (Encrypted status enabled))).state (all_given state)
      (record server { slots = slots_at place (after_link_step (Encryption status enabled)) server.slots })
  unfolding change_of live_effect
  encryption-holds status enabled =
      let own : Own = Encrypted status enabled in
      let step : Step = Encryption status enabled in
      holds_alone state server (holds state server refines) sound.settled place ordinal serving.there (effect own) (after_link_step step)
      (ap (λ (effect : Effect). effect.values) (effect-is own)) (ap (λ (effect : Effect). effect.bond) (effect-is own))
      (ap (λ (effect : Effect). effect.owed) (effect-is own))
      (keyed-by own (or-ended state.shared.keys (with_step connection step) (lost_encryption (key_of connection) (key_of (with_step connection step)))
      (encryption-keyed state.shared.keys connection status enabled is-keyed)))
      (encrypted_kept state.shared (state.bonds connection.peer) (state.owed connection.peer) connection serving.live status enabled)

  pub encryption_leads : (status enabled : ℕ)
      → RefinesStep state (Of ordinal (Encrypted status enabled)) (after_link place (Encryption status enabled) server)
  unfolding change_of live_effect
  encryption_leads status enabled =
      let own : Own = Encrypted status enabled in
      let step : Step = Encryption status enabled in
      ends_with state (Of ordinal own) sound tt (record server { slots = slots_at place (after_link_step step) server.slots }) (encryption-holds status enabled)
      (Some place) (told_here step) []
      (link-raised own step (encryption-keyed state.shared.keys connection status enabled is-keyed)
      (encrypted_raised state.shared (state.bonds connection.peer) (state.owed connection.peer) connection serving.live status enabled)
      (ap (λ (effect : Effect). effect.to_notify) (effect-is own)))
      (option_map_or (link_event step) (server_slot_at server place) last.Quiet)
      (encrypted_told state server place ordinal sound refines serving status enabled (after_link place step server))

  -- its key is refreshed
  refresh-holds : (status : ℕ) → Holds (change_of state (Of ordinal (Refreshed status))).state (all_given state)
      (record server { slots = slots_at place (after_link_step (Refresh status)) server.slots })
  unfolding change_of live_effect
  refresh-holds status =
      let own : Own = Refreshed status in
      let step : Step = Refresh status in
      holds_alone state server (holds state server refines) sound.settled place ordinal serving.there (effect own) (after_link_step step)
      (ap (λ (effect : Effect). effect.values) (effect-is own)) (ap (λ (effect : Effect). effect.bond) (effect-is own))
      (ap (λ (effect : Effect). effect.owed) (effect-is own))
      (keyed-by own (or-ended state.shared.keys (with_step connection step) (lost_encryption (key_of connection) (key_of (with_step connection step)))
      (refresh-keyed state.shared.keys connection status is-keyed)))
      (refreshed_kept state.shared (state.bonds connection.peer) (state.owed connection.peer) connection serving.live status)

  pub refresh_leads : (status : ℕ) → RefinesStep state (Of ordinal (Refreshed status)) (after_link place (Refresh status) server)
  unfolding change_of live_effect
  refresh_leads status =
      let own : Own = Refreshed status in
      let step : Step = Refresh status in
      ends_with state (Of ordinal own) sound tt (record server { slots = slots_at place (after_link_step step) server.slots }) (refresh-holds status)
      (Some place) (told_here step) []
      (link-raised own step (refresh-keyed state.shared.keys connection status is-keyed)
      (refreshed_raised state.shared (state.bonds connection.peer) (state.owed connection.peer) connection serving.live status)
      (ap (λ (effect : Effect). effect.to_notify) (effect-is own)))
      (option_map_or (link_event step) (server_slot_at server place) last.Quiet)
      (refreshed_told state server place ordinal sound refines serving status (after_link place step server))
