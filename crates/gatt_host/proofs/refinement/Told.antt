-- What a host tells of an event is what the state machine has, kind by kind.
use Rattle.std.proofs.Common.{◌≡◌, ℕ, zero, suc, Bool, true, false, List, [], ◌∷◌, ◌++◌, map, slice_get, Option, Some, None, refl, sym, ap, ◌∙◌}
use Rattle.std.specs.Prelude.{if◌then◌else◌, replicate, ◌==◌}
use Rattle.std.specs.List.{flat_map}
use Rattle.std.specs.Option.{option_map_or, option_to_list}
use Rattle.std.proofs.lemmas.Bool.{eq-eqb, or_left, or_right}
use Rattle.gatt_host.proofs.refinement.Holding.{Holds, has_slot_there, holds, were_open}
use Rattle.gatt_host.proofs.refinement.Effects.{kept_at_place}
use Rattle.gatt_host.specs.declared.last_event.LastEvent.{LastEvent}
use Rattle.gatt_host.specs.declared.last_event.LastEvent.TheVariants as last
use Rattle.gatt_host.specs.ServerState.{ServerState, end_event, disconnected_event, server_slot_at, link_event, other_channel_event}
use Rattle.gatt_host.specs.Notices.{link_change_told, notices_by}
use Rattle.gatt_host.specs.Owing.{all_given, slot_state_handed}
use Rattle.gatt_host.specs.StateRefinement.{IsServing, IsSound, RefinesState}
use Rattle.gatt_laws.specs.machine.Controller.{Slots, is_ready}
use Rattle.gatt_laws.specs.machine.Event.{Ordinal, Own, Of, Authorized, Ended, KeyAsked, Encrypted, Refreshed, OtherChannel, Tick}
use Rattle.gatt_laws.specs.machine.Event as event
use Rattle.gatt_laws.specs.machine.Notice.{Notice, Disconnected, TimedOut, Ending, end_told, late_told, link_told, event_told, slot_told}
use Rattle.gatt_laws.specs.machine.ConnectionState.{ConnectionState, is_live, is_there, key_of, after_ending, with_pdus}
use Rattle.gatt_laws.specs.laws.Settled.{has_slot}
use Rattle.gatt_laws.specs.machine.State.{State}
use Rattle.gatt_laws.specs.machine.Effect.{Effect, authentication_failure, remote_user_terminated, after_other_channel, channel_answer, is_full, live_effect, lost_encryption, effect_of, effect_on_connection, with_step}
use Rattle.host_connections.proofs.states.SlotStates.{live_there}
use Rattle.host_connections.proofs.states.Effects.{full_kept, live_turned}
use Rattle.host_connections.specs.SlotState.{SlotState, slot_state_of}
use Rattle.host_connections.specs.Slots.{late_handle, late_handles}
use Rattle.host_connections.specs.SlotEffects.{has_no_room}
use Rattle.gatt_subs.specs.Indications.{times_out}
use Rattle.le_security.proofs.Links.{key_of_steps}
use Rattle.le_security.specs.Link.{Step, Encryption, Refresh, after_step}
use Rattle.octet_io.specs.Number.{Octets}

-- of a connection that serves on, no end is told
serves-on : (handle : ℕ) (connection : ConnectionState) → is_live connection.mark ≡ true → end_told handle connection ≡ []
serves-on handle connection live = ap (λ (is : Bool). if is then [] else map (Ending handle) (option_to_list connection.reason)) live

module _ (state : State) (server : ServerState) (place : ℕ) (ordinal : Ordinal) (sound : IsSound state) (refines : RefinesState state [] server)
    (serving : IsServing state place ordinal) where
  abbrev connection : ConnectionState
  connection = state.connections ordinal

  abbrev slot_state : SlotState
  slot_state = slot_state_of state.shared connection connection.given

  abbrev effect : Own → Effect
  effect own = effect_of state.shared (state.bonds connection.peer) (state.owed connection.peer) connection own

  abbrev live : Own → Effect
  live own = live_effect state.shared (state.bonds connection.peer) (state.owed connection.peer) connection own

  effect-is : (own : Own)
      → (if is_live connection.mark then live own else effect_on_connection state.shared (state.bonds connection.peer) (state.owed connection.peer) connection)
      ≡ live own
  effect-is own = live_turned state.shared (state.bonds connection.peer) (state.owed connection.peer) connection serving.live own

  -- what its slot keeps
  slot-is : server_slot_at server place ≡ Some slot_state
  slot-is =
      kept_at_place state server (holds state server refines) sound.settled place ordinal serving.there (effect (Authorized 0)) (λ slot_state. slot_state)
      (live_there connection.mark serving.live)

  event-is : (event : SlotState → LastEvent) → option_map_or event (server_slot_at server place) last.Quiet ≡ event slot_state
  event-is event = ap (λ (slot : Option SlotState). option_map_or event slot last.Quiet) slot-is

  -- what is told of it where it serves
  if-live : (told : List Notice) → (if is_live connection.mark then told else []) ≡ told
  if-live told = ap (λ (is : Bool). if is then told else []) serving.live

  end-is : (one other : Effect) → one ≡ other → end_told connection.handle one.connection ≡ end_told connection.handle other.connection
  end-is one other same = ap (λ (effect : Effect). end_told connection.handle effect.connection) same

  pub authorized_told : (until : ℕ) → [] ≡ event_told state (Of ordinal (Authorized until))
  unfolding event_told live_effect
  authorized_told until =
      let own : Own = Authorized until in
      sym (if-live (end_told connection.handle (effect own).connection) ∙ end-is (effect own) (live own) (effect-is own)
      ∙ serves-on connection.handle (live own).connection serving.live)

  pub disconnected_told : (any : ServerState)
      → notices_by any (option_map_or end_event (server_slot_at server place) last.Quiet) ≡ event_told state (Of ordinal Ended)
  unfolding event_told live_effect
  disconnected_told any =
      ap (notices_by any) (event-is end_event)
      ∙ sym (if-live (end_told connection.handle (effect Ended).connection) ∙ end-is (effect Ended) (live Ended) (effect-is Ended))

  pub key_asked_told : (random_number : Octets) (diversifier : ℕ) → [] ≡ event_told state (Of ordinal (KeyAsked random_number diversifier))
  unfolding event_told live_effect
  key_asked_told random_number diversifier =
      let own : Own = KeyAsked random_number diversifier in
      sym (if-live (end_told connection.handle (effect own).connection) ∙ end-is (effect own) (live own) (effect-is own)
      ∙ serves-on connection.handle (live own).connection serving.live)

  -- a payload of another channel
  abbrev full_event : Bool → LastEvent
  full_event full = if full then last.Ended connection.handle remote_user_terminated else last.Quiet

  channel-told : (any : ServerState) (channel : ℕ) (answer : Option Octets)
      → notices_by any (full_event (has_no_room answer slot_state)) ≡ end_told connection.handle (after_other_channel state.shared connection channel answer)
  channel-told any channel None = sym (serves-on connection.handle connection serving.live)
  channel-told any channel (Some answer) =
      let queued : ConnectionState = with_pdus connection ((channel, answer) ∷ []) in
      ap (λ (full : Bool). notices_by any (full_event full))
      (sym (full_kept state.shared (state.bonds connection.peer) (state.owed connection.peer) connection serving.live (sound.queued ordinal)))
      ∙ elim (is_full state.shared connection) as (λ (full : Bool). notices_by any (full_event full)
      ≡ end_told connection.handle (if full then after_ending connection remote_user_terminated else queued)) [
        | true ↦ refl
        | false ↦ sym (serves-on connection.handle queued serving.live)
      ]

  pub other_channel_told : (channel : ℕ) (payload : Octets) (any : ServerState)
      → notices_by any (option_map_or (other_channel_event channel payload) (server_slot_at server place) last.Quiet)
      ≡ event_told state (Of ordinal (OtherChannel channel payload))
  unfolding event_told live_effect
  other_channel_told channel payload any =
      let own : Own = OtherChannel channel payload in
      ap (notices_by any) (event-is (other_channel_event channel payload))
      ∙ channel-told any channel (channel_answer channel payload)
      ∙ sym (if-live (end_told connection.handle (effect own).connection) ∙ end-is (effect own) (live own) (effect-is own))

  -- a step of its link
  abbrev stepped : Step → ConnectionState
  stepped step =
      if lost_encryption (key_of connection) (key_of (with_step connection step)) then after_ending (with_step connection step) authentication_failure
      else with_step connection step

  stepped-told : (step : Step) → link_change_told connection.handle (key_of connection) (key_of (with_step connection step))
      ≡ link_told connection.handle (key_of connection) (key_of (stepped step)) ++ end_told connection.handle (stepped step)
  stepped-told step =
      let new : ConnectionState = with_step connection step in
      let told : List Notice = link_told connection.handle (key_of connection) (key_of new) in
      elim (lost_encryption (key_of connection) (key_of new)) as (λ (lost : Bool).
      (told ++ (if lost then Ending connection.handle authentication_failure ∷ [] else []))
      ≡ link_told connection.handle (key_of connection) (key_of (if lost then after_ending new authentication_failure else new))
      ++ end_told connection.handle (if lost then after_ending new authentication_failure else new)) [
        | true ↦ refl
        | false ↦ ap (λ (end : List Notice). told ++ end) (sym (serves-on connection.handle new serving.live))
      ]

  keys-are : (step : Step) → link_change_told connection.handle slot_state.link.key (after_step slot_state.link step).key
      ≡ link_change_told connection.handle (key_of connection) (key_of (with_step connection step))
  keys-are step = λ i. link_change_told connection.handle (key_of_steps connection.steps i) (key_of_steps (step ∷ connection.steps) i)

  link-told : (step : Step) (any : ServerState) → notices_by any (option_map_or (link_event step) (server_slot_at server place) last.Quiet)
      ≡ link_told connection.handle (key_of connection) (key_of (stepped step)) ++ end_told connection.handle (stepped step)
  link-told step any = ap (notices_by any) (event-is (link_event step)) ∙ keys-are step ∙ stepped-told step

  pub encrypted_told : (status enabled : ℕ) (any : ServerState)
      → notices_by any (option_map_or (link_event (Encryption status enabled)) (server_slot_at server place) last.Quiet)
      ≡ event_told state (Of ordinal (Encrypted status enabled))
  unfolding event_told live_effect
  encrypted_told status enabled any =
      let own : Own = Encrypted status enabled in
      link-told (Encryption status enabled) any
      ∙ sym (if-live (link_told connection.handle (key_of connection) (key_of (effect own).connection) ++ end_told connection.handle (effect own).connection)
      ∙ ap (λ (effect : Effect). link_told connection.handle (key_of connection) (key_of effect.connection) ++ end_told connection.handle effect.connection)
      (effect-is own))

  pub refreshed_told : (status : ℕ) (any : ServerState)
      → notices_by any (option_map_or (link_event (Refresh status)) (server_slot_at server place) last.Quiet) ≡ event_told state (Of ordinal (Refreshed status))
  unfolding event_told live_effect
  refreshed_told status any =
      let own : Own = Refreshed status in
      link-told (Refresh status) any
      ∙ sym (if-live (link_told connection.handle (key_of connection) (key_of (effect own).connection) ++ end_told connection.handle (effect own).connection)
      ∙ ap (λ (effect : Effect). link_told connection.handle (key_of connection) (key_of effect.connection) ++ end_told connection.handle effect.connection)
      (effect-is own))

-- a connection is gone
pub gone_told : (state : State) (server : ServerState) (place : ℕ) (ordinal : Ordinal) → IsSound state → RefinesState state [] server
    → slice_get state.slots place ≡ Some (Some ordinal) → (any : ServerState)
    → notices_by any (option_map_or disconnected_event (server_slot_at server place) last.Quiet) ≡ event_told state (Of ordinal event.Disconnected)
unfolding event_told
gone_told state server place ordinal sound refines there any =
    let connection : ConnectionState = state.connections ordinal in
    let has : is_there connection.mark ≡ true = sound.placed.there ordinal (has_slot_there ordinal state.slots place there) in
    ap (λ (slot : Option SlotState). notices_by any (option_map_or disconnected_event slot last.Quiet))
    (kept_at_place state server (holds state server refines) sound.settled place ordinal there
    (effect_of state.shared (state.bonds connection.peer) (state.owed connection.peer) connection event.Disconnected) (λ slot_state. slot_state) has)
    ∙ ap (λ (is : Bool). if is then Disconnected connection.handle ∷ [] else []) (sym has)

-- the time is told: slot by slot, the connections that it times out
slot-late : (state : State) (now : ℕ) (ordinal : Ordinal) → is_there (state.connections ordinal).mark ≡ true
    → map TimedOut (option_map_or (late_handle now) (slot_state_handed state (all_given state) (Some ordinal)) []) ≡ late_told now (state.connections ordinal)
slot-late state now ordinal has =
    let connection : ConnectionState = state.connections ordinal in
    ap (λ (is : Bool). map TimedOut (option_map_or (late_handle now) (if is then Some (slot_state_of state.shared connection connection.given) else None) []))
    has
    ∙ elim (times_out connection.pending now) as (λ (late : Bool). map TimedOut (if late then connection.handle ∷ [] else [])
    ≡ (if late then TimedOut connection.handle ∷ [] else [])) [ true ↦ refl | false ↦ refl ]

map-append : (one other : List ℕ) → map TimedOut (one ++ other) ≡ map TimedOut one ++ map TimedOut other
map-append [] other = refl
map-append (handle ∷ one) other = ap (λ (rest : List Notice). TimedOut handle ∷ rest) (map-append one other)

slots-late : (state : State) (now : ℕ) (slots : Slots)
    → ((ordinal : Ordinal) → has_slot ordinal slots ≡ true → is_there (state.connections ordinal).mark ≡ true)
    → map TimedOut (late_handles now (map (slot_state_handed state (all_given state)) slots))
    ≡ flat_map (slot_told state now) slots
slots-late state now [] there = refl
slots-late state now (None ∷ slots) there = slots-late state now slots there
slots-late state now (Some ordinal ∷ slots) there =
    let keep : Option Ordinal → Option SlotState = slot_state_handed state (all_given state) in
    map-append (option_map_or (late_handle now) (keep (Some ordinal)) []) (late_handles now (map keep slots))
    ∙ λ i. slot-late state now ordinal (there ordinal (or_left (ordinal == ordinal) (has_slot ordinal slots) (eq-eqb ordinal ordinal refl))) i
    ++ slots-late state now slots (λ other has. there other (or_right (ordinal == other) (has_slot other slots) has)) i

none-late : (now count : ℕ) → late_handles now (replicate count None) ≡ []
none-late now zero = refl
none-late now (suc count) = none-late now count

pub tick_told : (state : State) (server : ServerState) (now : ℕ) → IsSound state → RefinesState state [] server
    → map TimedOut (late_handles now server.slots) ≡ event_told state (Tick now)
unfolding event_told
tick_told state server now sound refines =
    let is : Holds state (all_given state) server = holds state server refines in
    let wanted : Slots → List Notice = λ slots. flat_map (slot_told state now) slots in
    elim (is_ready state.controller) as (λ (ready : Bool). is_ready state.controller ≡ ready → map TimedOut (late_handles now server.slots)
    ≡ wanted state.slots) [
      | true ↦ λ ready.
          ap (λ slots. map TimedOut (late_handles now slots)) (were_open state (all_given state) server is ready)
          ∙ slots-late state now state.slots sound.placed.there
      | false ↦ λ early.
          ap (λ slots. map TimedOut (late_handles now slots)) (is.free early) ∙ ap (λ handles. map TimedOut handles) (none-late now state.shared.slots)
          ∙ ap wanted (sym (sound.settled.early early))
    ] refl
