-- What happens to one connection, by what its slot keeps and by what the state machine knows of it.
use Rattle.std.proofs.Common.{◌≡◌, ℕ, ◌≤◌, Bool, true, false, List, [], ◌∷◌, Option, Some, None, refl, sym, ap, ◌∙◌, arith}
use Rattle.std.specs.Prelude.{is_some, if◌then◌else◌, nat_le, ◌==◌, ◌&&◌}
use Rattle.std.specs.Option.{option_map, option_map_or, option_or, option_to_list}
use Rattle.std.proofs.lemmas.Bool.{eq-eqb, ne_eqb, leb-true}
use Rattle.att_numbers.specs.Types.{Mtu, Row}
use Rattle.gatt_conn.specs.Connection.{mtu_between}
use Rattle.gatt_conn.specs.Transcript.{first_exchange}
use Rattle.gatt_laws.specs.machine.Event.{Own, KeyAsked, Encrypted, Refreshed, OtherChannel, Authorized, Ended}
use Rattle.gatt_laws.specs.machine.ConnectionState.{ConnectionState, is_live, is_there, key_of, with_pdus, after_ending, backlog_of}
use Rattle.gatt_laws.specs.laws.Queued.{IsWithinBounds}
use Rattle.gatt_laws.specs.machine.SharedState.{SharedState, share_of, fragment_size_of}
use Rattle.gatt_laws.specs.machine.Effect.{Effect, effect_of, effect_on_connection, live_effect, is_full, with_step, after_other_channel, channel_answer, lost_encryption, gained_encryption, authentication_failure, remote_user_terminated}
use Rattle.host_connections.proofs.states.Heard.{queued_after}
use Rattle.host_connections.proofs.states.SlotStates.{backlog_kept, becomes, live_there, outgoing_live}
use Rattle.host_connections.specs.Hearing.{with_pdus_queued}
use Rattle.host_connections.specs.SlotState.{SlotState, slot_state_of, slot_state_if_there, outgoing_of, slot_backlog}
use Rattle.host_connections.specs.SlotEffects.{after_authorizing, slot_after_ending, after_key_asked, after_link_step, slot_after_other_channel, with_channel_answer}
use Rattle.le_acl.specs.Outgoing.{Outgoing, outgoing_after, without_pdus}
use Rattle.le_acl.specs.Packets.{Pdu}
use Rattle.le_security.proofs.Links.{key_of_steps}
use Rattle.le_security.specs.Keys.{key_asked_for}
use Rattle.le_security.specs.Link.{Step, Encryption, Refresh, after_step}
use Rattle.octet_io.specs.Number.{Octets}

-- a drop of what was prepared is no exchange
pub dropped_same : (first : Option Mtu) → option_or first None ≡ first
dropped_same (Some mtu) = refl
dropped_same None = refl

abbrev pub mtu_by : Mtu → Option Mtu → Mtu
mtu_by rx_mtu first = option_map_or (λ client_rx_mtu. mtu_between client_rx_mtu rx_mtu) first 23

cut-again : (live : Bool) (outgoing : Outgoing) → without_pdus outgoing ≡ without_pdus (if live then outgoing else without_pdus outgoing)
cut-again true outgoing = refl
cut-again false outgoing = refl

-- a connection that is ended
pub ended_kept : (shared : SharedState) (connection : ConnectionState) (reason handed : ℕ) → slot_state_of shared (after_ending connection reason) handed
    ≡ slot_after_ending reason (slot_state_of shared connection handed)
ended_kept shared connection reason handed =
    let slot_state : SlotState = slot_state_of shared connection handed in
    let same = dropped_same (first_exchange connection.said) in
    let outgoing : Outgoing = outgoing_after (share_of shared.slots shared.buffers) (fragment_size_of shared.buffers) connection.pdus handed connection.done in
    λ i. record (slot_after_ending reason slot_state) {
      mtu = mtu_by shared.rx_mtu (same i);
      exchanged = is_some (same i);
      outgoing = cut-again (is_live connection.mark) outgoing i;
    }

-- a queue is full where it has as many PDUs as it may have
pub full_same : (count : ℕ) → count ≤ 16 → nat_le 16 count ≡ (count == 16)
full_same count most = elim (nat_le 16 count) as (λ (full : Bool). nat_le 16 count ≡ full → full ≡ (count == 16)) [
  | true ↦ λ is. sym (eq-eqb count 16 (omega (arith, leb-true 16 count is, most)))
  | false ↦ λ is. sym (ne_eqb count 16 (λ same. cc (sym is ∙ ap (λ (n : ℕ). nat_le 16 n) same)))
] refl

module _ (shared : SharedState) (bond : Row) (owed : Bool) (connection : ConnectionState) (is : is_live connection.mark ≡ true) where
  abbrev slot_state : SlotState
  slot_state = slot_state_of shared connection connection.given

  there : is_there connection.mark ≡ true
  there = live_there connection.mark is

  pub live_turned : (own : Own)
      → (if is_live connection.mark then live_effect shared bond owed connection own else effect_on_connection shared bond owed connection)
      ≡ live_effect shared bond owed connection own
  live_turned own = ap (λ (live : Bool). if live then live_effect shared bond owed connection own else effect_on_connection shared bond owed connection) is

  turned : (own : Own) (change : SlotState → SlotState) → is_there (live_effect shared bond owed connection own).connection.mark ≡ true
      → slot_state_of shared (live_effect shared bond owed connection own).connection connection.given ≡ change slot_state
      → slot_state_if_there shared (if is_live connection.mark then live_effect shared bond owed connection own
      else effect_on_connection shared bond owed connection).connection connection.given
      ≡ option_map change (slot_state_if_there shared connection connection.given)
  turned own change stays same =
      ap (λ (effect : Effect). slot_state_if_there shared effect.connection connection.given) (live_turned own)
      ∙ becomes shared connection (live_effect shared bond owed connection own).connection connection.given change there stays same

  -- authorized, and its key asked for
  pub authorized_kept : (until : ℕ)
      → slot_state_if_there shared (effect_of shared bond owed connection (Authorized until)).connection connection.given
      ≡ option_map (after_authorizing until) (slot_state_if_there shared connection connection.given)
  unfolding live_effect
  authorized_kept until = turned (Authorized until) (after_authorizing until) there refl

  -- ended by the application
  pub disconnected_kept : slot_state_if_there shared (effect_of shared bond owed connection Ended).connection connection.given
      ≡ option_map (slot_after_ending remote_user_terminated) (slot_state_if_there shared connection connection.given)
  unfolding live_effect
  disconnected_kept = turned Ended (slot_after_ending remote_user_terminated) refl (ended_kept shared connection remote_user_terminated connection.given)

  pub key_asked_kept : (random_number : Octets) (diversifier : ℕ)
      → slot_state_if_there shared (effect_of shared bond owed connection (KeyAsked random_number diversifier)).connection connection.given
      ≡ option_map (after_key_asked (key_asked_for shared.keys connection.peer random_number diversifier))
      (slot_state_if_there shared connection connection.given)
  unfolding live_effect
  key_asked_kept random_number diversifier =
      turned (KeyAsked random_number diversifier) (after_key_asked (key_asked_for shared.keys connection.peer random_number diversifier)) there refl

  -- a step of its link
  link-lost : (step : Step) → lost_encryption (key_of connection) (key_of (with_step connection step))
      ≡ lost_encryption slot_state.link.key (after_step slot_state.link step).key
  link-lost step = λ i. lost_encryption (sym (key_of_steps connection.steps) i) (sym (key_of_steps (step ∷ connection.steps)) i)

  link-there : (step : Step) (lost : Bool)
      → is_there (if lost then after_ending (with_step connection step) authentication_failure else with_step connection step).mark ≡ true
  link-there step true = refl
  link-there step false = there

  link-kept : (step : Step) (lost : Bool)
      → slot_state_of shared (if lost then after_ending (with_step connection step) authentication_failure else with_step connection step) connection.given
      ≡ (if lost then slot_after_ending authentication_failure (slot_state_of shared (with_step connection step) connection.given)
      else slot_state_of shared (with_step connection step) connection.given)
  link-kept step true = ended_kept shared (with_step connection step) authentication_failure connection.given
  link-kept step false = refl

  link-stepped : (step : Step)
      → slot_state_of shared (if lost_encryption (key_of connection) (key_of (with_step connection step))
      then after_ending (with_step connection step) authentication_failure
      else with_step connection step) connection.given ≡ after_link_step step slot_state
  link-stepped step =
      let new : SlotState = slot_state_of shared (with_step connection step) connection.given in
      link-kept step (lost_encryption (key_of connection) (key_of (with_step connection step)))
      ∙ ap (λ (lost : Bool). if lost then slot_after_ending authentication_failure new else new) (link-lost step)

  pub encrypted_kept : (status enabled : ℕ)
      → slot_state_if_there shared (effect_of shared bond owed connection (Encrypted status enabled)).connection connection.given
      ≡ option_map (after_link_step (Encryption status enabled)) (slot_state_if_there shared connection connection.given)
  unfolding live_effect
  encrypted_kept status enabled =
      let step : Step = Encryption status enabled in
      turned (Encrypted status enabled) (after_link_step step) (link-there step (lost_encryption (key_of connection) (key_of (with_step connection step))))
      (link-stepped step)

  pub refreshed_kept : (status : ℕ)
      → slot_state_if_there shared (effect_of shared bond owed connection (Refreshed status)).connection connection.given
      ≡ option_map (after_link_step (Refresh status)) (slot_state_if_there shared connection connection.given)
  unfolding live_effect
  refreshed_kept status =
      let step : Step = Refresh status in
      turned (Refreshed status) (after_link_step step) (link-there step (lost_encryption (key_of connection) (key_of (with_step connection step))))
      (link-stepped step)

  -- it hears of a table that was replaced once it gains its encryption
  link-raised : (step : Step) → (if gained_encryption (key_of connection) (key_of (with_step connection step)) && owed then option_to_list shared.changer
      else [])
      ≡ (if gained_encryption slot_state.link.key (after_step slot_state.link step).key && owed then option_to_list shared.changer else [])
  link-raised step =
      λ i. if gained_encryption (sym (key_of_steps connection.steps) i) (sym (key_of_steps (step ∷ connection.steps)) i) && owed
      then option_to_list shared.changer else []

  pub encrypted_raised : (status enabled : ℕ)
      → (effect_of shared bond owed connection (Encrypted status enabled)).to_notify_here
      ≡ (if gained_encryption slot_state.link.key (after_step slot_state.link (Encryption status enabled)).key && owed then option_to_list shared.changer
      else [])
  unfolding live_effect
  encrypted_raised status enabled =
      ap (λ (effect : Effect). effect.to_notify_here) (live_turned (Encrypted status enabled)) ∙ link-raised (Encryption status enabled)

  pub refreshed_raised : (status : ℕ)
      → (effect_of shared bond owed connection (Refreshed status)).to_notify_here
      ≡ (if gained_encryption slot_state.link.key (after_step slot_state.link (Refresh status)).key && owed then option_to_list shared.changer else [])
  unfolding live_effect
  refreshed_raised status = ap (λ (effect : Effect). effect.to_notify_here) (live_turned (Refreshed status)) ∙ link-raised (Refresh status)

  -- PDUs are queued for it, and there is room for them or not
  module _ (bounds : IsWithinBounds (share_of shared.slots shared.buffers) (fragment_size_of shared.buffers) connection) where
    pub queued_kept : (pdus : List Pdu) → outgoing_of shared (with_pdus connection pdus) connection.given ≡ with_pdus_queued slot_state.outgoing pdus
    queued_kept pdus =
        outgoing_live shared (with_pdus connection pdus) connection.given is ∙ queued_after (share_of shared.slots shared.buffers)
        (fragment_size_of shared.buffers) connection pdus bounds
        ∙ ap (λ (outgoing : Outgoing). with_pdus_queued outgoing pdus) (sym (outgoing_live shared connection connection.given is))

    pub full_kept : is_full shared connection ≡ (slot_backlog slot_state == 16)
    full_kept = full_same (backlog_of shared connection) bounds.few ∙ ap (λ (count : ℕ). count == 16) (sym (backlog_kept shared connection is))

    -- a PDU of another channel
    other_channel-there : (channel : ℕ) (answer : Option Octets) → is_there (after_other_channel shared connection channel answer).mark ≡ true
    other_channel-there channel None = there
    other_channel-there channel (Some answer) =
        elim (is_full shared connection) as
        (λ (full : Bool).
        is_there (if full then after_ending connection remote_user_terminated else with_pdus connection ((channel, answer) ∷ [])).mark ≡ true) [
          | true ↦ refl
          | false ↦ there
        ]

    other_channel-kept : (channel : ℕ) (answer : Option Octets) → slot_state_of shared (after_other_channel shared connection channel answer) connection.given
        ≡ with_channel_answer channel answer slot_state
    other_channel-kept channel None = refl
    other_channel-kept channel (Some answer) =
        let queued : SlotState = record slot_state { outgoing = with_pdus_queued slot_state.outgoing ((channel, answer) ∷ []) } in
        (elim (is_full shared connection) as
        (λ (full : Bool). slot_state_of shared (if full then after_ending connection remote_user_terminated else with_pdus connection ((channel, answer) ∷ []))
        connection.given
        ≡ (if full then slot_after_ending remote_user_terminated slot_state else queued)) [
          | true ↦ ended_kept shared connection remote_user_terminated connection.given
          | false ↦ ap (λ (outgoing : Outgoing). record slot_state { outgoing = outgoing }) (queued_kept ((channel, answer) ∷ []))
        ])
        ∙ ap (λ (full : Bool). if full then slot_after_ending remote_user_terminated slot_state else queued) full_kept

    pub other_channel_kept : (channel : ℕ) (payload : Octets)
        → slot_state_if_there shared (effect_of shared bond owed connection (OtherChannel channel payload)).connection connection.given
        ≡ option_map (slot_after_other_channel channel payload) (slot_state_if_there shared connection connection.given)
    unfolding live_effect
    other_channel_kept channel payload =
        turned (OtherChannel channel payload) (slot_after_other_channel channel payload) (other_channel-there channel (channel_answer channel payload))
        (other_channel-kept channel (channel_answer channel payload))
