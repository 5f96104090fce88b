-- Requests alone configure, and change no link.
use Rattle.std.proofs.Common.{◌≡◌, ℕ, Bool, true, false, List, [], ◌∷◌, map, Option, Some, None}
use Rattle.std.proofs.Common.{refl, ◌∙◌}
use Rattle.std.specs.Prelude.{◌++◌, ◌||◌, if◌then◌else◌}
use Rattle.std.specs.List.{list_any, flat_map}
use Rattle.std.specs.Option.{option_to_list}
use Rattle.std.proofs.lemmas.List.Folds.{list_any-append}
use Rattle.att_attributes.specs.Attributes.{is_configuration_at}
use Rattle.att_attributes.specs.declared.attr.Attr.{Attr}
use Rattle.att_numbers.specs.Types.{Handle, Row}
use Rattle.att_policy.specs.declared.standing.KeyFacts.{KeyFacts}
use Rattle.att_table.specs.ConfigRow.{bits_at}
use Rattle.gatt_conn.specs.Answer.{is_confirmation}
use Rattle.gatt_laws.proofs.notices.Skips.{none_with_skips}
use Rattle.gatt_laws.specs.machine.ConnectionState.{ConnectionState, is_live, is_there, key_of, row_in_force}
use Rattle.gatt_laws.specs.machine.Controller.{Slots}
use Rattle.gatt_laws.specs.machine.Effect.{Effect, effect_of, handles_written}
use Rattle.gatt_laws.specs.machine.Event as event
use Rattle.gatt_laws.specs.machine.Event.{Ordinal, Own, Event, Asks, Encrypted, Refreshed, KeyAsked, OtherChannel}
use Rattle.gatt_laws.specs.machine.Event.{Authorized, Ended, Of, Tick}
use Rattle.gatt_laws.specs.machine.Notice.{Notice, Connected, Disconnected, Secured, Unsecured, Written, Configured}
use Rattle.gatt_laws.specs.machine.Notice.{Confirmed, TimedOut, Ending, are_same_facts, link_told, write_told}
use Rattle.gatt_laws.specs.machine.Notice.{confirmation_told, end_told, live_told, late_told, slot_told, event_told, noticed}
use Rattle.gatt_laws.specs.machine.State.{State}
use Rattle.octet_io.specs.Number.{Octets}

-- a notice of a configuration, and one of who is connected or of a key
abbrev pub is_configured_notice : Notice → Bool
is_configured_notice (Configured handle attribute bits) = true
is_configured_notice notice = false

abbrev pub is_link_notice : Notice → Bool
is_link_notice (Connected handle peer) = true
is_link_notice (Disconnected handle) = true
is_link_notice (Secured handle facts) = true
is_link_notice (Unsecured handle) = true
is_link_notice notice = false

abbrev Lacks : (Notice → Bool) → List Notice → Type 0
Lacks test notices = list_any test notices ≡ false

either-lacks : (test : Notice → Bool) (one other : List Notice) (is : Bool) → Lacks test one → Lacks test other
    → Lacks test (if is then one else other)
either-lacks test one other true first second = first
either-lacks test one other false first second = second

both-lack : (test : Notice → Bool) (one other : List Notice) → Lacks test one → Lacks test other
    → Lacks test (one ++ other)
both-lack test one other first second = list_any-append test one other ∙ (λ i. first i || second i)

reason-lacks : (test : Notice → Bool) (handle : ℕ) (reason : Option ℕ) → ((of : ℕ) → test (Ending handle of) ≡ false)
    → Lacks test (map (Ending handle) (option_to_list reason))
reason-lacks test handle None none = refl
reason-lacks test handle (Some reason) none = λ i. none reason i || false

end-lacks : (test : Notice → Bool) (handle : ℕ) (new : ConnectionState) → ((of : ℕ) → test (Ending handle of) ≡ false)
    → Lacks test (end_told handle new)
end-lacks test handle new none =
    either-lacks test [] (map (Ending handle) (option_to_list new.reason)) (is_live new.mark) refl
    (reason-lacks test handle new.reason none)

-- Requests.

write-links : (row : Row) (handle : ℕ) (attribute : Handle) (configuration : Bool)
    → is_link_notice (if configuration then Configured handle attribute (bits_at row attribute)
    else Written handle attribute) ≡ false
write-links row handle attribute true = refl
write-links row handle attribute false = refl

writes-link : (attributes : List Attr) (row : Row) (handle : ℕ) (handles : List Handle)
    → Lacks is_link_notice (map (write_told attributes row handle) handles)
writes-link attributes row handle [] = refl
writes-link attributes row handle (attribute ∷ rest) =
    λ i. write-links row handle attribute (is_configuration_at attributes attribute) i
    || writes-link attributes row handle rest i

module _ (state : State) (at : Ordinal) where
  abbrev connection : ConnectionState
  connection = state.connections at

  abbrev bond : Row
  bond = state.bonds connection.peer

  abbrev effect : Own → Effect
  effect own = effect_of state.shared bond (state.owed connection.peer) connection own

  if-live-lacks : (test : Notice → Bool) (own : Own) → ((of : ℕ) → test (Ending connection.handle of) ≡ false)
      → Lacks test (live_told state.shared bond connection own (effect own))
      → Lacks test (if is_live connection.mark then live_told state.shared bond connection own (effect own)
      ++ end_told connection.handle (effect own).connection else [])
  if-live-lacks test own ends none =
      either-lacks test (live_told state.shared bond connection own (effect own)
      ++ end_told connection.handle (effect own).connection) [] (is_live connection.mark)
      (both-lack test (live_told state.shared bond connection own (effect own))
      (end_told connection.handle (effect own).connection) none
      (end-lacks test connection.handle (effect own).connection ends)) refl

  confirmation-links : Lacks is_link_notice (confirmation_told connection.handle connection.pending.unconfirmed)
  confirmation-links = elim connection.pending.unconfirmed as
      (λ unconfirmed. Lacks is_link_notice (confirmation_told connection.handle unconfirmed)) [
        | None ↦ refl
        | Some one ↦ either-lacks is_link_notice [] (Confirmed connection.handle one.handle ∷ []) one.outdated refl refl
      ]

  pub request_changes_no_link : (pdu : Octets) → Lacks is_link_notice (noticed state (Of at (Asks pdu)))
  unfolding event_told
  request_changes_no_link pdu =
      let wrote : List Notice = map (write_told state.shared.table.attributes
      (row_in_force (effect (Asks pdu)).bond (effect (Asks pdu)).connection) connection.handle)
      (handles_written state.shared bond connection (Asks pdu)) in
      let confirmed : List Notice = if is_confirmation pdu
      then confirmation_told connection.handle connection.pending.unconfirmed else [] in
      none_with_skips is_link_notice (λ handle attribute. refl) state (Of at (Asks pdu))
      (if-live-lacks is_link_notice (Asks pdu) (λ of. refl)
      (both-lack is_link_notice wrote confirmed
      (writes-link state.shared.table.attributes
      (row_in_force (effect (Asks pdu)).bond (effect (Asks pdu)).connection) connection.handle
      (handles_written state.shared bond connection (Asks pdu)))
      (either-lacks is_link_notice (confirmation_told connection.handle connection.pending.unconfirmed) []
      (is_confirmation pdu) confirmation-links refl)))

  -- And all else.

  link-configures : (handle : ℕ) (old new : Option KeyFacts) → Lacks is_configured_notice (link_told handle old new)
  link-configures handle None None = refl
  link-configures handle None (Some new) = refl
  link-configures handle (Some old) None = refl
  link-configures handle (Some old) (Some new) =
      either-lacks is_configured_notice [] (Secured handle new ∷ []) (are_same_facts old new) refl refl

slots-configure : (state : State) (time : ℕ) (slots : Slots)
    → Lacks is_configured_notice (flat_map (slot_told state time) slots)
slots-configure state time [] = refl
slots-configure state time (None ∷ slots) = slots-configure state time slots
slots-configure state time (Some ordinal ∷ slots) =
    let connection : ConnectionState = state.connections ordinal in
    both-lack is_configured_notice (late_told time connection) (flat_map (slot_told state time) slots)
    (either-lacks is_configured_notice (TimedOut connection.handle ∷ []) [] _ refl refl)
    (slots-configure state time slots)

abbrev pub is_request : Event → Bool
is_request (Of at (Asks pdu)) = true
is_request happens = false

others-told : (state : State) (happens : Event) → is_request happens ≡ false
    → Lacks is_configured_notice (event_told state happens)
unfolding event_told
others-told state (Of at (event.Connected handle peer)) kind =
    either-lacks is_configured_notice [] (Connected handle peer ∷ []) (is_there (state.connections at).mark) refl refl
others-told state (Of at event.Disconnected) kind =
    either-lacks is_configured_notice (Disconnected (state.connections at).handle ∷ []) []
    (is_there (state.connections at).mark) refl refl
others-told state (Of at (Asks pdu)) kind = cc kind
others-told state (Of at (Encrypted status enabled)) kind =
    if-live-lacks state at is_configured_notice (Encrypted status enabled) (λ of. refl)
    (link-configures state at (state.connections at).handle (key_of (state.connections at))
    (key_of (effect state at (Encrypted status enabled)).connection))
others-told state (Of at (Refreshed status)) kind =
    if-live-lacks state at is_configured_notice (Refreshed status) (λ of. refl)
    (link-configures state at (state.connections at).handle (key_of (state.connections at))
    (key_of (effect state at (Refreshed status)).connection))
others-told state (Of at (KeyAsked random_number diversifier)) kind =
    if-live-lacks state at is_configured_notice (KeyAsked random_number diversifier) (λ of. refl) refl
others-told state (Of at (OtherChannel channel payload)) kind =
    if-live-lacks state at is_configured_notice (OtherChannel channel payload) (λ of. refl) refl
others-told state (Of at (Authorized until)) kind =
    if-live-lacks state at is_configured_notice (Authorized until) (λ of. refl) refl
others-told state (Of at Ended) kind =
    if-live-lacks state at is_configured_notice Ended (λ of. refl) refl
others-told state (Tick time) kind = slots-configure state time state.slots
others-told state happens kind = refl

pub others_configure_nothing : (state : State) (happens : Event) → is_request happens ≡ false
    → Lacks is_configured_notice (noticed state happens)
others_configure_nothing state happens kind =
    none_with_skips is_configured_notice (λ handle attribute. refl) state happens (others-told state happens kind)
