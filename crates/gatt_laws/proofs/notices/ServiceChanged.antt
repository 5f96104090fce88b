-- The Service Changed indication of a peer is pending until it is confirmed.
use Rattle.std.proofs.Common.{◌≡◌, ℕ, Bool, true, false, List, [], ◌∷◌, map, Option, Some, None}
use Rattle.std.proofs.Common.{refl, sym, ap, ◌∙◌}
use Rattle.std.specs.Prelude.{◌++◌, ◌==◌, ◌&&◌, ◌||◌, not, is_some, if◌then◌else◌}
use Rattle.std.specs.List.{list_any}
use Rattle.std.specs.Option.{option_map_or}
use Rattle.std.proofs.lemmas.Bool.{eq-eqb}
use Rattle.std.proofs.lemmas.List.Folds.{list_any-append}
use Rattle.att_numbers.specs.Types.{Handle, Row}
use Rattle.att_pdu.specs.Grammar.{request_of, is_due}
use Rattle.gatt_conn.specs.Answer.{Question, is_confirmation}
use Rattle.gatt_laws.proofs.notices.Skips.{none_of_the_event}
use Rattle.gatt_laws.specs.laws.ServiceChanged.{is_confirmed_notice, NoticesServiceChangedConfirmed}
use Rattle.gatt_laws.specs.machine.ConnectionState.{ConnectionState, is_live, key_of, row_in_force, connection_mtu, after_ending}
use Rattle.gatt_laws.specs.machine.Effect.{Effect, effect_on_connection, effect_of, live_effect, served, is_full}
use Rattle.gatt_laws.specs.machine.Effect.{owed_after, handles_written, remote_user_terminated}
use Rattle.gatt_laws.specs.machine.Event.{Ordinal, Own, Event, Connected, Disconnected, Asks, Of, Credit, Replaced}
use Rattle.gatt_laws.specs.machine.Notice.{Notice, Confirmed, write_told, confirmation_told, end_told, own_told, event_told, noticed}
use Rattle.gatt_laws.specs.machine.SharedState.{SharedState}
use Rattle.gatt_laws.specs.machine.State.{State, change_of, step}
use Rattle.gatt_subs.specs.Indications.{Indications, is_told, is_waiting}
use Rattle.gatt_subs.specs.declared.pending.Unconfirmed.{Unconfirmed}
use Rattle.le_hci.specs.declared.peer.Peer.{Peer}
use Rattle.le_security.proofs.Peers.{equal_peers}
use Rattle.le_security.specs.Entry.{same_peer}
use Rattle.octet_io.proofs.Choices.{and_true_right, and_true_left, or_false_left, or_false_right}
use Rattle.octet_io.specs.Number.{Octets}

-- A confirmation by which the indication is no longer pending is noticed.

current-noticed : (handle at changer : ℕ) (outdated : Bool) → ((at == changer) && not outdated) ≡ true
    → list_any (is_confirmed_notice handle changer) (if outdated then [] else Confirmed handle at ∷ []) ≡ true
current-noticed handle at changer true is = let never = and_true_right (at == changer) false is in cc never
current-noticed handle at changer false is =
    (λ i. (eq-eqb handle handle refl i && (at == changer)) || false)
    ∙ ap (λ (same : Bool). same || false) (and_true_left (at == changer) true is)

confirmed-noticed : (handle : ℕ) (changer : Handle) (unconfirmed : Option Unconfirmed)
    → option_map_or (λ (one : Unconfirmed). (one.handle == changer) && not one.outdated) unconfirmed false ≡ true
    → list_any (is_confirmed_notice handle changer) (confirmation_told handle unconfirmed) ≡ true
confirmed-noticed handle changer None is = cc is
confirmed-noticed handle changer (Some unconfirmed) is =
    current-noticed handle unconfirmed.handle changer unconfirmed.outdated is

told-noticed : (handle : ℕ) (changer : Handle) (pending : Indications) → is_told pending changer ≡ true
    → list_any (is_confirmed_notice handle changer) (confirmation_told handle pending.unconfirmed) ≡ true
told-noticed handle changer pending is =
    confirmed-noticed handle changer pending.unconfirmed
    (and_true_left (option_map_or (λ (one : Unconfirmed). (one.handle == changer) && not one.outdated)
    pending.unconfirmed false) (not (is_waiting pending.waiting changer)) is)

stays-pending : (owed confirmed : Bool) → (confirmed ≡ true → ⊥) → (owed && not confirmed) ≡ owed
stays-pending owed true never = absurd (never refl)
stays-pending true false never = refl
stays-pending false false never = refl

-- One connection.

module _ (shared : SharedState) (bond : Row) (owed : Bool) (connection : ConnectionState) where
  abbrev IsNotNoticed : List Notice → Type 0
  IsNotNoticed notices = (changer : Handle) → is_some (key_of connection) ≡ true → shared.changer ≡ Some changer
      → list_any (is_confirmed_notice connection.handle changer) notices ≡ false

  either-owed : (one other : Effect) (test : Bool) → one.owed ≡ owed → other.owed ≡ owed
      → (if test then one else other).owed ≡ owed
  either-owed one other true first second = first
  either-owed one other false first second = second

  module _ (pdu : Octets) (effect : Effect) where
    abbrev wrote : List Notice
    wrote = map (write_told shared.table.attributes (row_in_force effect.bond effect.connection) connection.handle)
        (handles_written shared bond connection (Asks pdu))

    abbrev confirmed : Bool → List Notice
    confirmed confirms = if confirms then confirmation_told connection.handle connection.pending.unconfirmed else []

    abbrev end : List Notice
    end = end_told connection.handle effect.connection

    -- what is noticed of it has no confirmation of the Service Changed value
    of-three : (test : Notice → Bool) (one other third : List Notice)
        → list_any test ((one ++ other) ++ third) ≡ false → list_any test other ≡ false
    of-three test one other third none =
        or_false_right (list_any test one) (list_any test other)
        (sym (list_any-append test one other)
        ∙ or_false_left (list_any test (one ++ other)) (list_any test third)
        (sym (list_any-append test (one ++ other) third) ∙ none))

    not-confirmed : is_live connection.mark ≡ true
        → IsNotNoticed (own_told shared bond connection (Asks pdu) effect)
        → (changer : Option Handle) → shared.changer ≡ changer
        → (is_confirmation pdu && is_some (key_of connection)
        && option_map_or (is_told connection.pending) changer false) ≡ true → ⊥
    not-confirmed live none None is confirms =
        let never = and_true_right (is_confirmation pdu && is_some (key_of connection)) false confirms in cc never
    not-confirmed live none (Some changer) is confirms =
        let both = and_true_left (is_confirmation pdu && is_some (key_of connection))
        (is_told connection.pending changer) confirms in
        let pdu_confirms = and_true_left (is_confirmation pdu) (is_some (key_of connection)) both in
        let keyed = and_true_right (is_confirmation pdu) (is_some (key_of connection)) both in
        let told = and_true_right (is_confirmation pdu && is_some (key_of connection))
        (is_told connection.pending changer) confirms in
        let test : Notice → Bool = is_confirmed_notice connection.handle changer in
        let unnoticed : list_any test (confirmation_told connection.handle connection.pending.unconfirmed) ≡ false =
        of-three test wrote (confirmation_told connection.handle connection.pending.unconfirmed) end
        ((λ i. list_any test (if sym live i then (wrote ++ confirmed (sym pdu_confirms i)) ++ end else []))
        ∙ none changer keyed is) in
        let noticed_too = told-noticed connection.handle changer connection.pending told in
        cc (unnoticed, noticed_too)

    asks-owed : is_live connection.mark ≡ true
        → IsNotNoticed (own_told shared bond connection (Asks pdu) effect)
        → owed_after shared connection pdu owed ≡ owed
    asks-owed live none = stays-pending owed _ (not-confirmed live none shared.changer refl)

    live-asks-owed : (live : Bool) → is_live connection.mark ≡ live
        → IsNotNoticed (own_told shared bond connection (Asks pdu) effect)
        → (if live then live_effect shared bond owed connection (Asks pdu)
        else effect_on_connection shared bond owed connection).owed ≡ owed
    unfolding live_effect
    live-asks-owed true is none =
        let asked : Question = request_of pdu (connection_mtu shared connection) in
        either-owed (effect_on_connection shared bond owed (after_ending connection remote_user_terminated))
        (served shared bond owed connection pdu asked)
        (is_due asked && is_full shared connection) refl (asks-owed is none)
    live-asks-owed false is none = refl

  other-owed : (own : Own) → (live_effect shared bond owed connection own).owed ≡ owed
      → (if is_live connection.mark then live_effect shared bond owed connection own
      else effect_on_connection shared bond owed connection).owed ≡ owed
  other-owed own is =
      either-owed (live_effect shared bond owed connection own) (effect_on_connection shared bond owed connection)
      (is_live connection.mark) is refl

  own-owed : (own : Own)
      → IsNotNoticed (own_told shared bond connection own (effect_of shared bond owed connection own))
      → (effect_of shared bond owed connection own).owed ≡ owed
  unfolding live_effect
  own-owed (Connected handle peer) none = refl
  own-owed Disconnected none = refl
  own-owed (Asks pdu) none =
      live-asks-owed pdu (effect_of shared bond owed connection (Asks pdu)) (is_live connection.mark) refl none
  own-owed own none = other-owed own refl

-- And each event.

abbrev IsNotNoticedIn : State → Event → Peer → Type 0
IsNotNoticedIn state event peer = (ordinal : Ordinal) (changer : Handle)
    → same_peer peer (state.connections ordinal).peer ≡ true
    → is_some (key_of (state.connections ordinal)) ≡ true → state.shared.changer ≡ Some changer
    → list_any (is_confirmed_notice (state.connections ordinal).handle changer) (noticed state event) ≡ false

of-owed : (state : State) (at : Ordinal) (own : Own) (peer : Peer) (same : Bool)
    → same_peer peer (state.connections at).peer ≡ same → IsNotNoticedIn state (Of at own) peer
    → (let connection = state.connections at in
    (if same then
    (effect_of state.shared (state.bonds connection.peer) (state.owed connection.peer) connection own).owed
    else state.owed peer)
    ≡ state.owed peer)
unfolding event_told
of-owed state at own peer true is none =
    let connection = state.connections at in
    own-owed state.shared (state.bonds connection.peer) (state.owed connection.peer) connection own
    (λ changer keyed has. none_of_the_event (is_confirmed_notice connection.handle changer) (λ handle attribute. refl)
    state (Of at own) (none at changer is keyed has))
    ∙ ap state.owed (sym (equal_peers peer connection.peer is))
of-owed state at own peer false is none = refl

pub notices_service_changed_confirmed : NoticesServiceChangedConfirmed
unfolding step change_of
notices_service_changed_confirmed state (Of at own) peer kind none =
    of-owed state at own peer (same_peer peer (state.connections at).peer) refl none
notices_service_changed_confirmed state (Credit allowed opcode status (Some init)) peer kind none = refl
notices_service_changed_confirmed state (Credit allowed opcode status None) peer kind none = refl
notices_service_changed_confirmed state (Replaced table) peer kind none = cc kind
notices_service_changed_confirmed state event peer kind none = refl
