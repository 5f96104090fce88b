-- What a notice says is so after its event.
use Rattle.std.proofs.Common.{◌≡◌, ℕ, Bool, true, false, List, [], ◌∷◌, map, Option, Some, None}
use Rattle.std.proofs.Common.{refl, ap, ◌∙◌}
use Rattle.std.specs.Prelude.{◌++◌, All, is_some, if◌then◌else◌}
use Rattle.std.specs.List.{flat_map}
use Rattle.std.specs.Option.{option_to_list}
use Rattle.std.proofs.lemmas.Bool.{eq-eqb}
use Rattle.std.proofs.lemmas.List.Elements.{All-nil, All-cons, All-append}
use Rattle.att_attributes.specs.declared.attr.Attr.{Attr}
use Rattle.att_attributes.specs.Attributes.{is_configuration_at}
use Rattle.att_numbers.specs.Types.{Handle, Row}
use Rattle.att_policy.specs.declared.standing.KeyFacts.{KeyFacts}
use Rattle.att_table.specs.ConfigRow.{bits_at}
use Rattle.gatt_conn.specs.Answer.{is_confirmation}
use Rattle.gatt_laws.proofs.runs.Ends.{end_keeps}
use Rattle.gatt_laws.proofs.runs.Named.{IsNamedAs, if-live-named, if-live-stays, end_named}
use Rattle.gatt_laws.proofs.runs.Places.{live-there}
use Rattle.gatt_laws.proofs.notices.Skips.{holds_with_skips}
use Rattle.gatt_laws.specs.machine.Controller.{Slots}
use Rattle.gatt_laws.specs.machine.Event as event
use Rattle.gatt_laws.specs.machine.Event.{Ordinal, Own, KeyAsked, Encrypted, Refreshed, Asks}
use Rattle.gatt_laws.specs.machine.Event.{OtherChannel, Authorized, Ended, Of, Tick}
use Rattle.gatt_laws.specs.machine.Notice.{Notice, Connected, Disconnected, Secured, Unsecured, Written}
use Rattle.gatt_laws.specs.machine.Notice.{Configured, Confirmed, TimedOut, Ending, are_same_facts}
use Rattle.gatt_laws.specs.machine.Notice.{link_told, write_told, confirmation_told, end_told, live_told}
use Rattle.gatt_laws.specs.machine.Notice.{late_told, slot_told, event_told}
use Rattle.gatt_laws.specs.laws.OwnWrites.{row_of_connection}
use Rattle.gatt_laws.specs.machine.ConnectionState.{ConnectionState, fresh_connection, is_live, is_there, key_of, row_in_force}
use Rattle.gatt_laws.specs.machine.State.{State, change_of, step}
use Rattle.gatt_laws.specs.laws.ToldIsSo.{IsSo, TellsWhatIsSo}
use Rattle.gatt_laws.specs.machine.Effect.{Effect, effect_on_connection, effect_of, live_effect, handles_written}
use Rattle.gatt_subs.specs.declared.pending.Unconfirmed.{Unconfirmed}
use Rattle.le_hci.specs.declared.peer.Peer.{Peer}
use Rattle.le_security.proofs.Peers.{same_as_itself}

-- Of some lists of notices, in a state.

module _ (new : State) where
  abbrev AreSo : List Notice → Type 0
  AreSo notices = All (IsSo new) notices

  none-so : AreSo []
  none-so = All-nil (IsSo new)

  one-so : (notice : Notice) → IsSo new notice → AreSo (notice ∷ [])
  one-so notice is = All-cons (IsSo new) notice [] is none-so

  either-so : (one other : List Notice) (test : Bool) → (test ≡ true → AreSo one)
      → (test ≡ false → AreSo other) → AreSo (if test then one else other)
  either-so one other true first second = first refl
  either-so one other false first second = second refl

  both-so : (one other : List Notice) → AreSo one → AreSo other → AreSo (one ++ other)
  both-so one other first second = All-append (IsSo new) one other first second

  slots-so : (state : State) (time : ℕ) (slots : Slots)
      → AreSo (flat_map (slot_told state time) slots)
  slots-so state time [] = none-so
  slots-so state time (None ∷ slots) = slots-so state time slots
  slots-so state time (Some ordinal ∷ slots) =
      let connection : ConnectionState = state.connections ordinal in
      both-so (late_told time connection) (flat_map (slot_told state time) slots)
      (either-so (TimedOut connection.handle ∷ []) [] _ (λ is. one-so (TimedOut connection.handle) tt)
      (λ is. none-so))
      (slots-so state time slots)

  -- a connection that is there and has a handle, its key and its row in force
  module _ (ordinal : Ordinal) (handle : ℕ) (there : is_there (new.connections ordinal).mark ≡ true)
      (named : (new.connections ordinal).handle ≡ handle) where
    link-so : (old key : Option KeyFacts) → key_of (new.connections ordinal) ≡ key
        → AreSo (link_told handle old key)
    link-so None None is = none-so
    link-so None (Some facts) is =
        one-so (Secured handle facts) (record { ordinal = ordinal; there = there; named = named; holds = is })
    link-so (Some old) None is =
        one-so (Unsecured handle) (record { ordinal = ordinal; there = there; named = named; holds = is })
    link-so (Some old) (Some facts) is =
        either-so [] (Secured handle facts ∷ []) (are_same_facts old facts) (λ same. none-so)
        (λ differs. one-so (Secured handle facts)
        (record { ordinal = ordinal; there = there; named = named; holds = is }))

    write-so : (row : Row) (attribute : Handle) (configuration : Bool) → row_of_connection new ordinal ≡ row
        → IsSo new (if configuration then Configured handle attribute (bits_at row attribute)
        else Written handle attribute)
    write-so row attribute true is = record {
      ordinal = ordinal;
      there = there;
      named = named;
      holds = ap (λ (of : Row). bits_at of attribute) is;
    }
    write-so row attribute false is = tt

    writes-so : (attributes : List Attr) (row : Row) (handles : List Handle) → row_of_connection new ordinal
        ≡ row
        → AreSo (map (write_told attributes row handle) handles)
    writes-so attributes row [] is = none-so
    writes-so attributes row (attribute ∷ rest) is =
        All-cons (IsSo new) (write_told attributes row handle attribute)
        (map (write_told attributes row handle) rest)
        (write-so row attribute (is_configuration_at attributes attribute) is)
        (writes-so attributes row rest is)

    confirmation-so : (unconfirmed : Option Unconfirmed)
        → AreSo (confirmation_told handle unconfirmed)
    confirmation-so None = none-so
    confirmation-so (Some unconfirmed) =
        either-so [] (Confirmed handle unconfirmed.handle ∷ []) unconfirmed.outdated (λ is. none-so)
        (λ is. one-so (Confirmed handle unconfirmed.handle) tt)

    reason-so : (reason : Option ℕ) → is_live (new.connections ordinal).mark ≡ false
        → AreSo (map (Ending handle) (option_to_list reason))
    reason-so None ended = none-so
    reason-so (Some reason) ended =
        one-so (Ending handle reason) (record { ordinal = ordinal; there = there; named = named; holds = ended })

-- What an event of a connection leaves of it.

module _ (state : State) (at : Ordinal) (own : Own) where
  abbrev connection : ConnectionState
  connection = state.connections at

  abbrev effect : Effect
  effect = effect_of state.shared (state.bonds connection.peer) (state.owed connection.peer) connection own

  abbrev new : State
  new = step state (Of at own)

  own-part : (change_of state (Of at own)).state.connections at ≡ effect.connection
  unfolding change_of
  own-part = ap (λ (same : Bool). if same then effect.connection else connection) (eq-eqb at at refl)

  own-mark : (new.connections at).mark ≡ effect.connection.mark
  own-mark =
      end_keeps (λ (of : ConnectionState). of.mark) (λ of pdus pending given reply reason. refl) state
      (Of at own) at
      ∙ ap (λ (of : ConnectionState). of.mark) own-part

  own-key : key_of (new.connections at) ≡ key_of effect.connection
  own-key =
      end_keeps key_of (λ of pdus pending given reply reason. refl) state (Of at own) at
      ∙ ap key_of own-part

  own-handle : (new.connections at).handle ≡ effect.connection.handle
  own-handle = (end_named state (Of at own) at).handle ∙ ap (λ (of : ConnectionState). of.handle) own-part

  own-peer : (new.connections at).peer ≡ effect.connection.peer
  own-peer = (end_named state (Of at own) at).peer ∙ ap (λ (of : ConnectionState). of.peer) own-part

  own-configured : (new.connections at).row ≡ effect.connection.row
  own-configured =
      end_keeps (λ (of : ConnectionState). of.row) (λ of pdus pending given reply reason. refl) state
      (Of at own) at
      ∙ ap (λ (of : ConnectionState). of.row) own-part

  own-bond : effect.connection.peer ≡ connection.peer → new.bonds (new.connections at).peer ≡ effect.bond
  unfolding step change_of
  own-bond same =
      ap new.bonds (own-peer ∙ same)
      ∙ ap (λ (is : Bool). if is then effect.bond else state.bonds connection.peer)
      (same_as_itself connection.peer)

  own-row : effect.connection.peer ≡ connection.peer → row_of_connection new at ≡ row_in_force effect.bond effect.connection
  own-row same =
      let bond = own-bond same in
      λ i. if is_some (own-key i) then bond i else own-configured i

  -- of one that served and stays
  module _ (kept : IsNamedAs connection effect.connection)
      (stays : is_there connection.mark ≡ true → is_there effect.connection.mark ≡ true) where
    there : is_live connection.mark ≡ true → is_there (new.connections at).mark ≡ true
    there live = ap is_there own-mark ∙ stays (live-there connection.mark live)

    named : (new.connections at).handle ≡ connection.handle
    named = own-handle ∙ kept.handle

    end-so : is_live connection.mark ≡ true → AreSo new (end_told connection.handle effect.connection)
    end-so live =
        either-so new [] (map (Ending connection.handle) (option_to_list effect.connection.reason))
        (is_live effect.connection.mark)
        (λ is. none-so new)
        (λ ended. reason-so new at connection.handle (there live) named effect.connection.reason (ap is_live own-mark ∙ ended))

    told-so : (is_live connection.mark ≡ true → AreSo new (live_told state.shared (state.bonds connection.peer) connection own effect))
        → AreSo new (if is_live connection.mark then live_told state.shared
        (state.bonds connection.peer) connection own effect
        ++ end_told connection.handle effect.connection else [])
    told-so is =
        either-so new (live_told state.shared (state.bonds connection.peer) connection own effect
        ++ end_told connection.handle effect.connection) []
        (is_live connection.mark)
        (λ live. both-so new (live_told state.shared (state.bonds connection.peer) connection own effect)
        (end_told connection.handle effect.connection) (is live) (end-so live)) (λ idle. none-so new)

    linked-so : is_live connection.mark ≡ true
        → AreSo new (link_told connection.handle (key_of connection) (key_of effect.connection))
    linked-so live = link-so new at connection.handle (there live) named (key_of connection) (key_of effect.connection) own-key

stays-named : (state : State) (at : Ordinal) (own : Own)
    → (let connection = state.connections at in
    let shared = state.shared in
    let bond = state.bonds connection.peer in
    let owed = state.owed connection.peer in
    IsNamedAs connection (if is_live connection.mark then live_effect shared bond owed connection own
    else effect_on_connection shared bond owed connection).connection)
stays-named state at own =
    let connection : ConnectionState = state.connections at in
    if-live-named state.shared (state.bonds connection.peer) (state.owed connection.peer) connection own

stays-there : (state : State) (at : Ordinal) (own : Own) → is_there (state.connections at).mark ≡ true
    → (let connection = state.connections at in
    let shared = state.shared in
    let bond = state.bonds connection.peer in
    let owed = state.owed connection.peer in
    is_there (if is_live connection.mark then live_effect shared bond owed connection own
    else effect_on_connection shared bond owed connection).connection.mark ≡ true)
stays-there state at own =
    let connection : ConnectionState = state.connections at in
    if-live-stays state.shared (state.bonds connection.peer) (state.owed connection.peer) connection own

comes-named : (state : State) (at : Ordinal) (handle : ℕ) (peer : Peer)
    → is_there (state.connections at).mark ≡ false
    → (effect state at (event.Connected handle peer)).connection ≡ fresh_connection handle peer
comes-named state at handle peer away =
    ap (λ (there : Bool). if there then state.connections at else fresh_connection handle peer) away

told-event : (state : State) (happens : event.Event) → AreSo (step state happens) (event_told state happens)
unfolding event_told
told-event state (Of at (event.Connected handle peer)) =
    let own : Own = event.Connected handle peer in
    either-so (step state (Of at own)) [] (Connected handle peer ∷ [])
    (is_there (state.connections at).mark)
    (λ there. none-so (step state (Of at own)))
    (λ away. one-so (step state (Of at own)) (Connected handle peer) (record {
      ordinal = at;
      there = ap is_there (own-mark state at own)
          ∙ ap (λ (of : ConnectionState). is_there of.mark) (comes-named state at handle peer away);
      named = own-handle state at own
          ∙ ap (λ (of : ConnectionState). of.handle) (comes-named state at handle peer away);
      holds = record {
        peer = own-peer state at own
            ∙ ap (λ (of : ConnectionState). of.peer) (comes-named state at handle peer away);
        key = own-key state at own ∙ ap key_of (comes-named state at handle peer away);
        row = own-configured state at own
            ∙ ap (λ (of : ConnectionState). of.row) (comes-named state at handle peer away);
      };
    }))
told-event state (Of at event.Disconnected) =
    let connection : ConnectionState = state.connections at in
    either-so (step state (Of at event.Disconnected)) (Disconnected connection.handle ∷ []) []
    (is_there connection.mark)
    (λ there. one-so (step state (Of at event.Disconnected)) (Disconnected connection.handle) tt)
    (λ away. none-so (step state (Of at event.Disconnected)))
told-event state (Of at (Asks pdu)) =
    let own : Own = Asks pdu in
    let connection : ConnectionState = state.connections at in
    let bond : Row = state.bonds connection.peer in
    let after : Effect = effect state at own in
    let new : State = step state (Of at own) in
    let kept = stays-named state at own in
    let stays = stays-there state at own in
    told-so state at own kept stays
    (λ live. both-so new (map (write_told state.shared.table.attributes
    (row_in_force after.bond after.connection) connection.handle)
    (handles_written state.shared bond connection own))
    (if is_confirmation pdu then confirmation_told connection.handle connection.pending.unconfirmed else [])
    (writes-so new at connection.handle (there state at own kept stays live) (named state at own kept stays) state.shared.table.attributes
    (row_in_force after.bond after.connection) (handles_written state.shared bond connection own)
    (own-row state at own kept.peer))
    (either-so new (confirmation_told connection.handle connection.pending.unconfirmed) [] (is_confirmation pdu)
    (λ is. confirmation-so new at connection.handle (there state at own kept stays live) (named state at own kept stays) connection.pending.unconfirmed)
    (λ is. none-so new)))
told-event state (Of at (Encrypted status enabled)) =
    let own : Own = Encrypted status enabled in
    let kept = stays-named state at own in
    let stays = stays-there state at own in
    told-so state at own kept stays (linked-so state at own kept stays)
told-event state (Of at (Refreshed status)) =
    let own : Own = Refreshed status in
    let kept = stays-named state at own in
    let stays = stays-there state at own in
    told-so state at own kept stays (linked-so state at own kept stays)
told-event state (Of at (KeyAsked random_number diversifier)) =
    let own : Own = KeyAsked random_number diversifier in
    told-so state at own (stays-named state at own) (stays-there state at own) (λ live. none-so (step state (Of at own)))
told-event state (Of at (OtherChannel channel payload)) =
    let own : Own = OtherChannel channel payload in
    told-so state at own (stays-named state at own) (stays-there state at own) (λ live. none-so (step state (Of at own)))
told-event state (Of at (Authorized until)) =
    let own : Own = Authorized until in
    told-so state at own (stays-named state at own) (stays-there state at own) (λ live. none-so (step state (Of at own)))
told-event state (Of at Ended) =
    let own : Own = Ended in
    told-so state at own (stays-named state at own) (stays-there state at own) (λ live. none-so (step state (Of at own)))
told-event state (Tick time) = slots-so (step state (Tick time)) state time state.slots
told-event state event = none-so (step state event)

pub tells_what_is_so : TellsWhatIsSo
tells_what_is_so state happens =
    holds_with_skips (IsSo (step state happens)) (λ handle attribute. tt) state happens (told-event state happens)
