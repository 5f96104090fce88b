-- What the key of a link is worth changes by what is told alone.
use Rattle.std.proofs.Common.{◌≡◌, ℕ, Bool, true, false, List, [], ◌∷◌, Option, Some, None}
use Rattle.std.proofs.Common.{refl, sym, ap, subst, ◌∙◌}
use Rattle.std.specs.Prelude.{◌++◌, ◌==◌, ◌&&◌, ◌||◌, if◌then◌else◌}
use Rattle.std.specs.List.{list_any}
use Rattle.std.proofs.lemmas.Bool.{eqb-true, eq-eqb}
use Rattle.std.proofs.lemmas.List.Folds.{list_any-append}
use Rattle.att_numbers.specs.Types.{Row}
use Rattle.att_pdu.specs.Grammar.{request_of, is_due}
use Rattle.att_policy.specs.declared.standing.KeyFacts.{KeyFacts}
use Rattle.att_table.specs.ConfigRow.{kept_row}
use Rattle.att_table.specs.Table.{Contents}
use Rattle.gatt_conn.specs.Answer.{Question}
use Rattle.gatt_conn.specs.Transcript.{Dropped}
use Rattle.gatt_laws.proofs.runs.Ends.{end_keeps}
use Rattle.gatt_laws.proofs.notices.Skips.{none_of_the_event}
use Rattle.gatt_laws.proofs.runs.Steady.{completed_steady}
use Rattle.gatt_laws.specs.machine.Event as event
use Rattle.gatt_laws.specs.machine.Event.{Ordinal, Own, Event, Connected, Encrypted}
use Rattle.gatt_laws.specs.machine.Event.{Refreshed, Asks, OtherChannel, Of, Completed, Credit}
use Rattle.gatt_laws.specs.machine.Event.{Replaced}
use Rattle.gatt_laws.specs.machine.Notice.{Notice, Disconnected, Secured, Unsecured, are_both, are_same_facts}
use Rattle.gatt_laws.specs.machine.Notice.{link_told}
use Rattle.gatt_laws.specs.machine.Notice.{end_told, own_told, event_told, noticed}
use Rattle.gatt_laws.specs.machine.ConnectionState.{ConnectionState, fresh_connection, is_live, is_there, key_of, connection_mtu, with_pdus}
use Rattle.gatt_laws.specs.machine.ConnectionState.{after_ending}
use Rattle.gatt_laws.specs.machine.SharedState.{SharedState}
use Rattle.gatt_laws.specs.laws.RowNotices.{is_connection_or_disconnection, tells_key, TellsEachKey}
use Rattle.gatt_laws.specs.laws.Silence.{is_for_all}
use Rattle.gatt_laws.specs.machine.State.{State, change_of, connection_after_replacement, step}
use Rattle.gatt_laws.specs.machine.Effect.{Effect, effect_on_connection, effect_of, live_effect, served, is_full}
use Rattle.gatt_laws.specs.machine.Effect.{after_other_channel, channel_answer}
use Rattle.gatt_laws.specs.machine.Effect.{remote_user_terminated}
use Rattle.gatt_subs.specs.Indications.{after_replacement}
use Rattle.octet_io.proofs.Choices.{and_true_right, and_true_left, or_false_left, or_false_right}
use Rattle.octet_io.specs.Number.{Octets}

-- Keys of the same facts are worth the same.

both-same : (one other : Bool) → are_both one other ≡ true → one ≡ other
both-same true true is = refl
both-same false false is = refl
both-same true false is = cc is
both-same false true is = cc is

same-facts : (one other : KeyFacts) → are_same_facts one other ≡ true → one ≡ other
same-facts one other is =
    let sizes : Bool = one.size == other.size in
    let authenticated : Bool = are_both one.authenticated other.authenticated in
    let secure : Bool = are_both one.secure other.secure in
    let flags : (sizes && authenticated) ≡ true = and_true_left (sizes && authenticated) secure is in
    λ i. record {
      size = eqb-true one.size other.size (and_true_left sizes authenticated flags) i;
      authenticated =
          both-same one.authenticated other.authenticated (and_true_right sizes authenticated flags) i;
      secure = both-same one.secure other.secure (and_true_right (sizes && authenticated) secure is) i;
    }

-- a notice that the link of the connection of this handle has another key, or none
abbrev pub changes_key : ℕ → Notice → Bool
changes_key handle (Secured other facts) = other == handle
changes_key handle (Unsecured other) = other == handle
changes_key handle notice = false

abbrev Untold : ℕ → List Notice → Type 0
Untold handle notices = list_any (changes_key handle) notices ≡ false

-- a notice of this handle is there
told-here : {P : Type 0} (handle : ℕ) (others : Bool) → ((handle == handle) || others) ≡ false → P
told-here handle others none =
    let differs : (handle == handle) ≡ false = or_false_left (handle == handle) others none in
    absurd (cc (differs, eq-eqb handle handle refl))

same-or-told : (handle : ℕ) (old new : KeyFacts) (same : Bool) → are_same_facts old new ≡ same
    → Untold handle (if same then [] else Secured handle new ∷ []) → Some new ≡ Some old
same-or-told handle old new true is none = ap Some (sym (same-facts old new is))
same-or-told handle old new false is none = told-here handle false none

link-same : (handle : ℕ) (old new : Option KeyFacts) → Untold handle (link_told handle old new)
    → new ≡ old
link-same handle None None none = refl
link-same handle None (Some new) none = told-here handle false none
link-same handle (Some old) None none = told-here handle false none
link-same handle (Some old) (Some new) none = same-or-told handle old new
    (are_same_facts old new) refl none

-- One connection.

either-key : (connection : ConnectionState) (one other : Effect) (test : Bool) → key_of one.connection ≡ key_of connection
    → key_of other.connection ≡ key_of connection
    → key_of (if test then one else other).connection ≡ key_of connection
either-key connection one other true first second = first
either-key connection one other false first second = second

channel-key : (shared : SharedState) (connection : ConnectionState) (channel : ℕ) (answer : Option Octets)
    → key_of (after_other_channel shared connection channel answer) ≡ key_of connection
channel-key shared connection channel None = refl
channel-key shared connection channel (Some answer) =
    elim (is_full shared connection) as (λ (full : Bool). key_of
    (if full then after_ending connection remote_user_terminated
    else with_pdus connection ((channel, answer) ∷ [])) ≡ key_of connection) [ true ↦ refl | false ↦ refl ]

module _ (shared : SharedState) (bond : Row) (owed : Bool) (connection : ConnectionState) where
  abbrev effect : Own → Effect
  effect own = effect_of shared bond owed connection own

  abbrev told : Own → List Notice
  told own = own_told shared bond connection own (effect own)

  -- a link whose key is told
  linked : (own : Own) (live : Bool) → is_live connection.mark ≡ live
      → key_of (if live then live_effect shared bond owed connection own
      else effect_on_connection shared bond owed connection).connection ≡ key_of (effect own).connection
      → Untold connection.handle (if live then link_told connection.handle (key_of connection)
      (key_of (effect own).connection)
      ++ end_told connection.handle (effect own).connection else [])
      → key_of (if live then live_effect shared bond owed connection own
      else effect_on_connection shared bond owed connection).connection ≡ key_of connection
  linked own true is same none =
      let notices : List Notice = link_told connection.handle (key_of connection) (key_of (effect own).connection) in
      let end : List Notice = end_told connection.handle (effect own).connection in
      same ∙ link-same connection.handle (key_of connection) (key_of (effect own).connection)
      (or_false_left (list_any (changes_key connection.handle) notices) (list_any (changes_key connection.handle) end)
      (sym (list_any-append (changes_key connection.handle) notices end) ∙ none))
  linked own false is same none = refl

  if-live-keeps : (own : Own) → key_of (live_effect shared bond owed connection own).connection ≡ key_of connection
      → key_of (if is_live connection.mark then live_effect shared bond owed connection own
      else effect_on_connection shared bond owed connection).connection ≡ key_of connection
  if-live-keeps own is =
      either-key connection (live_effect shared bond owed connection own) (effect_on_connection shared bond owed connection)
      (is_live connection.mark) is refl

  own-key : (own : Own) → is_for_all own ≡ false → Untold connection.handle (told own)
      → key_of (effect own).connection ≡ key_of connection
  unfolding live_effect
  own-key (Connected handle peer) kind none = cc kind
  own-key event.Disconnected kind none = cc kind
  own-key (Encrypted status enabled) kind none = linked (Encrypted status enabled)
      (is_live connection.mark) refl refl none
  own-key (Refreshed status) kind none = linked (Refreshed status)
      (is_live connection.mark) refl refl none
  own-key (Asks pdu) kind none =
      let asked : Question = request_of pdu (connection_mtu shared connection) in
      if-live-keeps (Asks pdu)
      (either-key connection (effect_on_connection shared bond owed (after_ending connection remote_user_terminated))
      (served shared bond owed connection pdu asked)
      (is_due asked && is_full shared connection) refl refl)
  own-key (OtherChannel channel payload) kind none =
      if-live-keeps (OtherChannel channel payload)
      (channel-key shared connection channel (channel_answer channel payload))
  own-key own kind none = if-live-keeps own refl

-- And each event, but for a connection that comes or goes.

of-key : (state : State) (at ordinal : Ordinal) (own : Own) (same : Bool) → (ordinal == at) ≡ same
    → (same && is_for_all own) ≡ false
    → Untold (state.connections ordinal).handle (event_told state (Of at own))
    → (let connection = state.connections at in
    key_of (if same then (effect_of state.shared (state.bonds connection.peer)
    (state.owed connection.peer) connection own).connection else state.connections ordinal)
    ≡ key_of (state.connections ordinal))
unfolding event_told
of-key state at ordinal own true is kind none =
    let here : ordinal ≡ at = eqb-true ordinal at is in
    let connection = state.connections at in
    own-key state.shared (state.bonds connection.peer) (state.owed connection.peer) connection own kind
    (subst (λ (one : Ordinal). Untold (state.connections one).handle
    (event_told state (Of at own))) here none)
    ∙ ap (λ (one : Ordinal). key_of (state.connections one)) (sym here)
of-key state at ordinal own false is kind none = refl

replaced-key : (old new : Contents) (connection : ConnectionState) → key_of (connection_after_replacement old new connection)
    ≡ key_of connection
replaced-key old new connection =
    elim (is_live connection.mark) as (λ (live : Bool).
    key_of (record (if live
    then record connection { said = Dropped ∷ connection.said; pending = after_replacement connection.pending }
    else connection) {
      row = kept_row old.attributes new.attributes connection.row;
    }) ≡ key_of connection) [ true ↦ refl | false ↦ refl ]

change-key : (state : State) (event : Event) (ordinal : Ordinal)
    → is_connection_or_disconnection ordinal event ≡ false
    → Untold (state.connections ordinal).handle (event_told state event)
    → key_of ((change_of state event).state.connections ordinal) ≡ key_of (state.connections ordinal)
unfolding change_of
change-key state (Of at own) ordinal kind none = of-key state at ordinal own
    (ordinal == at) refl kind none
change-key state (Completed entries) ordinal kind none = completed_steady key_of
    (λ connection done. refl) ordinal entries (state.connections ordinal)
change-key state (Credit allowed opcode status (Some init)) ordinal kind none = refl
change-key state (Credit allowed opcode status None) ordinal kind none = refl
change-key state (Replaced table) ordinal kind none = replaced-key state.shared.table table
    (state.connections ordinal)
change-key state event ordinal kind none = refl

pub stays_keyed : (state : State) (event : Event) (ordinal : Ordinal)
    → is_connection_or_disconnection ordinal event ≡ false
    → Untold (state.connections ordinal).handle (noticed state event)
    → key_of ((step state event).connections ordinal) ≡ key_of (state.connections ordinal)
stays_keyed state event ordinal kind none =
    end_keeps key_of (λ connection pdus pending given reply reason. refl) state event ordinal
    ∙ change-key state event ordinal kind
    (none_of_the_event (changes_key (state.connections ordinal).handle) (λ handle attribute. refl) state event none)

-- of what a test finds nowhere a stricter one finds nothing
pub none-stricter : (less more : Notice → Bool) → ((notice : Notice) → more notice ≡ false → less notice ≡ false)
    → (notices : List Notice) → list_any more notices ≡ false → list_any less notices ≡ false
none-stricter less more fewer [] none = refl
none-stricter less more fewer (notice ∷ rest) none =
    let first = fewer notice (or_false_left (more notice) (list_any more rest) none) in
    let later = none-stricter less more fewer rest (or_false_right (more notice) (list_any more rest) none) in
    (λ i. first i || list_any less rest) ∙ later

tells-changes : (handle : ℕ) (notice : Notice) → tells_key handle notice ≡ false → changes_key handle notice ≡ false
tells-changes handle (Secured other facts) none = none
tells-changes handle (Unsecured other) none = none
tells-changes handle notice none = refl

-- a connection that is there does not come, and is noticed where it goes
here-key : (state : State) (at ordinal : Ordinal) (own : Own) → (ordinal == at) ≡ true → is_for_all own ≡ true
    → is_there (state.connections at).mark ≡ true
    → list_any (tells_key (state.connections at).handle) (event_told state (Of at own)) ≡ false
    → key_of ((change_of state (Of at own)).state.connections ordinal) ≡ key_of (state.connections at)
unfolding change_of event_told
here-key state at ordinal (Connected handle peer) same kind there none =
    let connection = state.connections at in
    (λ i. key_of (if same i then (if there i then connection else fresh_connection handle peer)
    else state.connections ordinal))
here-key state at ordinal event.Disconnected same kind there none =
    let connection = state.connections at in
    told-here connection.handle false
    (ap (λ (is : Bool). list_any (tells_key connection.handle)
    (if is then Disconnected connection.handle ∷ [] else [])) (sym there) ∙ none)
here-key state at ordinal own same kind there none = cc kind

key-by-kind : (state : State) (event : Event) (ordinal : Ordinal) (comes : Bool)
    → is_connection_or_disconnection ordinal event ≡ comes
    → is_there (state.connections ordinal).mark ≡ true
    → list_any (tells_key (state.connections ordinal).handle) (noticed state event) ≡ false
    → key_of ((step state event).connections ordinal) ≡ key_of (state.connections ordinal)
key-by-kind state event ordinal false kind there none =
    stays_keyed state event ordinal kind
    (none-stricter (changes_key (state.connections ordinal).handle) (tells_key (state.connections ordinal).handle)
    (tells-changes (state.connections ordinal).handle) (noticed state event) none)
key-by-kind state (Of at own) ordinal true kind there none =
    let same : (ordinal == at) ≡ true = and_true_left (ordinal == at) (is_for_all own) kind in
    let here : ordinal ≡ at = eqb-true ordinal at same in
    end_keeps key_of (λ connection pdus pending given reply reason. refl) state (Of at own) ordinal
    ∙ here-key state at ordinal own same (and_true_right (ordinal == at) (is_for_all own) kind)
    (subst (λ (one : Ordinal). is_there (state.connections one).mark ≡ true) here there)
    (subst (λ (one : Ordinal). list_any (tells_key (state.connections one).handle)
    (event_told state (Of at own)) ≡ false) here
    (none_of_the_event (tells_key (state.connections ordinal).handle) (λ handle attribute. refl) state (Of at own) none))
    ∙ ap (λ (one : Ordinal). key_of (state.connections one)) (sym here)
key-by-kind state event ordinal true kind there none = cc kind

pub tells_each_key : TellsEachKey
tells_each_key state event ordinal there none =
    key-by-kind state event ordinal (is_connection_or_disconnection ordinal event) refl there none
