-- What is configured changes by what is told alone.
use Rattle.std.proofs.Common.{◌≡◌, ℕ, Bool, true, false, List, [], ◌∷◌, map, Option, Some, None}
use Rattle.std.proofs.Common.{Result, Ok, Err, refl, sym, ap, subst, ◌∙◌}
use Rattle.std.specs.Prelude.{◌++◌, ◌==◌, ◌&&◌, not, is_some, if◌then◌else◌}
use Rattle.std.specs.List.{filter}
use Rattle.std.proofs.lemmas.Bool.{eqb-true, eq-eqb, or_from}
use Rattle.std.proofs.lemmas.List.Folds.{list_any-append}
use Rattle.att_numbers.specs.Types.{Handle, Row}
use Rattle.att_attributes.specs.declared.attr.Attr.{Attr}
use Rattle.att_attributes.specs.Attributes.{is_configuration_at}
use Rattle.att_pdu.specs.Grammar.{request_of, is_due}
use Rattle.att_policy.specs.declared.standing.Standing.{Standing}
use Rattle.att_policy.specs.Refusal.{Refusal}
use Rattle.att_table.proofs.Rows.{bits_at_other}
use Rattle.att_table.specs.ConfigRow.{bits_at, with_bits}
use Rattle.att_table.specs.Table.{Contents}
use Rattle.att_writes.proofs.Untouched.{keeps_others}
use Rattle.att_writes.specs.Applied.{Stored, stored_in, applied_to, stored_after}
use Rattle.att_writes.specs.Queue.{handles_of_entries, touched_by}
use Rattle.gatt_conn.specs.Answer.{Question, Writing, writing_asked, stored_after_writing, stored_by}
use Rattle.gatt_conn.specs.Answer.{handles_after, handles_by, is_confirmation}
use Rattle.gatt_laws.proofs.runs.Ends.{end_keeps}
use Rattle.gatt_laws.proofs.notices.Notices.{is_among, none-once}
use Rattle.gatt_laws.proofs.notices.Notices.{none-touched}
use Rattle.gatt_laws.proofs.notices.Skips.{none_of_the_event}
use Rattle.gatt_laws.proofs.runs.Steady.{is_asking, live_steady, completed_steady}
use Rattle.gatt_laws.proofs.policy.Stores.{set_bits, sets_written}
use Rattle.gatt_laws.specs.machine.Event.{Ordinal, Own, Event, Connected, Disconnected}
use Rattle.gatt_laws.specs.machine.Event.{Asks, Of, Completed, Credit}
use Rattle.gatt_laws.specs.machine.Event.{Replaced}
use Rattle.gatt_laws.specs.machine.Notice.{Notice, Configured, Written, write_told, confirmation_told}
use Rattle.gatt_laws.specs.machine.Notice.{end_told, own_told, event_told, noticed}
use Rattle.gatt_laws.specs.machine.ConnectionState.{ConnectionState, is_live, key_of, connection_mtu, row_in_force, bearer_of, after_ending}
use Rattle.gatt_laws.specs.machine.SharedState.{SharedState}
use Rattle.gatt_laws.specs.laws.RowNotices.{tells_bits, is_bits_told, is_replacement}
use Rattle.gatt_laws.specs.laws.RowNotices.{is_connection_or_disconnection, TellsEachOwnRow, TellsEachBond}
use Rattle.gatt_laws.specs.laws.Silence.{is_for_all}
use Rattle.gatt_laws.specs.machine.State.{State, change_of, step}
use Rattle.gatt_laws.specs.machine.Effect.{Effect, effect_on_connection, effect_of, live_effect, served, is_full, remote_user_terminated, handles_written}
use Rattle.le_hci.specs.declared.peer.Peer.{Peer}
use Rattle.le_security.proofs.Peers.{equal_peers}
use Rattle.le_security.specs.Entry.{same_peer}
use Rattle.octet_io.proofs.Choices.{and_false_right, or_false_left, or_false_right}
use Rattle.octet_io.specs.Number.{Octets}

-- A configuration that is written is told.

bits-next : (attributes : List Attr) (row : Row) (handle : ℕ) (attribute other : Handle)
    (configuration : Bool) → is_configuration_at attributes other ≡ configuration
    → is_configuration_at attributes attribute ≡ true
    → tells_bits handle attribute (if configuration then Configured handle other (bits_at row other)
    else Written handle other) ≡ false
    → (other == attribute) ≡ false
bits-next attributes row handle attribute other true is of none =
    and_false_right (handle == handle) (other == attribute) (eq-eqb handle handle refl) none
bits-next attributes row handle attribute other false is of none =
    elim (other == attribute) as (λ same. (other == attribute) ≡ same → same ≡ false) [
      | true ↦ λ same. absurd (cc (eqb-true other attribute same, is, of))
      | false ↦ λ differs. refl
    ] refl

bits_not_written : (attributes : List Attr) (row : Row) (handle : ℕ) (attribute : Handle)
    (handles : List Handle) → is_configuration_at attributes attribute ≡ true
    → is_bits_told handle attribute (map (write_told attributes row handle) handles) ≡ false
    → is_among attribute handles ≡ false
bits_not_written attributes row handle attribute [] of none = refl
bits_not_written attributes row handle attribute (other ∷ rest) of none =
    let notice : Notice = write_told attributes row handle other in
    or_from (other == attribute) (is_among attribute rest)
    (bits-next attributes row handle attribute other (is_configuration_at attributes other) refl of
    (or_false_left (tells_bits handle attribute notice) _ none))
    (bits_not_written attributes row handle attribute rest of
    (or_false_right (tells_bits handle attribute notice) _ none))

-- bits that are set at configurations leave what is none
set-next : (attributes : List Attr) (from row : Row) (attribute other : Handle) (rest : List Handle)
    (configuration : Bool) → is_configuration_at attributes other ≡ configuration
    → is_configuration_at attributes attribute ≡ false
    → ((of : Row) → bits_at (set_bits (map (λ at. (at, bits_at from at)) rest) of) attribute
    ≡ bits_at of attribute)
    → bits_at (set_bits (map (λ at. (at, bits_at from at))
    (if configuration then other ∷ rest else rest)) row) attribute
    ≡ bits_at row attribute
set-next attributes from row attribute other rest true is of later =
    later (with_bits row other (bits_at from other))
    ∙ bits_at_other row other (bits_at from other) attribute (λ same. absurd (cc (same, is, of)))
set-next attributes from row attribute other rest false is of later = later row

set-others : (attributes : List Attr) (from row : Row) (attribute : Handle) (handles : List Handle)
    → is_configuration_at attributes attribute ≡ false
    → bits_at (set_bits (map (λ at. (at, bits_at from at))
    (filter (is_configuration_at attributes) handles)) row) attribute
    ≡ bits_at row attribute
set-others attributes from row attribute [] of = refl
set-others attributes from row attribute (other ∷ rest) of =
    set-next attributes from row attribute other (filter (is_configuration_at attributes) rest)
    (is_configuration_at attributes other) refl of
    (λ one. set-others attributes from one attribute rest of)

-- what is written leaves the bits that are not told
module _ (table : Contents) (row new_row : Row) (standing : Standing) (handle : ℕ) where
  abbrev Untold : Handle → List Handle → Type 0
  Untold attribute handles =
      is_bits_told handle attribute (map (write_told table.attributes new_row handle) handles)
      ≡ false

  bits-by-kind : (writing : Writing) (new : Stored) (attribute : Handle) (configuration : Bool)
      → is_configuration_at table.attributes attribute ≡ configuration
      → applied_to writing.access table row standing writing.entries ≡ Ok new
      → Untold attribute (touched_by writing.entries (Ok new))
      → bits_at new.row attribute ≡ bits_at row attribute
  bits-by-kind writing new attribute true of is none =
      (keeps_others writing.access table.attributes standing writing.entries
      (stored_in table row) new is).row attribute
      (none-touched attribute writing.entries (none-once attribute _
      (bits_not_written table.attributes new_row handle attribute _ of none)))
  bits-by-kind writing new attribute false of is none =
      ap (λ (one : Row). bits_at one attribute)
      (sets_written writing.access table.attributes standing writing.entries
      (stored_in table row) new is)
      ∙ set-others table.attributes new.row row attribute (handles_of_entries writing.entries) of

  bits-if : (writing : Writing) (attribute : Handle) (result : Result Stored Refusal)
      → applied_to writing.access table row standing writing.entries ≡ result
      → Untold attribute (touched_by writing.entries result)
      → bits_at (stored_after (stored_in table row) result).row attribute ≡ bits_at row attribute
  bits-if writing attribute (Ok new) is none =
      bits-by-kind writing new attribute
      (is_configuration_at table.attributes attribute) refl is none
  bits-if writing attribute (Err refusal) is none = refl

  bits-kept : (writing : Option Writing) (attribute : Handle)
      → Untold attribute (handles_after table row standing writing)
      → bits_at (stored_after_writing table row standing writing).row attribute ≡ bits_at row attribute
  bits-kept None attribute none = refl
  bits-kept (Some writing) attribute none =
      bits-if writing attribute
      (applied_to writing.access table row standing writing.entries) refl none

-- A request.

none-first : (handle : ℕ) (attribute : Handle) (one other : List Notice)
    → is_bits_told handle attribute (one ++ other) ≡ false → is_bits_told handle attribute one
    ≡ false
none-first handle attribute one other none =
    or_false_left (is_bits_told handle attribute one) (is_bits_told handle attribute other)
    (sym (list_any-append (tells_bits handle attribute) one other) ∙ none)

module _ (shared : SharedState) (bond : Row) (owed : Bool) (connection : ConnectionState) (pdu : Octets)
    (attribute : Handle) where
  abbrev asked : Question
  asked = request_of pdu (connection_mtu shared connection)

  abbrev full : Bool
  full = is_due asked && is_full shared connection

  abbrev stored : Stored
  stored = stored_by shared.table (row_in_force bond connection) (bearer_of shared connection) asked

  abbrev Unchanged : Type 0
  Unchanged = bits_at stored.row attribute ≡ bits_at (row_in_force bond connection) attribute

  untold-row : (new_row : Row) (served : Bool) → served ≡ true
      → is_bits_told connection.handle attribute
      (map (write_told shared.table.attributes new_row connection.handle)
      (if served then handles_by shared.table (row_in_force bond connection) (bearer_of shared connection) asked
      else [])) ≡ false
      → Unchanged
  untold-row new_row true is none =
      let conn = bearer_of shared connection in
      bits-kept shared.table (row_in_force bond connection) new_row conn.standing connection.handle
      (writing_asked conn.queue asked) attribute none
  untold-row new_row false is none = cc is

  unchanged : (effect : Effect) → is_live connection.mark ≡ true → full ≡ false
      → is_bits_told connection.handle attribute (own_told shared bond connection (Asks pdu) effect) ≡ false
      → Unchanged
  unchanged effect live room_left none =
      let new_row : Row = row_in_force effect.bond effect.connection in
      let tells : Handle → Notice = write_told shared.table.attributes new_row connection.handle in
      let wrote : List Notice = map tells (handles_written shared bond connection (Asks pdu)) in
      let confirmed : List Notice =
      if is_confirmation pdu then confirmation_told connection.handle connection.pending.unconfirmed else [] in
      let lives : is_bits_told connection.handle attribute
      ((wrote ++ confirmed) ++ end_told connection.handle effect.connection) ≡ false =
      ap (λ (of : Bool). is_bits_told connection.handle attribute (if of then (wrote ++ confirmed)
      ++ end_told connection.handle effect.connection else [])) (sym live) ∙ none in
      untold-row new_row (is_live connection.mark && not full) (λ i. live i && not (room_left i))
      (none-first connection.handle attribute wrote confirmed
      (none-first connection.handle attribute (wrote ++ confirmed)
      (end_told connection.handle effect.connection) lives))

  -- its own row, and the row of its peer's bond, which is in force by its key
  abbrev OwnUntold : Effect → Type 0
  OwnUntold effect = is_some (key_of connection) ≡ false
      → is_bits_told connection.handle attribute (own_told shared bond connection (Asks pdu) effect) ≡ false

  abbrev BondUntold : Effect → Type 0
  BondUntold effect = is_some (key_of connection) ≡ true
      → is_bits_told connection.handle attribute (own_told shared bond connection (Asks pdu) effect) ≡ false

  own-by-key : (keyed : Bool)
      → (keyed ≡ false → bits_at stored.row attribute
      ≡ bits_at (if keyed then bond else connection.row) attribute)
      → bits_at (if keyed then connection.row else stored.row) attribute ≡ bits_at connection.row attribute
  own-by-key true same = refl
  own-by-key false same = same refl

  bond-by-key : (keyed : Bool)
      → (keyed ≡ true → bits_at stored.row attribute
      ≡ bits_at (if keyed then bond else connection.row) attribute)
      → bits_at (if keyed then stored.row else bond) attribute ≡ bits_at bond attribute
  bond-by-key true same = same refl
  bond-by-key false same = refl

  abbrev request : Bool → Effect
  request is_ended =
      if is_ended then effect_on_connection shared bond owed (after_ending connection remote_user_terminated)
      else served shared bond owed connection pdu asked

  request-own : (effect : Effect) (is_ended : Bool) → full ≡ is_ended → is_live connection.mark ≡ true
      → OwnUntold effect
      → bits_at (request is_ended).connection.row attribute ≡ bits_at connection.row attribute
  request-own effect true is live untold = refl
  request-own effect false is live untold =
      own-by-key (is_some (key_of connection)) (λ none. unchanged effect live is (untold none))

  request-bond : (effect : Effect) (is_ended : Bool) → full ≡ is_ended → is_live connection.mark ≡ true
      → BondUntold effect
      → bits_at (request is_ended).bond attribute ≡ bits_at bond attribute
  request-bond effect true is live untold = refl
  request-bond effect false is live untold =
      bond-by-key (is_some (key_of connection)) (λ keyed. unchanged effect live is (untold keyed))

  asks-own : (effect : Effect) (live : Bool) → is_live connection.mark ≡ live → OwnUntold effect
      → bits_at (if live then live_effect shared bond owed connection (Asks pdu)
      else effect_on_connection shared bond owed connection).connection.row attribute
      ≡ bits_at connection.row attribute
  unfolding live_effect
  asks-own effect true is untold = request-own effect full refl is untold
  asks-own effect false is untold = refl

  asks-bond : (effect : Effect) (live : Bool) → is_live connection.mark ≡ live → BondUntold effect
      → bits_at (if live then live_effect shared bond owed connection (Asks pdu)
      else effect_on_connection shared bond owed connection).bond attribute
      ≡ bits_at bond attribute
  unfolding live_effect
  asks-bond effect true is untold = request-bond effect full refl is untold
  asks-bond effect false is untold = refl

-- All that happens to one connection.

abbrev row : ConnectionState → Row
row connection = connection.row

either-own : (connection : ConnectionState) (one other : Effect) (test : Bool) → one.connection.row ≡ connection.row
    → other.connection.row ≡ connection.row
    → (if test then one else other).connection.row ≡ connection.row
either-own connection one other true first second = first
either-own connection one other false first second = second

module _ (shared : SharedState) (bond : Row) (owed : Bool) (connection : ConnectionState) (attribute : Handle) where
  other-own : (own : Own) → is_asking own ≡ false
      → bits_at (if is_live connection.mark then live_effect shared bond owed connection own
      else effect_on_connection shared bond owed connection).connection.row attribute
      ≡ bits_at connection.row attribute
  other-own own kind =
      ap (λ (of : Row). bits_at of attribute)
      (either-own connection (live_effect shared bond owed connection own) (effect_on_connection shared bond owed connection)
      (is_live connection.mark)
      (live_steady row (λ of mark until steps said pending pdus reply reason. refl)
      shared bond owed connection own kind) refl)

  own-row : (own : Own) → is_for_all own ≡ false
      → (is_some (key_of connection) ≡ false → is_bits_told connection.handle attribute
      (own_told shared bond connection own (effect_of shared bond owed connection own)) ≡ false)
      → bits_at (effect_of shared bond owed connection own).connection.row attribute ≡ bits_at connection.row attribute
  own-row (Connected handle peer) kind untold = cc kind
  own-row Disconnected kind untold = cc kind
  own-row (Asks pdu) kind untold =
      asks-own shared bond owed connection pdu attribute (effect_of shared bond owed connection (Asks pdu))
      (is_live connection.mark) refl untold
  own-row own kind untold = other-own own refl

  either-bond : (one other : Effect) (test : Bool) → one.bond ≡ bond → other.bond ≡ bond
      → (if test then one else other).bond ≡ bond
  either-bond one other true first second = first
  either-bond one other false first second = second

  other-bond : (own : Own) → (live_effect shared bond owed connection own).bond ≡ bond
      → bits_at (if is_live connection.mark then live_effect shared bond owed connection own
      else effect_on_connection shared bond owed connection).bond attribute
      ≡ bits_at bond attribute
  other-bond own is =
      ap (λ (of : Row). bits_at of attribute)
      (either-bond (live_effect shared bond owed connection own) (effect_on_connection shared bond owed connection)
      (is_live connection.mark) is refl)

  own-bond : (own : Own)
      → (is_some (key_of connection) ≡ true → is_bits_told connection.handle attribute
      (own_told shared bond connection own (effect_of shared bond owed connection own)) ≡ false)
      → bits_at (effect_of shared bond owed connection own).bond attribute ≡ bits_at bond attribute
  unfolding live_effect
  own-bond (Connected handle peer) untold = refl
  own-bond Disconnected untold = refl
  own-bond (Asks pdu) untold =
      asks-bond shared bond owed connection pdu attribute (effect_of shared bond owed connection (Asks pdu))
      (is_live connection.mark) refl untold
  own-bond own untold = other-bond own refl

-- And each event.

of-own-row : (state : State) (at ordinal : Ordinal) (own : Own) (attribute : Handle) (same : Bool)
    → (ordinal == at) ≡ same
    → (same && is_for_all own) ≡ false
    → (let connection = state.connections ordinal in is_some (key_of connection) ≡ false
    → is_bits_told connection.handle attribute (event_told state (Of at own)) ≡ false)
    → (let connection = state.connections at in
    bits_at (if same then
    (effect_of state.shared (state.bonds connection.peer) (state.owed connection.peer) connection own).connection
    else state.connections ordinal).row attribute
    ≡ bits_at (state.connections ordinal).row attribute)
unfolding event_told
of-own-row state at ordinal own attribute true is kind untold =
    let here : ordinal ≡ at = eqb-true ordinal at is in
    let connection = state.connections at in
    own-row state.shared (state.bonds connection.peer) (state.owed connection.peer) connection attribute own kind
    (subst (λ (one : Ordinal). is_some (key_of (state.connections one)) ≡ false
    → is_bits_told (state.connections one).handle attribute (event_told state (Of at own))
    ≡ false) here untold)
    ∙ ap (λ (one : Ordinal). bits_at (state.connections one).row attribute) (sym here)
of-own-row state at ordinal own attribute false is kind untold = refl

change-own-row : (state : State) (event : Event) (ordinal : Ordinal) (attribute : Handle)
    → is_replacement event ≡ false → is_connection_or_disconnection ordinal event ≡ false
    → (let connection = state.connections ordinal in is_some (key_of connection) ≡ false
    → is_bits_told connection.handle attribute (event_told state event) ≡ false)
    → bits_at ((change_of state event).state.connections ordinal).row attribute
    ≡ bits_at (state.connections ordinal).row attribute
unfolding change_of
change-own-row state (Of at own) ordinal attribute kind stays untold =
    of-own-row state at ordinal own attribute (ordinal == at) refl stays untold
change-own-row state (Completed entries) ordinal attribute kind stays untold =
    ap (λ (of : Row). bits_at of attribute)
    (completed_steady row (λ connection done. refl) ordinal entries (state.connections ordinal))
change-own-row state (Credit allowed opcode status
    (Some init)) ordinal attribute kind stays untold = refl
change-own-row state (Credit allowed opcode status None) ordinal attribute kind stays untold = refl
change-own-row state (Replaced table) ordinal attribute kind stays untold = cc kind
change-own-row state event ordinal attribute kind stays untold = refl

pub tells_each_own_row : TellsEachOwnRow
tells_each_own_row state event ordinal attribute kind stays untold =
    ap (λ (of : Row). bits_at of attribute)
    (end_keeps row (λ connection pdus pending given reply reason. refl) state event ordinal)
    ∙ change-own-row state event ordinal attribute kind stays (λ unkeyed.
    none_of_the_event (tells_bits (state.connections ordinal).handle attribute) (λ handle other. refl) state event
    (untold unkeyed))

abbrev BondUntoldIn : State → Event → Peer → Handle → Type 0
BondUntoldIn state event peer attribute = (ordinal : Ordinal)
    → same_peer peer (state.connections ordinal).peer ≡ true
    → is_some (key_of (state.connections ordinal)) ≡ true
    → is_bits_told (state.connections ordinal).handle attribute (noticed state event) ≡ false

of-bond : (state : State) (at : Ordinal) (own : Own) (peer : Peer) (attribute : Handle)
    (same : Bool)
    → same_peer peer (state.connections at).peer ≡ same → BondUntoldIn state (Of at own) peer attribute
    → (let connection = state.connections at in
    bits_at (if same then
    (effect_of state.shared (state.bonds connection.peer) (state.owed connection.peer) connection own).bond
    else state.bonds peer) attribute
    ≡ bits_at (state.bonds peer) attribute)
unfolding event_told
of-bond state at own peer attribute true is untold =
    let connection = state.connections at in
    own-bond state.shared (state.bonds connection.peer) (state.owed connection.peer) connection attribute own
    (λ keyed. none_of_the_event (tells_bits connection.handle attribute) (λ handle other. refl) state (Of at own)
    (untold at is keyed))
    ∙ ap (λ (one : Peer). bits_at (state.bonds one) attribute) (sym (equal_peers peer connection.peer is))
of-bond state at own peer attribute false is untold = refl

pub tells_each_bond : TellsEachBond
unfolding step change_of
tells_each_bond state (Of at own) peer attribute kind untold =
    of-bond state at own peer attribute (same_peer peer (state.connections at).peer) refl untold
tells_each_bond state (Credit allowed opcode status (Some init)) peer attribute kind untold = refl
tells_each_bond state (Credit allowed opcode status None) peer attribute kind untold = refl
tells_each_bond state (Replaced table) peer attribute kind untold = cc kind
tells_each_bond state event peer attribute kind untold = refl
