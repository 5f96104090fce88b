-- What is not told has not changed.
use Rattle.std.proofs.Common.{◌≡◌, ℕ, zero, suc, ◌<◌, Bool, true, false, List, [], ◌∷◌, map, Option}
use Rattle.std.proofs.Common.{Some, None}
use Rattle.std.proofs.Common.{Result, Ok, Err, refl, sym, ap, ◌∙◌, arith}
use Rattle.std.specs.Prelude.{◌==◌, ◌&&◌, ◌++◌, not, if◌then◌else◌}
use Rattle.std.specs.List.{list_any, filter}
use Rattle.std.proofs.lemmas.Bool.{eqb-true, or_from}
use Rattle.std.proofs.lemmas.List.Folds.{list_any-append}
use Rattle.att_numbers.specs.Types.{Handle, Row, Values}
use Rattle.att_attributes.specs.declared.attr.Attr.{Attr}
use Rattle.att_attributes.specs.Attributes.{attribute_at, is_configuration_at}
use Rattle.att_pdu.specs.Grammar.{request_of, is_due}
use Rattle.att_policy.specs.declared.standing.Standing.{Standing}
use Rattle.att_policy.specs.Refusal.{Refusal}
use Rattle.att_table.specs.ConfigRow.{bits_at}
use Rattle.att_table.specs.Table.{Contents, value_at}
use Rattle.att_writes.proofs.Untouched.{keeps_others}
use Rattle.att_writes.specs.Applied.{Stored, stored_in, applied_to, stored_after}
use Rattle.att_writes.specs.Entry.{Entry}
use Rattle.att_writes.specs.Queue.{once_each, touched_by}
use Rattle.att_writes.specs.SameBut.{is_touched}
use Rattle.gatt_conn.specs.Answer.{Question, Writing, writing_asked, stored_after_writing, handles_after}
use Rattle.gatt_conn.specs.Answer.{handles_by, is_confirmation}
use Rattle.gatt_laws.proofs.notices.Skips.{none_of_the_event}
use Rattle.gatt_laws.proofs.policy.Stores.{leaves-configurations, other-value}
use Rattle.gatt_laws.specs.machine.Event.{Own, Event, Connected, Disconnected, Asks}
use Rattle.gatt_laws.specs.machine.Event.{Of, Credit, Update}
use Rattle.gatt_laws.specs.machine.Event.{Replaced}
use Rattle.gatt_laws.specs.machine.Notice.{Notice, Configured, Written, write_told, end_told, live_told}
use Rattle.gatt_laws.specs.machine.Notice.{confirmation_told, own_told, event_told}
use Rattle.gatt_laws.specs.laws.Notices.{tells_value, is_value_told, sets_value, TellsEachValue}
use Rattle.gatt_laws.specs.machine.ConnectionState.{ConnectionState, is_live, connection_mtu, row_in_force, bearer_of, after_ending}
use Rattle.gatt_laws.specs.laws.Possible.{Possible}
use Rattle.gatt_laws.specs.machine.SharedState.{SharedState}
use Rattle.gatt_laws.specs.machine.State.{State, step, change_of}
use Rattle.gatt_laws.specs.machine.Effect.{Effect, effect_on_connection, effect_of, live_effect, served, is_full, remote_user_terminated, handles_written}
use Rattle.octet_io.proofs.Choices.{or_false_left, or_false_right}
use Rattle.octet_io.specs.Number.{Octets}

-- Handles that were written, each once.

-- whether a handle is among some
abbrev pub is_among : Handle → List Handle → Bool
is_among attribute handles = list_any (λ other. other == attribute) handles

kept-none : (attribute handle other : Handle) (rest : List Handle) (same : Bool)
    → (other == handle) ≡ same
    → (handle == attribute) ≡ false
    → is_among attribute (if not same then other ∷ filter (λ one. not (one == handle)) rest
    else filter (λ one. not (one == handle)) rest) ≡ false
    → (is_among attribute (filter (λ one. not (one == handle)) rest) ≡ false
    → is_among attribute rest ≡ false)
    → is_among attribute (other ∷ rest) ≡ false
kept-none attribute handle other rest true is differs none later =
    let equal : other ≡ handle = eqb-true other handle is in
    or_from (other == attribute) _ (ap (λ (one : Handle). one == attribute) equal ∙ differs)
    (later none)
kept-none attribute handle other rest false is differs none later =
    or_from (other == attribute) _ (or_false_left (other == attribute) _ none)
    (later (or_false_right (other == attribute) _ none))

none-left : (attribute handle : Handle) (handles : List Handle) → (handle == attribute) ≡ false
    → is_among attribute (filter (λ one. not (one == handle)) handles) ≡ false
    → is_among attribute handles ≡ false
none-left attribute handle [] differs none = refl
none-left attribute handle (other ∷ rest) differs none =
    kept-none attribute handle other rest (other == handle) refl differs none
    (none-left attribute handle rest differs)

pub none-once : (attribute : Handle) (handles : List Handle)
    → is_among attribute (once_each handles) ≡ false
    → is_among attribute handles ≡ false
none-once attribute [] none = refl
none-once attribute (handle ∷ rest) none =
    let differs : (handle == attribute) ≡ false = or_false_left (handle == attribute) _ none in
    or_from (handle == attribute) _ differs
    (none-once attribute rest
    (none-left attribute handle (once_each rest) differs (or_false_right (handle == attribute) _ none)))

pub none-touched : (attribute : Handle) (entries : List Entry)
    → is_among attribute (map (λ (entry : Entry). entry.handle) entries) ≡ false
    → is_touched entries attribute ≡ false
none-touched attribute [] none = refl
none-touched attribute (entry ∷ rest) none =
    or_from (entry.handle == attribute) _ (or_false_left (entry.handle == attribute) _ none)
    (none-touched attribute rest (or_false_right (entry.handle == attribute) _ none))

-- A value that is written is told.

told-next : (attributes : List Attr) (row : Row) (handle : ℕ) (attribute other : Handle)
    (configuration : Bool) → is_configuration_at attributes other ≡ configuration
    → is_configuration_at attributes attribute ≡ false
    → tells_value attribute (write_told attributes row handle other) ≡ false
    → (other == attribute) ≡ false
told-next attributes row handle attribute other true is value none =
    elim (other == attribute) as (λ same. (other == attribute) ≡ same → same ≡ false) [
      | true ↦ λ same. absurd (cc (eqb-true other attribute same, is, value))
      | false ↦ λ differs. refl
    ] refl
told-next attributes row handle attribute other false is value none =
    ap (λ (of : Bool). tells_value attribute
    (if of then Configured handle other (bits_at row other) else Written handle other)) (sym is)
    ∙ none

pub value_not_written : (attributes : List Attr) (row : Row) (handle : ℕ) (attribute : Handle)
    (handles : List Handle) → is_configuration_at attributes attribute ≡ false
    → is_value_told attribute (map (write_told attributes row handle) handles) ≡ false
    → is_among attribute handles ≡ false
value_not_written attributes row handle attribute [] value none = refl
value_not_written attributes row handle attribute (other ∷ rest) value none =
    let notice : Notice = write_told attributes row handle other in
    or_from (other == attribute) _
    (told-next attributes row handle attribute other
    (is_configuration_at attributes other) refl value
    (or_false_left (tells_value attribute notice) _ none))
    (value_not_written attributes row handle attribute rest value
    (or_false_right (tells_value attribute notice) _ none))

-- what is written leaves a value that is not told
module _ (table : Contents) (row new_row : Row) (standing : Standing) (handle : ℕ) where
  abbrev Untold : Handle → List Handle → Type 0
  Untold attribute handles = is_value_told attribute
      (map (write_told table.attributes new_row handle) handles) ≡ false

  value-by-kind : (writing : Writing) (new : Stored) (attribute : Handle) (configuration : Bool)
      → is_configuration_at table.attributes attribute ≡ configuration
      → applied_to writing.access table row standing writing.entries ≡ Ok new → 0 < attribute
      → Untold attribute (touched_by writing.entries (Ok new))
      → value_at new.values attribute ≡ value_at table.values attribute
  value-by-kind writing new attribute true of is used none =
      leaves-configurations writing.access table.attributes standing writing.entries
      (stored_in table row) new is attribute of
  value-by-kind writing new attribute false of is used none =
      (keeps_others writing.access table.attributes standing writing.entries
      (stored_in table row) new is).values attribute used
      (none-touched attribute writing.entries (none-once attribute _
      (value_not_written table.attributes new_row handle attribute _ of none)))

  value-if : (writing : Writing) (attribute : Handle) (result : Result Stored Refusal)
      → applied_to writing.access table row standing writing.entries ≡ result → 0 < attribute
      → Untold attribute (touched_by writing.entries result)
      → value_at (stored_after (stored_in table row) result).values attribute
      ≡ value_at table.values attribute
  value-if writing attribute (Ok new) is used none =
      value-by-kind writing new attribute
      (is_configuration_at table.attributes attribute) refl is used none
  value-if writing attribute (Err refusal) is used none = refl

  value-kept : (writing : Option Writing) (attribute : Handle) → 0 < attribute
      → Untold attribute (handles_after table row standing writing)
      → value_at (stored_after_writing table row standing writing).values attribute
      ≡ value_at table.values attribute
  value-kept None attribute used none = refl
  value-kept (Some writing) attribute used none =
      value-if writing attribute
      (applied_to writing.access table row standing writing.entries) refl used none

-- One connection.

abbrev UntoldBy : Handle → SharedState → Row → Bool → ConnectionState → Own → Type 0
UntoldBy attribute shared bond owed connection own =
    is_value_told attribute (own_told shared bond connection own (effect_of shared bond owed connection own)) ≡ false

none-first : (attribute : Handle) (one other : List Notice)
    → is_value_told attribute (one ++ other) ≡ false
    → is_value_told attribute one ≡ false
none-first attribute one other none =
    or_false_left (is_value_told attribute one) (is_value_told attribute other)
    (sym (list_any-append (tells_value attribute) one other) ∙ none)

-- where there is no room for the answer, nothing is written
request-values : (shared : SharedState) (bond new_row : Row) (owed : Bool) (connection : ConnectionState) (pdu : Octets)
    (attribute : Handle) (full : Bool) → 0 < attribute
    → is_value_told attribute (map (write_told shared.table.attributes new_row connection.handle)
    (if not full then handles_by shared.table (row_in_force bond connection) (bearer_of shared connection)
    (request_of pdu (connection_mtu shared connection)) else [])) ≡ false
    → value_at (if full then effect_on_connection shared bond owed (after_ending connection remote_user_terminated)
    else served shared bond owed connection pdu (request_of pdu (connection_mtu shared connection))).values attribute
    ≡ value_at shared.table.values attribute
request-values shared bond new_row owed connection pdu attribute true used none = refl
request-values shared bond new_row owed connection pdu attribute false used none =
    let conn = bearer_of shared connection in
    let asked : Question = request_of pdu conn.mtu in
    value-kept shared.table (row_in_force bond connection) new_row conn.standing connection.handle
    (writing_asked conn.queue asked) attribute used none

asks-values : (shared : SharedState) (bond : Row) (owed : Bool) (connection : ConnectionState) (pdu : Octets)
    (attribute : Handle)
    (live : Bool) → is_live connection.mark ≡ live → 0 < attribute
    → is_value_told attribute
    (if live then live_told shared bond connection (Asks pdu) (effect_of shared bond owed connection (Asks pdu))
    ++ end_told connection.handle (effect_of shared bond owed connection (Asks pdu)).connection else []) ≡ false
    → value_at (if live then live_effect shared bond owed connection (Asks pdu)
    else effect_on_connection shared bond owed connection).values attribute
    ≡ value_at shared.table.values attribute
unfolding live_effect
asks-values shared bond owed connection pdu attribute true is used none =
    let asked : Question = request_of pdu (connection_mtu shared connection) in
    let full : Bool = is_due asked && is_full shared connection in
    let effect : Effect = effect_of shared bond owed connection (Asks pdu) in
    let new_row : Row = row_in_force effect.bond effect.connection in
    let tells : Handle → Notice = write_told shared.table.attributes new_row connection.handle in
    let wrote : List Notice = map tells (handles_written shared bond connection (Asks pdu)) in
    let confirmed : List Notice =
    if is_confirmation pdu then confirmation_told connection.handle connection.pending.unconfirmed else [] in
    let before_end = none-first attribute (wrote ++ confirmed)
    (end_told connection.handle effect.connection) none in
    request-values shared bond new_row owed connection pdu attribute full used
    (ap (λ (lives : Bool). is_value_told attribute (map tells
    (if lives && not full then handles_by shared.table (row_in_force bond connection)
    (bearer_of shared connection) asked
    else []))) (sym is)
    ∙ none-first attribute wrote confirmed before_end)
asks-values shared bond owed connection pdu attribute false is used none = refl

-- all else that happens to it leaves the values
turn-either : (values : Values) (one other : Effect) (test : Bool) → one.values ≡ values
    → other.values ≡ values → (if test then one else other).values ≡ values
turn-either values one other true first second = first
turn-either values one other false first second = second

abbrev Leaves : SharedState → Row → Bool → ConnectionState → Own → Type 0
Leaves shared bond owed connection own =
    (if is_live connection.mark then live_effect shared bond owed connection own
    else effect_on_connection shared bond owed connection).values
    ≡ shared.table.values

leaves : (shared : SharedState) (bond : Row) (owed : Bool) (connection : ConnectionState) (own : Own)
    → (live_effect shared bond owed connection own).values ≡ shared.table.values
    → Leaves shared bond owed connection own
leaves shared bond owed connection own is =
    turn-either shared.table.values (live_effect shared bond owed connection own) (effect_on_connection shared bond owed connection)
    (is_live connection.mark) is refl

own-values : (shared : SharedState) (bond : Row) (owed : Bool) (connection : ConnectionState) (own : Own) (attribute : Handle)
    → 0 < attribute → UntoldBy attribute shared bond owed connection own
    → value_at (effect_of shared bond owed connection own).values attribute
    ≡ value_at shared.table.values attribute
unfolding live_effect
own-values shared bond owed connection (Connected handle peer) attribute used none = refl
own-values shared bond owed connection Disconnected attribute used none = refl
own-values shared bond owed connection (Asks pdu) attribute used none =
    asks-values shared bond owed connection pdu attribute (is_live connection.mark) refl used none
own-values shared bond owed connection own attribute used none =
    ap (λ (of : Values). value_at of attribute)
    (leaves shared bond owed connection own refl)

-- And each event.

used-there : (attributes : List Attr) (handle : Handle) (attr : Attr)
    → attribute_at attributes handle ≡ Some attr
    → 0 < handle
used-there attributes zero attr there = cc there
used-there attributes (suc handle) attr there = omega arith

change-values : (state : State) (event : Event) (attribute : Handle) → 0 < attribute
    → Possible (λ table. Unit) state event → sets_value attribute event ≡ false
    → is_value_told attribute (event_told state event) ≡ false
    → value_at (change_of state event).state.shared.table.values attribute
    ≡ value_at state.shared.table.values attribute
unfolding change_of event_told
change-values state (Of ordinal own) attribute used possible sets none =
    let connection : ConnectionState = state.connections ordinal in
    own-values state.shared (state.bonds connection.peer)
    (state.owed connection.peer) connection own attribute used none
change-values state (Credit allowed opcode status
    (Some init)) attribute used possible sets none = refl
change-values state (Credit allowed opcode status None) attribute used possible sets none = refl
change-values state (Update handle value) attribute used possible sets none =
    other-value state.shared.table.values handle attribute value
    (used-there state.shared.table.attributes handle possible.attr possible.there) used sets
change-values state (Replaced table) attribute used possible sets none = cc sets
change-values state event attribute used possible sets none = refl

pub tells_each_value : TellsEachValue
unfolding step
tells_each_value state event attribute used possible sets none =
    change-values state event attribute used possible sets
    (none_of_the_event (tells_value attribute) (λ handle other. refl) state event none)
