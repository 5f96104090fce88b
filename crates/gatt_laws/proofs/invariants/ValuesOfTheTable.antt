-- Whatever is written, a table stands.
use Rattle.std.proofs.Common.{◌≡◌, ℕ, zero, suc, ◌+◌, ◌<◌, ◌≤◌, Bool, true, false, List, [], ◌∷◌, length, Option, Some, None, refl, sym, ap, ◌∙◌, arith}
use Rattle.std.specs.Prelude.{Result, nat_lt, nat_le, ◌==◌, ◌&&◌, if◌then◌else◌}
use Rattle.std.specs.Option.{option_map_or}
use Rattle.std.proofs.lemmas.Bool.{eqb-true, leb-true, ltb-false}
use Rattle.std.proofs.lemmas.List.{length-append, length-take, length-drop}
use Rattle.att_numbers.specs.Types.{Handle, Row, Code, Values}
use Rattle.att_numbers.specs.declared.error_code.TheConstants.{INVALID_OFFSET, INVALID_ATTRIBUTE_VALUE_LENGTH}
use Rattle.att_policy.specs.declared.policy.Access.{Access}
use Rattle.att_policy.specs.declared.policy.Rule.{Rule}
use Rattle.att_policy.specs.declared.policy.Rule.TheVariants.{HandleExists}
use Rattle.att_policy.specs.declared.standing.Standing.{Standing}
use Rattle.att_policy.specs.Policy.{first_broken_of}
use Rattle.att_policy.specs.Refusal.{Refusal}
use Rattle.att_attributes.specs.declared.attr.Attr.{Attr}
use Rattle.att_attributes.specs.Attributes.{attribute_at, guard_at, is_configuration_at, is_fixed_at, is_value_at, largest_at}
use Rattle.att_table.proofs.Values.{length_stored, stored_alike}
use Rattle.att_table.specs.Facts.{IsTable}
use Rattle.att_table.specs.Table.{Contents, value_at, with_value}
use Rattle.att_values.specs.Cell.{value_with_part}
use Rattle.att_writes.specs.Applied.{Stored, after_entry, after_entries, stored_in, stored_after, unless_entry_refused}
use Rattle.att_writes.specs.Entry.{Entry}
use Rattle.att_writes.specs.Fault.{configuration_fault, entry_fault, form_fault, room_for, unless_broken, value_fault}
use Rattle.gatt_conn.specs.Answer.{Writing, stored_after_writing}
use Rattle.std.specs.List.{find}
use Rattle.std.specs.Option.{option_map}
use Rattle.att_pdu.specs.Grammar.{request_of, is_due}
use Rattle.att_table.proofs.ServiceBefore.{of_a_changer}
use Rattle.att_table.specs.Changer.{is_changer}
use Rattle.gatt_conn.specs.Answer.{writing_asked}
use Rattle.gatt_laws.specs.machine.Event.{Ordinal, Own, Event, Connected, Disconnected, Asks, Of, Credit, Update, Replaced}
use Rattle.gatt_laws.specs.laws.Headline.{MayUse}
use Rattle.gatt_laws.proofs.runs.Always.{always}
use Rattle.gatt_laws.specs.machine.Calls.{has_length}
use Rattle.gatt_laws.specs.machine.Input.{run_at_start, run}
use Rattle.gatt_laws.specs.laws.Possible.{Possible}
use Rattle.gatt_laws.specs.laws.ValuesOfTheTable.{AlwaysHasATable}
use Rattle.gatt_laws.specs.machine.ConnectionState.{ConnectionState, is_live, row_in_force, connection_mtu, bearer_of, after_ending}
use Rattle.gatt_laws.specs.machine.SharedState.{SharedState}
use Rattle.gatt_laws.specs.machine.State.{State, own_change, all_changed, change_of, step}
use Rattle.gatt_laws.specs.machine.Effect.{effect_on_connection, served, is_full, live_effect, remote_user_terminated}
use Rattle.gatt_laws.proofs.policy.Headline.{written-may}
use Rattle.octet_io.specs.Number.{Octets}

abbrev table_with : List Attr → Values → Contents
table_with attributes values = record { attributes = attributes; values = values }

-- a value that fits is stored
stored-table : (table : Contents) (handle : Handle) (value : Octets) → IsTable table → 0 < handle → length value ≤ largest_at table.attributes handle
    → (is_fixed_at table.attributes handle ≡ true → length value ≡ largest_at table.attributes handle)
    → IsTable (table_with table.attributes (with_value table.values handle value))
stored-table table handle value is used fits exact = record {
  handles = is.handles;
  most = is.most;
  one_value_each = length_stored table.values handle value ∙ is.one_value_each;
  largest = is.largest;
  within = λ other other_used.
      stored_alike (λ (at : Handle) (x y : Octets). length x ≤ largest_at table.attributes at) table.values table.values handle value value refl used
      (λ at at_used. is.within at at_used) fits other other_used;
  fixed = λ other. fixed-at other;
  behind = is.behind;
  configurations = is.configurations;
  rows = is.rows;
  octets = is.octets;
}
  where
    fixed-at : (other : Handle) → is_fixed_at table.attributes other ≡ true → length (value_at (with_value table.values handle value) other)
        ≡ largest_at table.attributes other
    fixed-at zero none = cc none
    fixed-at (suc other) fixed =
        stored_alike (λ (at : Handle) (x y : Octets). is_fixed_at table.attributes at ≡ true → length x ≡ largest_at table.attributes at)
        table.values table.values handle value value refl used (λ at at_used. is.fixed at) exact (suc other) (omega arith) fixed

-- how long a value is once a part is written into it
kept-length : (value : Octets) (offset : ℕ) (part : Octets) → offset + length part ≤ length value → length (value_with_part true value offset part)
    ≡ length value
kept-length value offset part fits = simp (length-append, length-take, length-drop) (omega arith)

cut-length : (value : Octets) (offset : ℕ) (part : Octets) → offset ≤ length value → length (value_with_part false value offset part) ≡ offset + length part
cut-length value offset part fits = simp (length-append, length-take, length-drop) (omega arith)

-- an entry with no fault fits
record Fits (size offset count room : ℕ) : Type 0 where
  begins : offset ≤ size
  ends : offset + count ≤ room

fits-by : (size offset count room : ℕ) (low long : Code) (before behind : Bool) → nat_lt size offset ≡ before → nat_lt room (offset + count) ≡ behind
    → (if before then Some low else if behind then Some long else None) ≡ None → Fits size offset count room
fits-by size offset count room low long true behind is was none = cc none
fits-by size offset count room low long false true is was none = cc none
fits-by size offset count room low long false false is was none =
    record { begins = omega (arith, ltb-false size offset is); ends = omega (arith, ltb-false room (offset + count) was) }

no-fault : (broken : Option (Rule × Code)) (fault : Option Code) → unless_broken broken fault ≡ None → fault ≡ None
no-fault None fault none = none
no-fault (Some one) fault none = cc none

handle-used : (access : Access) (attributes : List Attr) (standing : Standing) (handle : Handle) → MayUse access attributes standing handle → 0 < handle
handle-used access attributes standing zero may = let exists = may HandleExists in cc exists
handle-used access attributes standing (suc handle) may = omega arith

-- so what an entry with no fault leaves is a table again
value-table : (table : Contents) (entry : Entry) (fixed : Bool) → is_fixed_at table.attributes entry.handle ≡ fixed → IsTable table → 0 < entry.handle
    → Fits (length (value_at table.values entry.handle)) entry.offset (length entry.part)
    (if fixed then length (value_at table.values entry.handle) else largest_at table.attributes entry.handle)
    → IsTable (table_with table.attributes (with_value table.values entry.handle
    (value_with_part fixed (value_at table.values entry.handle) entry.offset entry.part)))
value-table table entry true fixed is used fits =
    let value = value_at table.values entry.handle in
    let same : length (value_with_part true value entry.offset entry.part) ≡ largest_at table.attributes entry.handle =
    kept-length value entry.offset entry.part fits.ends ∙ is.fixed entry.handle fixed in
    stored-table table entry.handle (value_with_part true value entry.offset entry.part) is used (omega (arith, same)) (λ so. same)
value-table table entry false fixed is used fits =
    let value = value_at table.values entry.handle in
    let size : length (value_with_part false value entry.offset entry.part) ≡ entry.offset + length entry.part =
    cut-length value entry.offset entry.part fits.begins in
    stored-table table entry.handle (value_with_part false value entry.offset entry.part) is used (omega (arith, size, fits.ends)) (λ so. cc (so, fixed))

entry-table : (access : Access) (attributes : List Attr) (standing : Standing) (stored : Stored) (entry : Entry) (configuration : Bool)
    → is_configuration_at attributes entry.handle ≡ configuration → IsTable (table_with attributes stored.values)
    → entry_fault access attributes standing (length (value_at stored.values entry.handle)) entry ≡ None
    → IsTable (table_with attributes (after_entry attributes stored entry).values)
entry-table access attributes standing stored entry true configuration is none = rw configuration is
entry-table access attributes standing stored entry false configuration is none =
    let size = length (value_at stored.values entry.handle) in
    let may =
    written-may access attributes standing entry (first_broken_of access (guard_at attributes entry.handle) standing) (form_fault attributes size entry)
    refl none in
    let value_none : value_fault attributes size entry ≡ None =
    ap (λ (test : Bool). if test then configuration_fault attributes entry else value_fault attributes size entry) (sym configuration)
    ∙ no-fault (first_broken_of access (guard_at attributes entry.handle) standing) (form_fault attributes size entry) none in
    let room = room_for attributes entry.handle size in
    let fits : Fits size entry.offset (length entry.part) room =
    fits-by size entry.offset (length entry.part) room INVALID_OFFSET INVALID_ATTRIBUTE_VALUE_LENGTH
    (nat_lt size entry.offset) (nat_lt room (entry.offset + length entry.part)) refl refl value_none in
    rw configuration (value-table (table_with attributes stored.values) entry (is_fixed_at attributes entry.handle) refl is
    (handle-used access attributes standing entry.handle may) fits)

unless-table : (attributes : List Attr) (old : Stored) (entry : Entry) (code : Option Code) (rest : Result Stored Refusal)
    → IsTable (table_with attributes old.values)
    → (code ≡ None → IsTable (table_with attributes (stored_after old rest).values))
    → IsTable (table_with attributes (stored_after old (unless_entry_refused entry code rest)).values)
unless-table attributes old entry (Some code) rest before after = before
unless-table attributes old entry None rest before after = after refl

entries-table : (access : Access) (attributes : List Attr) (standing : Standing) (entries : List Entry) (old by : Stored)
    → IsTable (table_with attributes old.values) → IsTable (table_with attributes by.values)
    → IsTable (table_with attributes (stored_after old (after_entries access attributes standing by entries)).values)
unfolding after_entries
entries-table access attributes standing [] old by before is = is
entries-table access attributes standing (entry ∷ entries) old by before is =
    unless-table attributes old entry (entry_fault access attributes standing (length (value_at by.values entry.handle)) entry) _ before
    (λ none. entries-table access attributes standing entries old (after_entry attributes by entry) before
    (entry-table access attributes standing by entry (is_configuration_at attributes entry.handle) refl is none))

-- and so is what a request leaves
pub writing-table : (table : Contents) (row : Row) (standing : Standing) (writing : Option Writing) → IsTable table
    → IsTable (table_with table.attributes (stored_after_writing table row standing writing).values)
writing-table table row standing None is = is
writing-table table row standing (Some writing) is =
    entries-table writing.access table.attributes standing writing.entries (stored_in table row) (stored_in table row) is is

-- what an event of one connection leaves
turn-table : (shared : SharedState) (bond : Row) (owed : Bool) (connection : ConnectionState) (own : Own) (live : Bool) → IsTable shared.table
    → IsTable
    (table_with shared.table.attributes (if live then live_effect shared bond owed connection own else effect_on_connection shared bond owed connection).values)
unfolding live_effect
turn-table shared bond owed connection (Asks pdu) true is =
    request-table shared bond owed connection pdu (is_due (request_of pdu (connection_mtu shared connection)) && is_full shared connection) is
  where
    request-table : (shared : SharedState) (bond : Row) (owed : Bool) (connection : ConnectionState) (pdu : Octets) (full : Bool) → IsTable shared.table
        → IsTable (table_with shared.table.attributes (if full then effect_on_connection shared bond owed (after_ending connection remote_user_terminated)
        else served shared bond owed connection pdu (request_of pdu (connection_mtu shared connection))).values)
    request-table shared bond owed connection pdu true is = is
    request-table shared bond owed connection pdu false is =
        let conn = bearer_of shared connection in
        writing-table shared.table (row_in_force bond connection) conn.standing (writing_asked conn.queue (request_of pdu (connection_mtu shared connection)))
        is
turn-table shared bond owed connection own true is = is
turn-table shared bond owed connection own false is = is

own-table : (state : State) (ordinal : Ordinal) (own : Own) → IsTable state.shared.table → IsTable (own_change state ordinal own).state.shared.table
own-table state ordinal (Connected handle peer) is = is
own-table state ordinal Disconnected is = is
own-table state ordinal own is =
    let connection = state.connections ordinal in
    turn-table state.shared (state.bonds connection.peer) (state.owed connection.peer) connection own (is_live connection.mark) is

-- the changer of a table that replaces another has four octets, as what is written there
announced-table : (table : Contents) (changer : Option Attr) → find (is_changer table) table.attributes ≡ changer → IsTable table
    → IsTable
    (option_map_or (λ handle. record table { values = with_value table.values handle all_changed }) (option_map (λ (attr : Attr). attr.handle) changer) table)
announced-table table None found is = is
announced-table table (Some attr) found is =
    let changes = of_a_changer table attr is found in
    let exact : largest_at table.attributes attr.handle ≡ 4 =
    sym (is.fixed attr.handle changes.fixed)
    ∙ ap (λ (fixed : Bool). if fixed then length (value_at table.values attr.handle) else largest_at table.attributes attr.handle) (sym changes.fixed)
    ∙ changes.room in
    stored-table table attr.handle all_changed is (value-used table.attributes attr.handle changes.value) (omega (arith, exact)) (λ fixed. sym exact)
  where
    value-used : (attributes : List Attr) (handle : Handle) → is_value_at attributes handle ≡ true → 0 < handle
    value-used attributes zero value = cc value
    value-used attributes (suc handle) value = omega arith

-- each possible event leaves a table
has-largest : (attr : Attr) (count : ℕ) (fixed : Bool) → attr.fixed ≡ fixed → (if fixed then count == attr.largest else nat_le count attr.largest) ≡ true
    → (count ≤ attr.largest) × (attr.fixed ≡ true → count ≡ attr.largest)
has-largest attr count true is has = let same : count ≡ attr.largest = eqb-true count attr.largest has in (omega (arith, same), λ so. same)
has-largest attr count false is has = (leb-true count attr.largest has, λ so. cc (so, is))

updated-table : (table : Contents) (handle : Handle) (value : Octets) (attr : Attr) → attribute_at table.attributes handle ≡ Some attr
    → has_length attr (length value) ≡ true → IsTable table → IsTable (table_with table.attributes (with_value table.values handle value))
updated-table table zero value attr at has is = cc at
updated-table table (suc handle) value attr at has is =
    let fits = has-largest attr (length value) attr.fixed refl has in
    let largest : largest_at table.attributes (suc handle) ≡ attr.largest = ap (λ (found : Option Attr). option_map_or (λ (a : Attr). a.largest) found 0) at in
    let fixed : is_fixed_at table.attributes (suc handle) ≡ attr.fixed = ap (λ (found : Option Attr). option_map_or (λ (a : Attr). a.fixed) found false) at in
    stored-table table (suc handle) value is (omega arith) (omega (arith, fits.0, largest)) (λ so. fits.1 (sym fixed ∙ so) ∙ sym largest)

change-table : (state : State) (event : Event) → Possible IsTable state event → IsTable state.shared.table → IsTable (change_of state event).state.shared.table
unfolding change_of
change-table state (Of ordinal own) fits is = own-table state ordinal own is
change-table state (Credit allowed opcode status (Some init)) fits is = is
change-table state (Credit allowed opcode status None) fits is = is
change-table state (Update handle value) fits is = updated-table state.shared.table handle value fits.attr fits.there fits.fits is
change-table state (Replaced table) fits is = announced-table table (find (is_changer table) table.attributes) refl fits
change-table state event fits is = is

step-table : (state : State) (event : Event) → Possible IsTable state event → IsTable state.shared.table → IsTable (step state event).shared.table
unfolding step
step-table state event fits is = change-table state event fits is

pub always_has_a_table : AlwaysHasATable
unfolding run
always_has_a_table start input is tables =
    always IsTable (λ (state : State). IsTable state.shared.table) step-table (run_at_start start) input tables is
