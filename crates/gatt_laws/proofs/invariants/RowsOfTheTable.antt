-- Each event leaves rows of the table that then stands.
use Rattle.std.proofs.Common.{◌≡◌, ℕ, ◌+◌, Bool, true, false, List, [], ◌∷◌, length, Option, Some, None, refl, sym, subst}
use Rattle.std.specs.Prelude.{Result, is_some, nat_lt, ◌==◌, ◌&&◌, if◌then◌else◌}
use Rattle.std.proofs.lemmas.List.Elements.{All-nil}
use Rattle.std.specs.Option.{option_map_or}
use Rattle.att_numbers.specs.Types.{Handle, Row, Code}
use Rattle.att_policy.specs.declared.policy.Access.{Access}
use Rattle.att_policy.specs.declared.standing.KeyFacts.{KeyFacts}
use Rattle.att_policy.specs.declared.standing.Standing.{Standing}
use Rattle.att_policy.specs.Refusal.{Refusal}
use Rattle.att_attributes.specs.declared.attr.Attr.{Attr}
use Rattle.att_attributes.specs.Attributes.{is_configuration_at}
use Rattle.att_table.proofs.Configurations.{row_of}
use Rattle.att_table.proofs.Kept.{row_of_kept}
use Rattle.att_table.specs.ConfigRow.{kept_row, IsRowOf}
use Rattle.att_table.specs.Table.{Contents, value_at, with_value}
use Rattle.att_writes.specs.Applied.{Stored, first_octet, after_entry, after_entries, stored_in, stored_after, unless_entry_refused}
use Rattle.att_writes.specs.Entry.{Entry}
use Rattle.att_writes.specs.Fault.{entry_fault}
use Rattle.gatt_conn.specs.Answer.{Question, Writing, stored_after_writing, stored_by, writing_asked}
use Rattle.att_pdu.specs.Grammar.{request_of, is_due}
use Rattle.att_table.specs.Changer.{changer_of}
use Rattle.gatt_laws.specs.machine.Controller.{command_of_init, count_before, without_command}
use Rattle.gatt_laws.specs.machine.Event.{Ordinal, Own, Event, Connected, Disconnected, Encrypted, Refreshed, Asks, OtherChannel, Of, Completed, Credit, Replaced, Nothing}
use Rattle.gatt_laws.specs.machine.Heard.{after_hearing}
use Rattle.gatt_laws.proofs.runs.Always.{always, any_tables}
use Rattle.gatt_laws.specs.machine.Input.{run_at_start, run}
use Rattle.gatt_laws.specs.machine.Start.{Start, before_first_command}
use Rattle.gatt_laws.specs.machine.ConnectionState.{ConnectionState, no_connection, fresh_connection, is_live, is_there, key_of, row_in_force, connection_mtu, bearer_of, with_pdus, after_ending}
use Rattle.gatt_laws.specs.machine.SharedState.{SharedState, Bonds}
use Rattle.gatt_laws.specs.machine.State.{State, Change, own_change, with_packets_completed, after_packets_completed, after_command_complete, all_changed, announced, after_replaced, change_of, finished, connections_finished, step}
use Rattle.gatt_laws.specs.machine.Effect.{Effect, effect_on_connection, served, is_full, after_other_channel, channel_answer, with_step, lost_encryption, live_effect, effect_of, remote_user_terminated, authentication_failure}
use Rattle.le_hci.specs.declared.init.Init.{Init}
use Rattle.le_hci.specs.declared.peer.Peer.{Peer}
use Rattle.le_security.specs.Entry.{same_peer}
use Rattle.le_security.specs.Link.{Step, Encryption, Refresh}
use Rattle.octet_io.specs.Number.{Octets}
use Rattle.gatt_laws.specs.laws.RowsOfTheTable.{HasRowsOfItsTable, KeepsRowsOfItsTable, AlwaysHasRowsOfItsTable}

-- what an entry writes, and what entries write
entry-row : (attributes : List Attr) (stored : Stored) (entry : Entry) (configuration : Bool) → is_configuration_at attributes entry.handle ≡ configuration
    → IsRowOf attributes stored.row → IsRowOf attributes (after_entry attributes stored entry).row
entry-row attributes stored entry true is row = rw is (row_of attributes stored.row entry.handle (first_octet entry.part) is row)
entry-row attributes stored entry false is row = rw is row

unless-row : (attributes : List Attr) (old : Stored) (entry : Entry) (code : Option Code) (rest : Result Stored Refusal) → IsRowOf attributes old.row
    → IsRowOf attributes (stored_after old rest).row → IsRowOf attributes (stored_after old (unless_entry_refused entry code rest)).row
unless-row attributes old entry (Some code) rest before after = before
unless-row attributes old entry None rest before after = after

-- where all goes back if one is refused
entries-row : (access : Access) (attributes : List Attr) (standing : Standing) (entries : List Entry) (old by : Stored)
    → IsRowOf attributes old.row → IsRowOf attributes by.row → IsRowOf attributes (stored_after old (after_entries access attributes standing by entries)).row
unfolding after_entries
entries-row access attributes standing [] old by before row = row
entries-row access attributes standing (entry ∷ entries) old by before row =
    unless-row attributes old entry (entry_fault access attributes standing (length (value_at by.values entry.handle)) entry) _ before
    (entries-row access attributes standing entries old (after_entry attributes by entry) before
    (entry-row attributes by entry (is_configuration_at attributes entry.handle) refl row))

pub written_row : (table : Contents) (row : Row) (standing : Standing) (writing : Option Writing) → IsRowOf table.attributes row
    → IsRowOf table.attributes (stored_after_writing table row standing writing).row
written_row table row standing None is = is
written_row table row standing (Some writing) is =
    entries-row writing.access table.attributes standing writing.entries (stored_in table row) (stored_in table row) is is

-- of one connection: its row and the row of its peer's bond
record AreRows (attributes : List Attr) (row : Row) (connection : ConnectionState) : Type 0 where
  bond : IsRowOf attributes row
  own : IsRowOf attributes connection.row

no-row : (attributes : List Attr) → IsRowOf attributes []
no-row attributes = All-nil (λ (entry : Handle × ℕ). is_configuration_at attributes entry.0 ≡ true)

row-in-force : (attributes : List Attr) (bond : Row) (connection : ConnectionState) (key : Option KeyFacts) → AreRows attributes bond connection
    → IsRowOf attributes (if is_some key then bond else connection.row)
row-in-force attributes bond connection (Some key) rows = rows.bond
row-in-force attributes bond connection None rows = rows.own

written-rows : (attributes : List Attr) (bond new : Row) (connection : ConnectionState) (key : Option KeyFacts) → AreRows attributes bond connection
    → IsRowOf attributes new
    → IsRowOf attributes (if is_some key then new else bond) × IsRowOf attributes (if is_some key then connection.row else new)
written-rows attributes bond new connection (Some key) rows is = (is, rows.own)
written-rows attributes bond new connection None rows is = (rows.bond, is)

abbrev TurnRows : List Attr → Effect → Type 0
TurnRows attributes effect = AreRows attributes effect.bond effect.connection

served-rows : (shared : SharedState) (bond : Row) (owed : Bool) (connection : ConnectionState) (pdu : Octets) (asked : Question)
    → AreRows shared.table.attributes bond connection
    → TurnRows shared.table.attributes (served shared bond owed connection pdu asked)
served-rows shared bond owed connection pdu asked rows =
    let conn = bearer_of shared connection in
    let row = row_in_force bond connection in
    let new =
    written_row shared.table row conn.standing (writing_asked conn.queue asked)
    (row-in-force shared.table.attributes bond connection (key_of connection) rows) in
    let both = written-rows shared.table.attributes bond (stored_by shared.table row conn asked).row connection (key_of connection) rows new in
    record { bond = both.0; own = both.1 }

request-rows : (shared : SharedState) (bond : Row) (owed : Bool) (connection : ConnectionState) (pdu : Octets) (full : Bool)
    → AreRows shared.table.attributes bond connection
    → TurnRows shared.table.attributes (if full then effect_on_connection shared bond owed (after_ending connection remote_user_terminated)
    else served shared bond owed connection pdu (request_of pdu (connection_mtu shared connection)))
request-rows shared bond owed connection pdu true rows = record { bond = rows.bond; own = rows.own }
request-rows shared bond owed connection pdu false rows = served-rows shared bond owed connection pdu (request_of pdu (connection_mtu shared connection)) rows

channel-rows : (shared : SharedState) (bond : Row) (owed : Bool) (connection : ConnectionState) (channel : ℕ) (answer : Option Octets)
    → AreRows shared.table.attributes bond connection
    → TurnRows shared.table.attributes (effect_on_connection shared bond owed (after_other_channel shared connection channel answer))
channel-rows shared bond owed connection channel None rows = record { bond = rows.bond; own = rows.own }
channel-rows shared bond owed connection channel (Some answer) rows =
    elim (is_full shared connection) as
    (λ full. AreRows shared.table.attributes bond (if full then after_ending connection remote_user_terminated
    else with_pdus connection ((channel, answer) ∷ []))) [
      | true ↦ record { bond = rows.bond; own = rows.own }
      | false ↦ record { bond = rows.bond; own = rows.own }
    ]

link-rows : (shared : SharedState) (bond : Row) (owed : Bool) (connection : ConnectionState) (step : Step) (lost : Bool)
    → AreRows shared.table.attributes bond connection
    → AreRows shared.table.attributes bond (if lost then after_ending (with_step connection step) authentication_failure else with_step connection step)
link-rows shared bond owed connection step true rows = record { bond = rows.bond; own = rows.own }
link-rows shared bond owed connection step false rows = record { bond = rows.bond; own = rows.own }

live-rows : (shared : SharedState) (bond : Row) (owed : Bool) (connection : ConnectionState) (own : Own) → AreRows shared.table.attributes bond connection
    → TurnRows shared.table.attributes (live_effect shared bond owed connection own)
unfolding live_effect
live-rows shared bond owed connection (Asks pdu) rows =
    request-rows shared bond owed connection pdu (is_due (request_of pdu (connection_mtu shared connection)) && is_full shared connection) rows
live-rows shared bond owed connection (OtherChannel channel payload) rows =
    channel-rows shared bond owed connection channel (channel_answer channel payload) rows
live-rows shared bond owed connection (Encrypted status enabled) rows =
    link-rows shared bond owed connection (Encryption status enabled)
    (lost_encryption (key_of connection) (key_of (with_step connection (Encryption status enabled)))) rows
live-rows shared bond owed connection (Refreshed status) rows =
    link-rows shared bond owed connection (Refresh status) (lost_encryption (key_of connection) (key_of (with_step connection (Refresh status)))) rows
live-rows shared bond owed connection (Connected handle peer) rows = rows
live-rows shared bond owed connection Disconnected rows = rows
live-rows shared bond owed connection own' rows = record { bond = rows.bond; own = rows.own }

if-live : (shared : SharedState) (bond : Row) (owed : Bool) (connection : ConnectionState) (own : Own) (live : Bool)
    → AreRows shared.table.attributes bond connection
    → TurnRows shared.table.attributes (if live then live_effect shared bond owed connection own else effect_on_connection shared bond owed connection)
if-live shared bond owed connection own true rows = live-rows shared bond owed connection own rows
if-live shared bond owed connection own false rows = rows

come-rows : (shared : SharedState) (bond : Row) (connection : ConnectionState) (handle : ℕ) (peer : Peer) (there : Bool)
    → AreRows shared.table.attributes bond connection
    → AreRows shared.table.attributes bond (if there then connection else fresh_connection handle peer)
come-rows shared bond connection handle peer true rows = rows
come-rows shared bond connection handle peer false rows = record { bond = rows.bond; own = no-row shared.table.attributes }

turn-rows : (shared : SharedState) (bond : Row) (owed : Bool) (connection : ConnectionState) (own : Own) → AreRows shared.table.attributes bond connection
    → TurnRows shared.table.attributes (effect_of shared bond owed connection own)
turn-rows shared bond owed connection (Connected handle peer) rows = come-rows shared bond connection handle peer (is_there connection.mark) rows
turn-rows shared bond owed connection Disconnected rows = record { bond = rows.bond; own = no-row shared.table.attributes }
turn-rows shared bond owed connection own rows = if-live shared bond owed connection own (is_live connection.mark) rows

-- what an event changes
pub either_row : (attributes : List Attr) (test : Bool) (one other : Row) → IsRowOf attributes one → IsRowOf attributes other
    → IsRowOf attributes (if test then one else other)
either_row attributes true one other first second = first
either_row attributes false one other first second = second

either-part : (attributes : List Attr) (test : Bool) (one other : ConnectionState) → IsRowOf attributes one.row → IsRowOf attributes other.row
    → IsRowOf attributes (if test then one else other).row
either-part attributes true one other first second = first
either-part attributes false one other first second = second

own-rows : (state : State) (ordinal : Ordinal) (own : Own) → HasRowsOfItsTable state → HasRowsOfItsTable (own_change state ordinal own).state
own-rows state ordinal own rows =
    let connection = state.connections ordinal in
    let attributes = state.shared.table.attributes in
    let effect = effect_of state.shared (state.bonds connection.peer) (state.owed connection.peer) connection own in
    let after : AreRows attributes effect.bond effect.connection =
    turn-rows state.shared (state.bonds connection.peer) (state.owed connection.peer) connection own
    (record { bond = rows.bonds connection.peer; own = rows.own ordinal }) in
    record {
      bonds = λ peer. either_row attributes (same_peer peer connection.peer) effect.bond (state.bonds peer) after.bond (rows.bonds peer);
      own = λ other. either-part attributes (other == ordinal) effect.connection (state.connections other) after.own (rows.own other);
    }

completed-row : (attributes : List Attr) (ordinal : Ordinal) (entries : List (Ordinal × ℕ)) (connection : ConnectionState) → IsRowOf attributes connection.row
    → IsRowOf attributes (after_packets_completed ordinal entries connection).row
completed-row attributes ordinal [] connection row = row
completed-row attributes ordinal (entry ∷ entries) connection row =
    completed-row attributes ordinal entries (if entry.0 == ordinal then with_packets_completed connection entry.1 else connection)
    (either-part attributes (entry.0 == ordinal) (with_packets_completed connection entry.1) connection row row)

credit-rows : (state : State) (allowed opcode : ℕ) (status : Option ℕ) (following : Option Init) → HasRowsOfItsTable state
    → HasRowsOfItsTable (after_command_complete state allowed opcode status following)
credit-rows state allowed opcode status (Some init) rows = record { bonds = rows.bonds; own = rows.own }
credit-rows state allowed opcode status None rows = record { bonds = rows.bonds; own = rows.own }

announced-same : (table : Contents) (changer : Option Handle)
    → (option_map_or (λ handle. record table { values = with_value table.values handle all_changed }) changer table).attributes ≡ table.attributes
announced-same table (Some handle) = refl
announced-same table None = refl

replaced-rows : (state : State) (table : Contents) → HasRowsOfItsTable (after_replaced state table)
replaced-rows state table =
    let old = state.shared.table.attributes in
    let attributes : (announced table).attributes ≡ table.attributes = announced-same table (changer_of table) in
    record {
      bonds = λ peer. subst (λ (new : List Attr). IsRowOf new (kept_row old table.attributes (state.bonds peer))) (sym attributes)
          (row_of_kept old table.attributes (state.bonds peer));
      own = λ ordinal. subst (λ (new : List Attr). IsRowOf new (kept_row old table.attributes (state.connections ordinal).row)) (sym attributes)
          (row_of_kept old table.attributes (state.connections ordinal).row);
    }

pub change_rows : (state : State) (event : Event) → HasRowsOfItsTable state → HasRowsOfItsTable (change_of state event).state
unfolding change_of
change_rows state (Of ordinal own) rows = own-rows state ordinal own rows
change_rows state (Completed entries) rows =
    record { bonds = rows.bonds; own = λ ordinal. completed-row state.shared.table.attributes ordinal entries (state.connections ordinal) (rows.own ordinal) }
change_rows state (Credit allowed opcode status following) rows = credit-rows state allowed opcode status following rows
change_rows state (Replaced table) rows = replaced-rows state table
change_rows state Nothing rows = rows
change_rows state event rows = record { bonds = rows.bonds; own = rows.own }

-- the end of an event and the commands that go out leave each row
finished-row : (attributes : List Attr) (shared : SharedState) (bonds : Bonds) (handles : List Handle) (connection : ConnectionState)
    → IsRowOf attributes connection.row
    → IsRowOf attributes (finished shared bonds handles connection).row
unfolding after_hearing
finished-row attributes shared bonds handles connection row =
    either-part attributes (is_live connection.mark) _ _ row row

sent-row : (attributes : List Attr) (connection : ConnectionState) (sent : Bool) → IsRowOf attributes connection.row
    → IsRowOf attributes (if sent then without_command connection else connection).row
sent-row attributes connection true row =
    either-part attributes (is_some connection.reason) (record connection { reason = None }) (record connection { reply = None }) row row
sent-row attributes connection false row = row

pub keeps_rows_of_its_table : KeepsRowsOfItsTable
unfolding step
keeps_rows_of_its_table state event rows =
    let change : Change = change_of state event in
    let after : HasRowsOfItsTable change.state = change_rows state event rows in
    let attributes = change.state.shared.table.attributes in
    record {
      bonds = after.bonds;
      own = λ ordinal. sent-row attributes (connections_finished change ordinal)
          (nat_lt (length (command_of_init change.state.controller) + count_before ordinal (connections_finished change) change.state.slots)
          change.state.controller.credit)
          (finished-row attributes change.state.shared change.state.bonds (change.to_notify ordinal) (change.state.connections ordinal) (after.own ordinal));
    }

pub rows_at_start : (start : Start) → ((peer : Peer) → IsRowOf start.table.attributes (start.bonds peer)) → HasRowsOfItsTable (run_at_start start).intake.state
rows_at_start start fitted =
    let old : State = before_first_command start in
    record {
      bonds = fitted;
      own = λ ordinal. sent-row start.table.attributes no_connection
          (nat_lt (length (command_of_init old.controller) + count_before ordinal old.connections old.slots) old.controller.credit)
          (no-row start.table.attributes);
    }

pub always_has_rows_of_its_table : AlwaysHasRowsOfItsTable
unfolding run
always_has_rows_of_its_table start input fitted =
    always (λ table. Unit) HasRowsOfItsTable (λ state event possible rows. keeps_rows_of_its_table state event rows) (run_at_start start) input
    (any_tables input)
    (rows_at_start start fitted)
