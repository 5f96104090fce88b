-- Each event leaves waiting only what has a configuration in the table that then stands.
use Rattle.std.proofs.Common.{◌≡◌, ℕ, ◌+◌, Bool, true, false, List, [], ◌∷◌, ◌++◌, length, Option, Some, None, refl, sym, ap, subst, ◌∙◌, arith}
use Rattle.std.specs.Prelude.{not, is_some, nat_lt, ◌==◌, ◌&&◌, if◌then◌else◌}
use Rattle.std.specs.Int.Bits.{and_zero_l}
use Rattle.std.specs.Int.RustNames.{bit_and}
use Rattle.std.specs.Option.{option_map}
use Rattle.std.proofs.lemmas.Bool.Decides.{nat_tests}
use Rattle.std.proofs.lemmas.List.Elements.{All-nil, All-head, All-push, All-tail}
use Rattle.att_numbers.specs.Types.{Handle, Row, Values}
use Rattle.att_pdu.specs.Grammar.{is_due}
use Rattle.att_policy.specs.declared.guard.TheConstants.{INDICATION}
use Rattle.att_policy.specs.declared.standing.Standing.{Standing}
use Rattle.att_attributes.specs.declared.attr.Attr.{Attr}
use Rattle.att_attributes.specs.Attributes.{is_configuration_at}
use Rattle.att_table.specs.ConfigRow.{bits_at, IsRowOf}
use Rattle.gatt_conn.specs.Answer.{is_confirmation}
use Rattle.gatt_conn.specs.Transcript.{Dropped}
use Rattle.gatt_laws.proofs.runs.Always.{always, any_tables}
use Rattle.gatt_laws.proofs.invariants.RowsOfTheTable.{change_rows, either_row, keeps_rows_of_its_table, rows_at_start}
use Rattle.gatt_laws.specs.laws.RowsOfTheTable.{HasRowsOfItsTable}
use Rattle.gatt_laws.specs.laws.WaitingOfTheTable.{HasConfiguration, AreConfigured, MayWait, WaitsForItsTable, HasWaitingOfItsTable, KeepsWaitingOfItsTable, AlwaysHasWaitingOfItsTable}
use Rattle.gatt_laws.proofs.runs.KeptByChanges.{KeepsByChanges, keeps_if_live}
use Rattle.gatt_laws.specs.machine.ConnectionState.{ConnectionState, no_connection, fresh_connection, is_live, is_there, key_of}
use Rattle.gatt_laws.specs.machine.Controller.{command_of_init, count_before, without_command}
use Rattle.gatt_laws.specs.machine.Effect.{Effect, effect_of}
use Rattle.gatt_laws.specs.machine.Event.{Ordinal, Own, Event, Connected, Disconnected, Of, Completed, Credit, Tick, Replaced}
use Rattle.gatt_laws.specs.machine.Heard.{after_hearing, hearer_after, heard_in_turn, heard_when_notifying, hearer_of}
use Rattle.gatt_laws.specs.machine.Input.{run_at_start, run}
use Rattle.gatt_laws.specs.machine.SharedState.{SharedState, Bonds, share_of, fragment_size_of}
use Rattle.gatt_laws.specs.machine.Start.{before_first_command}
use Rattle.gatt_laws.specs.machine.State.{State, Change, own_change, with_packets_completed, after_packets_completed, after_command_complete, announced, connection_dropped, change_of, finished, connections_finished, step}
use Rattle.gatt_subs.specs.Hearing.{is_indicated, wants_indications}
use Rattle.gatt_subs.specs.Indications.{Indications, Milliseconds, after_confirmation, after_indicate, after_notify, after_replacement, after_tick, first_handle, from_due, hears, is_waiting, may_indicate, rest_of, times_out, unconfirmed_since, with_handle}
use Rattle.gatt_subs.specs.Told.{Hearer, pending_after_indicate, pending_after_notify}
use Rattle.le_acl.specs.History.{packets_allowed}
use Rattle.le_hci.specs.declared.init.Init.{Init}
use Rattle.octet_io.proofs.Choices.{and_true_right}

-- what a row asks for is in the table, if the row is one of it
asked-there : (attributes : List Attr) (row : Row) (handle : Handle) → IsRowOf attributes row → not (bit_and (bits_at row handle) INDICATION == 0) ≡ true
    → is_configuration_at attributes handle ≡ true
asked-there attributes [] handle of asked =
    let none : false ≡ true = sym (ap (λ (both : ℕ). not (both == 0)) (and_zero_l INDICATION)) ∙ asked in cc none
asked-there attributes (entry ∷ row) handle of asked =
    let test = λ (it : Handle × ℕ). is_configuration_at attributes it.0 ≡ true in
    elim (entry.0 == handle) as (λ (same : Bool). (entry.0 == handle) ≡ same → not (bit_and (if same then entry.1 else bits_at row handle) INDICATION == 0)
    ≡ true
    → is_configuration_at attributes handle ≡ true) [
      | true ↦ λ same is.
          let equal : entry.0 ≡ handle = grind (arith, nat_tests, same) in
          subst (λ (at : Handle). is_configuration_at attributes at ≡ true) equal (All-head test entry row of)
      | false ↦ λ other is. asked-there attributes row handle (All-tail test entry row of) is
    ] refl asked

pub configured_where_wanted : (attributes : List Attr) (row : Row) (handle : Handle) → IsRowOf attributes row → wants_indications row handle ≡ true
    → HasConfiguration attributes handle
configured_where_wanted attributes row handle of wanted = asked-there attributes row (handle + 1) of wanted

-- values that wait, with one more
with-more : (attributes : List Attr) (waiting : List Handle) (handle : Handle) → AreConfigured attributes waiting → HasConfiguration attributes handle
    → AreConfigured attributes (with_handle waiting handle)
with-more attributes waiting handle all is =
    elim (is_waiting waiting handle) as (λ (has : Bool). AreConfigured attributes (if has then waiting else waiting ++ handle ∷ [])) [
      | true ↦ all
      | false ↦ All-push (HasConfiguration attributes) waiting handle all is
    ]

pub notified_configured : (attributes : List Attr) (pending : Indications) (row : Row) (standing : Standing) (handle : Handle) → IsRowOf attributes row
    → AreConfigured attributes pending.waiting → AreConfigured attributes (after_notify pending attributes row standing handle).waiting
notified_configured attributes pending row standing handle of all =
    elim (hears pending attributes row standing handle && wants_indications row handle) as (λ (indicates : Bool).
    (hears pending attributes row standing handle && wants_indications row handle) ≡ indicates
    → AreConfigured attributes (let after : Indications = if indicates then record pending { waiting = with_handle pending.waiting handle } else pending in
    after).waiting) [
      | true ↦ λ is.
          with-more attributes pending.waiting handle all
          (configured_where_wanted attributes row handle of (and_true_right (hears pending attributes row standing handle) (wants_indications row handle) is))
      | false ↦ λ is. all
    ] refl

-- and with those from the first that is due on
due-configured : (attributes : List Attr) (is_due : Handle → Bool) (waiting : List Handle) → AreConfigured attributes waiting
    → AreConfigured attributes (rest_of (from_due is_due waiting))
due-configured attributes is_due [] all = all
due-configured attributes is_due (handle ∷ rest) all =
    let later = All-tail (HasConfiguration attributes) handle rest all in
    elim (is_due handle) as (λ (due : Bool). AreConfigured attributes (rest_of (if due then handle ∷ rest else from_due is_due rest))) [
      | true ↦ later
      | false ↦ due-configured attributes is_due rest later
    ]

indicated-configured : (attributes : List Attr) (pending : Indications) (row : Row) (standing : Standing) (backlog : ℕ) (now : Milliseconds)
    → AreConfigured attributes pending.waiting → AreConfigured attributes (after_indicate pending attributes row standing backlog now).waiting
indicated-configured attributes pending row standing backlog now all =
    let due : List Handle = from_due (is_indicated attributes row standing) pending.waiting in
    elim (may_indicate pending backlog) as (λ (may : Bool).
    AreConfigured attributes
    (let after : Indications = if may then record pending { waiting = rest_of due; unconfirmed = option_map (unconfirmed_since now) (first_handle due) }
    else pending in after).waiting) [
      | true ↦ due-configured attributes (is_indicated attributes row standing) pending.waiting all
      | false ↦ all
    ]

-- so where a connection hears, and where it does not nothing changes
notify-waits : (attributes : List Attr) (hearer : Hearer) (handle : Handle) → IsRowOf attributes hearer.row
    → MayWait attributes hearer.live hearer.pending.waiting
    → MayWait attributes hearer.live (pending_after_notify attributes hearer handle).waiting
notify-waits attributes hearer handle of waits =
    elim hearer.live as (λ (live : Bool). MayWait attributes live hearer.pending.waiting
    → MayWait attributes live (let after : Indications = if live then after_notify hearer.pending attributes hearer.row hearer.standing handle
    else hearer.pending in after).waiting) [
      | true ↦ λ all. notified_configured attributes hearer.pending hearer.row hearer.standing handle of all
      | false ↦ λ none. none
    ] waits

indicate-waits : (attributes : List Attr) (hearer : Hearer) (now : Milliseconds) → MayWait attributes hearer.live hearer.pending.waiting
    → MayWait attributes hearer.live (pending_after_indicate attributes hearer now).waiting
indicate-waits attributes hearer now waits =
    elim hearer.live as (λ (live : Bool). MayWait attributes live hearer.pending.waiting
    → MayWait attributes live (let after : Indications = if live then after_indicate hearer.pending attributes hearer.row hearer.standing hearer.backlog now
    else hearer.pending in after).waiting) [
      | true ↦ λ all. indicated-configured attributes hearer.pending hearer.row hearer.standing hearer.backlog now all
      | false ↦ λ none. none
    ] waits

heard-waits : (attributes : List Attr) (values : Values) (hearer : Hearer) (now : ℕ) (handles : List Handle) → IsRowOf attributes hearer.row
    → MayWait attributes hearer.live hearer.pending.waiting
    → MayWait attributes hearer.live (heard_in_turn attributes values hearer now handles).pending.waiting
heard-waits attributes values hearer now [] of waits = indicate-waits attributes hearer now waits
heard-waits attributes values hearer now (handle ∷ handles) of waits =
    heard-waits attributes values (hearer_after hearer (heard_when_notifying attributes values hearer handle)) now handles of
    (notify-waits attributes hearer handle of waits)

-- nothing waits
none-waits : (attributes : List Attr) (live : Bool) → MayWait attributes live []
none-waits attributes true = All-nil (HasConfiguration attributes)
none-waits attributes false = refl

either-waits : (attributes : List Attr) (test : Bool) (one other : ConnectionState) → WaitsForItsTable attributes one → WaitsForItsTable attributes other
    → WaitsForItsTable attributes (if test then one else other)
either-waits attributes true one other first second = first
either-waits attributes false one other first second = second

-- what happens to one connection
abbrev EffectWaits : List Attr → Effect → Type 0
EffectWaits attributes effect = WaitsForItsTable attributes effect.connection

confirmed-waits : (attributes : List Attr) (live : Bool) (pending : Indications) (confirms : Bool) → MayWait attributes live pending.waiting
    → MayWait attributes live (let after : Indications = if confirms then after_confirmation pending else pending in after).waiting
confirmed-waits attributes live pending true waits = waits
confirmed-waits attributes live pending false waits = waits

by-changes : (attributes : List Attr) (connection : ConnectionState) → WaitsForItsTable attributes connection
    → KeepsByChanges (λ old new. WaitsForItsTable attributes new) connection
by-changes attributes connection waits = record {
  same = waits;
  authorized = λ until. waits;
  ended = λ reason. refl;
  key_asked = λ found. waits;
  stepped = λ step. waits;
  ended_then = λ step reason. refl;
  queued = λ pdu. waits;
  served_by = λ shared bond owed pdu asked. confirmed-waits attributes (is_live connection.mark) connection.pending (is_confirmation pdu) waits;
}

own-waits : (shared : SharedState) (bond : Row) (owed : Bool) (connection : ConnectionState) (own : Own) → WaitsForItsTable shared.table.attributes connection
    → EffectWaits shared.table.attributes (effect_of shared bond owed connection own)
own-waits shared bond owed connection (Connected handle peer) waits =
    either-waits shared.table.attributes (is_there connection.mark) connection (fresh_connection handle peer) waits (none-waits shared.table.attributes true)
own-waits shared bond owed connection Disconnected waits = refl
own-waits shared bond owed connection own waits =
    keeps_if_live (λ old new. WaitsForItsTable shared.table.attributes new) shared bond owed connection waits
    (λ live. by-changes shared.table.attributes connection waits) own

-- what an event changes
change-own : (state : State) (ordinal : Ordinal) (own : Own) → HasWaitingOfItsTable state → HasWaitingOfItsTable (own_change state ordinal own).state
change-own state ordinal own waits =
    let connection = state.connections ordinal in
    let effect : Effect = effect_of state.shared (state.bonds connection.peer) (state.owed connection.peer) connection own in
    let after : EffectWaits state.shared.table.attributes effect =
    own-waits state.shared (state.bonds connection.peer) (state.owed connection.peer) connection own (waits ordinal) in
    λ other. either-waits state.shared.table.attributes (other == ordinal) effect.connection (state.connections other) after (waits other)

completed-waits : (attributes : List Attr) (ordinal : Ordinal) (entries : List (Ordinal × ℕ)) (connection : ConnectionState)
    → WaitsForItsTable attributes connection
    → WaitsForItsTable attributes (after_packets_completed ordinal entries connection)
completed-waits attributes ordinal [] connection waits = waits
completed-waits attributes ordinal (entry ∷ entries) connection waits =
    completed-waits attributes ordinal entries (if entry.0 == ordinal then with_packets_completed connection entry.1 else connection)
    (either-waits attributes (entry.0 == ordinal) (with_packets_completed connection entry.1) connection waits waits)

credit-waits : (state : State) (allowed opcode : ℕ) (status : Option ℕ) (following : Option Init) → HasWaitingOfItsTable state
    → HasWaitingOfItsTable (after_command_complete state allowed opcode status following)
credit-waits state allowed opcode status (Some init) waits = waits
credit-waits state allowed opcode status None waits = waits

tick-waits : (attributes : List Attr) (live : Bool) (pending : Indications) (time : Milliseconds) → MayWait attributes live pending.waiting
    → MayWait attributes live (after_tick pending time).waiting
tick-waits attributes live pending time waits =
    elim (times_out pending time) as (λ (late : Bool).
    MayWait attributes live (let after : Indications = if late then record { waiting = []; unconfirmed = None; timed_out = true } else pending in
    after).waiting) [
      | true ↦ none-waits attributes live
      | false ↦ waits
    ]

-- where a table is replaced nothing waits any more
replaced-waits : (old new : List Attr) (connection : ConnectionState) → WaitsForItsTable old connection → WaitsForItsTable new (connection_dropped connection)
replaced-waits old new connection waits =
    elim (is_live connection.mark) as (λ (live : Bool). is_live connection.mark ≡ live → MayWait old live connection.pending.waiting
    → WaitsForItsTable new (if live then record connection { said = Dropped ∷ connection.said; pending = after_replacement connection.pending }
    else connection)) [
      | true ↦ λ is all. none-waits new (is_live connection.mark)
      | false ↦ λ is none. subst (λ (waiting : List Handle). MayWait new (is_live connection.mark) waiting) (sym none)
          (none-waits new (is_live connection.mark))
    ] refl waits

change-waits : (state : State) (event : Event) → HasWaitingOfItsTable state → HasWaitingOfItsTable (change_of state event).state
unfolding change_of
change-waits state (Of ordinal own) waits = change-own state ordinal own waits
change-waits state (Completed entries) waits =
    λ ordinal. completed-waits state.shared.table.attributes ordinal entries (state.connections ordinal) (waits ordinal)
change-waits state (Credit allowed opcode status following) waits = credit-waits state allowed opcode status following waits
change-waits state (Tick time) waits = λ ordinal.
    let connection = state.connections ordinal in tick-waits state.shared.table.attributes (is_live connection.mark) connection.pending time (waits ordinal)
change-waits state (Replaced table) waits = λ ordinal.
    replaced-waits state.shared.table.attributes (announced table).attributes (state.connections ordinal) (waits ordinal)
change-waits state event waits = waits

-- the end of an event, and the commands that go out
finished-waits : (shared : SharedState) (bonds : Bonds) (handles : List Handle) (connection : ConnectionState)
    → IsRowOf shared.table.attributes (if is_some (key_of connection) then bonds connection.peer else connection.row)
    → WaitsForItsTable shared.table.attributes connection
    → WaitsForItsTable shared.table.attributes (finished shared bonds handles connection)
unfolding after_hearing
finished-waits shared bonds handles connection of waits =
    let heard = heard-waits shared.table.attributes shared.table.values (hearer_of shared (bonds connection.peer) connection) shared.time handles of waits in
    let told : ConnectionState = after_hearing shared (bonds connection.peer) handles connection in
    let given : ConnectionState =
    record told { given = packets_allowed (share_of shared.slots shared.buffers) (fragment_size_of shared.buffers) told.pdus told.done } in
    either-waits shared.table.attributes (is_live told.mark) given told heard heard

sent-waits : (attributes : List Attr) (connection : ConnectionState) (sent : Bool) → WaitsForItsTable attributes connection
    → WaitsForItsTable attributes (if sent then without_command connection else connection)
sent-waits attributes connection true waits =
    either-waits attributes (is_some connection.reason) (record connection { reason = None }) (record connection { reply = None }) waits waits
sent-waits attributes connection false waits = waits

pub keeps_waiting_of_its_table : KeepsWaitingOfItsTable
unfolding step
keeps_waiting_of_its_table state event rows waits =
    let change : Change = change_of state event in
    let of : HasRowsOfItsTable change.state = change_rows state event rows in
    let after : HasWaitingOfItsTable change.state = change-waits state event waits in
    let attributes = change.state.shared.table.attributes in
    λ ordinal.
    let connection : ConnectionState = change.state.connections ordinal in
    sent-waits attributes (connections_finished change ordinal)
    (nat_lt (length (command_of_init change.state.controller) + count_before ordinal (connections_finished change) change.state.slots)
    change.state.controller.credit)
    (finished-waits change.state.shared change.state.bonds (change.to_notify ordinal) connection
    (either_row attributes (is_some (key_of connection)) (change.state.bonds connection.peer) connection.row (of.bonds connection.peer) (of.own ordinal))
    (after ordinal))

pub always_has_waiting_of_its_table : AlwaysHasWaitingOfItsTable
unfolding run
always_has_waiting_of_its_table start input fitted =
    let old : State = before_first_command start in
    let both =
    always (λ table. Unit) (λ state. HasRowsOfItsTable state × HasWaitingOfItsTable state)
    (λ state event possible both. (keeps_rows_of_its_table state event both.0, keeps_waiting_of_its_table state event both.0 both.1)) (run_at_start start) input
    (any_tables input) (
      rows_at_start start fitted,
      λ ordinal. sent-waits start.table.attributes no_connection
          (nat_lt (length (command_of_init old.controller) + count_before ordinal old.connections old.slots) old.controller.credit) refl,
    ) in
    both.1
