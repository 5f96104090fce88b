-- The machine of the promise with another definition of answers: a PDU that is served gets that answer, and all else is the same.
use Rattle.std.proofs.Common.{◌≡◌, Bool, true, false, ◌&&◌, not, if◌then◌else◌, refl, ap}
use Rattle.att_numbers.specs.Types.{Row}
use Rattle.att_pdu.specs.Grammar.{request_of, is_due}
use Rattle.gatt_conn.specs.Answer.{answer_to}
use Rattle.gatt_laws.specs.machine.Event.{Ordinal, Own, Event, Connected, Disconnected, KeyAsked, Encrypted, Refreshed, Asks, OtherChannel, Authorized, Ended, Of, Completed, Credit, Update, Tick, Replaced, Nothing}
use Rattle.gatt_laws.specs.machine.ConnectionState.{ConnectionState, bearer_of, connection_mtu, is_live, row_in_force}
use Rattle.gatt_laws.specs.machine.SharedState.{SharedState}
use Rattle.gatt_laws.specs.machine.State.{State, Change, after_effect, before_commands, change_of, connections_finished}
use Rattle.gatt_laws.specs.machine.Effect.{Effect, after_answer, effect_of, is_full, live_effect}
use Rattle.gatt_theorems.proofs.examples.Laws.{Machine}
use Rattle.gatt_theorems.proofs.examples.Refusals.{Answering}
use Rattle.octet_io.specs.Number.{Octets}

abbrev with_answer : ConnectionState → ConnectionState → ConnectionState
with_answer answered new = record new { said = answered.said; pdus = answered.pdus }

abbrev pub effect_by : Answering → SharedState → Row → Bool → ConnectionState → Own → Effect
effect_by answers shared bond owed connection (Asks pdu) =
    let asked = request_of pdu (connection_mtu shared connection) in
    let answer = answers shared.table (row_in_force bond connection) (bearer_of shared connection) asked in
    let effect = effect_of shared bond owed connection (Asks pdu) in
    if is_live connection.mark && not (is_due asked && is_full shared connection)
    then record effect { connection = with_answer (after_answer connection asked answer) effect.connection }
    else effect
effect_by answers shared bond owed connection own = effect_of shared bond owed connection own

abbrev pub at_the_end : Change → State
at_the_end change = record change.state { connections = connections_finished change }

abbrev pub change_by : Answering → State → Ordinal → Own → Change
change_by answers state ordinal own =
    let connection = state.connections ordinal in
    after_effect state ordinal own (effect_by answers state.shared (state.bonds connection.peer) (state.owed connection.peer) connection own)

abbrev pub answering : Answering → Machine
answering answers state (Of ordinal own) = at_the_end (change_by answers state ordinal own)
answering answers state event = before_commands state event

-- With the answers of the policy it is the machine of the promise.
with-own-answer : (live blocked : Bool) (shared : SharedState) (bond : Row) (owed : Bool) (connection : ConnectionState) (pdu : Octets)
    → is_live connection.mark ≡ live
    → (is_due (request_of pdu (connection_mtu shared connection)) && is_full shared connection) ≡ blocked
    → effect_by answer_to shared bond owed connection (Asks pdu) ≡ effect_of shared bond owed connection (Asks pdu)
unfolding live_effect
with-own-answer false blocked shared bond owed connection pdu live full = rw live refl
with-own-answer true true shared bond owed connection pdu live full = rw live (rw full refl)
with-own-answer true false shared bond owed connection pdu live full = rw live (rw full refl)

with-own-effect : (shared : SharedState) (bond : Row) (owed : Bool) (connection : ConnectionState) (own : Own)
    → effect_by answer_to shared bond owed connection own ≡ effect_of shared bond owed connection own
with-own-effect shared bond owed connection (Asks pdu) =
    with-own-answer (is_live connection.mark) (is_due (request_of pdu (connection_mtu shared connection)) && is_full shared connection)
    shared bond owed connection pdu refl refl
with-own-effect shared bond owed connection (Connected handle peer) = refl
with-own-effect shared bond owed connection Disconnected = refl
with-own-effect shared bond owed connection (KeyAsked random_number diversifier) = refl
with-own-effect shared bond owed connection (Encrypted status enabled) = refl
with-own-effect shared bond owed connection (Refreshed status) = refl
with-own-effect shared bond owed connection (OtherChannel channel payload) = refl
with-own-effect shared bond owed connection (Authorized until) = refl
with-own-effect shared bond owed connection Ended = refl

answers_of_the_policy : (state : State) (event : Event) → answering answer_to state event ≡ before_commands state event
unfolding change_of
answers_of_the_policy state (Of ordinal own) =
    let connection = state.connections ordinal in
    ap (λ (effect : Effect). at_the_end (after_effect state ordinal own effect))
    (with-own-effect state.shared (state.bonds connection.peer) (state.owed connection.peer) connection own)
answers_of_the_policy state (Completed entries) = refl
answers_of_the_policy state (Credit allowed opcode status following) = refl
answers_of_the_policy state (Update handle value) = refl
answers_of_the_policy state (Tick time) = refl
answers_of_the_policy state (Replaced table) = refl
answers_of_the_policy state Nothing = refl
