-- What a connection has prepared follows from what concerns it.
use Rattle.std.proofs.Common.{◌≡◌, ℕ, Bool, true, false, List, [], ◌∷◌, Option, Some, None, Ok, Err, refl, sym, ap, ◌∙◌}
use Rattle.std.specs.Prelude.{◌+◌, ◌++◌, length, nat_lt, ◌==◌, ◌&&◌, if◌then◌else◌}
use Rattle.std.specs.Option.{option_map_or, option_or, option_to_list}
use Rattle.std.proofs.lemmas.Bool.{eqb-true}
use Rattle.att_numbers.specs.Types.{Handle, Mtu, Row}
use Rattle.att_pdu.specs.declared.grammar.PduFault.TheVariants.{Ignored, Invalid, Unsupported}
use Rattle.att_pdu.specs.Grammar.{request_of, is_due}
use Rattle.att_pdu.specs.Request.{ExchangeMtuRequest, FindInformationRequest, FindByTypeValueRequest, ReadByTypeRequest, ReadRequest, ReadBlobRequest, ReadMultipleRequest, ReadByGroupTypeRequest, WriteRequest, PrepareWriteRequest, ExecuteWriteRequest, ConfirmationPdu, WriteCommandPdu}
use Rattle.att_table.specs.Changer.{changer_of}
use Rattle.att_table.specs.Table.{Contents}
use Rattle.gatt_conn.proofs.Transcripts.{asked_next}
use Rattle.gatt_conn.specs.Answer.{Question, answer_to}
use Rattle.gatt_conn.specs.Connection.{Bearer}
use Rattle.gatt_conn.specs.Transcript.{is_exchange, exchange_asked, first_exchange, prepared_in}
use Rattle.gatt_laws.proofs.runs.Ends.{end_keeps}
use Rattle.gatt_laws.specs.machine.Event.{Ordinal, Own, Event, Connected, Disconnected, Encrypted, Refreshed, Asks, OtherChannel, Ended, Of, Completed, Credit, Replaced}
use Rattle.gatt_laws.specs.machine.ConnectionState.{Live, ConnectionState, no_connection, fresh_connection, is_live, is_there, key_of, row_in_force, connection_mtu, bearer_of, prepared_of, after_ending}
use Rattle.gatt_laws.specs.laws.Preparing.{Preparing, preparing, preparing_in, Concern, Happens, concern_of, after_asking, while_serving, prepares_nothing, preparing_after_own, after_concern, after_any, is_ending, concerns_of, IsNeverEnded, PreparesByItself, PreparesTheSame}
use Rattle.gatt_laws.proofs.runs.Runs.{is_where_events_lead}
use Rattle.gatt_laws.specs.machine.Controller.{command_of_init, count_before, without_command}
use Rattle.gatt_laws.specs.machine.SharedState.{SharedState}
use Rattle.gatt_laws.specs.laws.Runs.{after_events, events_of}
use Rattle.gatt_laws.specs.machine.Start.{Start, new_shared_state, before_first_command, state_at}
use Rattle.gatt_laws.specs.machine.State.{State, after_packets_completed, with_packets_completed, announced, connection_after_replacement, change_of, step}
use Rattle.gatt_laws.specs.machine.Effect.{effect_on_connection, served, is_full, request_effect, after_other_channel, channel_answer, with_step, lost_encryption, live_effect, effect_of, remote_user_terminated, authentication_failure}
use Rattle.le_security.specs.Link.{Step, Encryption, Refresh}
use Rattle.octet_io.specs.Number.{Octets}

-- an exchange that is asked for is answered
no-more : (first : Option Mtu) (test : Bool) → option_or first (if test then None else None) ≡ option_or first None
no-more first true = refl
no-more first false = refl

exchanges : (table : Contents) (row : Row) (conn : Bearer) (asked : Question) (first : Option Mtu)
    → option_or first (if is_exchange (answer_to table row conn asked) then exchange_asked asked else None) ≡ option_or first (exchange_asked asked)
exchanges table row conn (Ok (ExchangeMtuRequest client_rx_mtu)) first = refl
exchanges table row conn (Ok (FindInformationRequest from last)) first =
    no-more first (is_exchange (answer_to table row conn (Ok (FindInformationRequest from last))))
exchanges table row conn (Ok (FindByTypeValueRequest from last kind value)) first =
    no-more first (is_exchange (answer_to table row conn (Ok (FindByTypeValueRequest from last kind value))))
exchanges table row conn (Ok (ReadByTypeRequest from last kind)) first =
    no-more first (is_exchange (answer_to table row conn (Ok (ReadByTypeRequest from last kind))))
exchanges table row conn (Ok (ReadRequest handle)) first = no-more first (is_exchange (answer_to table row conn (Ok (ReadRequest handle))))
exchanges table row conn (Ok (ReadBlobRequest handle offset)) first =
    no-more first (is_exchange (answer_to table row conn (Ok (ReadBlobRequest handle offset))))
exchanges table row conn (Ok (ReadMultipleRequest handles)) first = no-more first (is_exchange (answer_to table row conn (Ok (ReadMultipleRequest handles))))
exchanges table row conn (Ok (ReadByGroupTypeRequest from last kind)) first =
    no-more first (is_exchange (answer_to table row conn (Ok (ReadByGroupTypeRequest from last kind))))
exchanges table row conn (Ok (WriteRequest handle value)) first = no-more first (is_exchange (answer_to table row conn (Ok (WriteRequest handle value))))
exchanges table row conn (Ok (PrepareWriteRequest handle offset part)) first =
    no-more first (is_exchange (answer_to table row conn (Ok (PrepareWriteRequest handle offset part))))
exchanges table row conn (Ok (ExecuteWriteRequest flags)) first = no-more first (is_exchange (answer_to table row conn (Ok (ExecuteWriteRequest flags))))
exchanges table row conn (Ok ConfirmationPdu) first = no-more first (is_exchange (answer_to table row conn (Ok ConfirmationPdu)))
exchanges table row conn (Ok (WriteCommandPdu handle value)) first = no-more first (is_exchange (answer_to table row conn (Ok (WriteCommandPdu handle value))))
exchanges table row conn (Err Ignored) first = no-more first (is_exchange (answer_to table row conn (Err Ignored)))
exchanges table row conn (Err (Invalid opcode)) first = no-more first (is_exchange (answer_to table row conn (Err (Invalid opcode))))
exchanges table row conn (Err (Unsupported opcode)) first = no-more first (is_exchange (answer_to table row conn (Err (Unsupported opcode))))

-- one connection

-- it is ended where it should not be
abbrev NotEnded : ConnectionState → Type 0
NotEnded connection = is_ending connection.mark ≡ false

served-next : (shared : SharedState) (bond : Row) (owed : Bool) (connection : ConnectionState) (pdu : Octets)
    → preparing shared (served shared bond owed connection pdu (request_of pdu (connection_mtu shared connection))).connection
    ≡ after_asking (preparing shared connection) pdu
served-next shared bond owed connection pdu =
    let conn : Bearer = bearer_of shared connection in
    let row : Row = row_in_force bond connection in
    let asked : Question = request_of pdu conn.mtu in
    let says = asked_next shared.table row conn asked connection.said (record { mtu = refl; exchanged = refl; queue = refl }) in
    let exchange = exchanges shared.table row conn asked (first_exchange connection.said) in
    λ i. record (after_asking (preparing shared connection) pdu) { exchange = exchange i; queue = sym says.queue i }

request-next : (shared : SharedState) (bond : Row) (owed : Bool) (connection : ConnectionState) (pdu : Octets)
    → NotEnded (request_effect shared bond owed connection pdu).connection
    → preparing shared (request_effect shared bond owed connection pdu).connection ≡ after_asking (preparing shared connection) pdu
request-next shared bond owed connection pdu lasts =
    let asked : Question = request_of pdu (connection_mtu shared connection) in
    elim (is_due asked && is_full shared connection) as (λ (full : Bool).
    NotEnded (if full then effect_on_connection shared bond owed (after_ending connection remote_user_terminated)
    else served shared bond owed connection pdu asked).connection
    → preparing shared (if full then effect_on_connection shared bond owed (after_ending connection remote_user_terminated)
    else served shared bond owed connection pdu asked).connection
    ≡ after_asking (preparing shared connection) pdu) [
      | true ↦ λ ends. absurd (cc ends)
      | false ↦ λ goes_on. served-next shared bond owed connection pdu
    ] lasts

channel-next : (shared : SharedState) (connection : ConnectionState) (channel : ℕ) (answer : Option Octets)
    → NotEnded (after_other_channel shared connection channel answer)
    → preparing shared (after_other_channel shared connection channel answer) ≡ preparing shared connection
channel-next shared connection channel None lasts = refl
channel-next shared connection channel (Some answer) lasts =
    elim (is_full shared connection) as
    (λ (full : Bool).
    NotEnded (if full then after_ending connection remote_user_terminated else Rattle.gatt_laws.specs.machine.ConnectionState.with_pdus connection
    ((channel, answer) ∷ []))
    → preparing shared (if full then after_ending connection remote_user_terminated else Rattle.gatt_laws.specs.machine.ConnectionState.with_pdus connection
    ((channel, answer) ∷ [])) ≡ preparing shared connection) [
      | true ↦ λ ends. absurd (cc ends)
      | false ↦ λ goes_on. refl
    ] lasts

link-next : (shared : SharedState) (connection : ConnectionState) (step : Step) (lost : Bool)
    → NotEnded (if lost then after_ending (with_step connection step) authentication_failure else with_step connection step)
    → preparing shared (if lost then after_ending (with_step connection step) authentication_failure else with_step connection step)
    ≡ preparing shared (with_step connection step)
link-next shared connection step true lasts = absurd (cc lasts)
link-next shared connection step false lasts = refl

live-next : (shared : SharedState) (bond : Row) (owed : Bool) (connection : ConnectionState) (own : Own)
    → NotEnded (live_effect shared bond owed connection own).connection
    → preparing shared (live_effect shared bond owed connection own).connection ≡ while_serving (preparing shared connection) own
unfolding live_effect
live-next shared bond owed connection (Asks pdu) lasts = request-next shared bond owed connection pdu lasts
live-next shared bond owed connection (OtherChannel channel payload) lasts = channel-next shared connection channel (channel_answer channel payload) lasts
live-next shared bond owed connection (Encrypted status enabled) lasts =
    link-next shared connection (Encryption status enabled) (lost_encryption (key_of connection) (key_of (with_step connection (Encryption status enabled))))
    lasts
live-next shared bond owed connection (Refreshed status) lasts =
    link-next shared connection (Refresh status) (lost_encryption (key_of connection) (key_of (with_step connection (Refresh status)))) lasts
live-next shared bond owed connection Ended lasts = absurd (cc lasts)
live-next shared bond owed connection own lasts = refl

if-live : (shared : SharedState) (bond : Row) (owed : Bool) (connection : ConnectionState) (own : Own) (live : Bool)
    → NotEnded (if live then live_effect shared bond owed connection own else effect_on_connection shared bond owed connection).connection
    → preparing shared (if live then live_effect shared bond owed connection own else effect_on_connection shared bond owed connection).connection
    ≡ (if live then while_serving (preparing shared connection) own else preparing shared connection)
if-live shared bond owed connection own true lasts = live-next shared bond owed connection own lasts
if-live shared bond owed connection own false lasts = refl

own-next : (shared : SharedState) (bond : Row) (owed : Bool) (connection : ConnectionState) (own : Own)
    → NotEnded (effect_of shared bond owed connection own).connection
    → preparing shared (effect_of shared bond owed connection own).connection ≡ preparing_after_own (preparing shared connection) own
own-next shared bond owed connection (Connected handle peer) lasts =
    elim (is_there connection.mark) as (λ (there : Bool). preparing shared (if there then connection else fresh_connection handle peer)
    ≡ (if there then preparing shared connection else prepares_nothing (preparing shared connection) Live peer)) [ true ↦ refl | false ↦ refl ]
own-next shared bond owed connection Disconnected lasts = refl
own-next shared bond owed connection own lasts = if-live shared bond owed connection own (is_live connection.mark) lasts

-- and each event

completed-next : (shared : SharedState) (ordinal : Ordinal) (entries : List (Ordinal × ℕ)) (connection : ConnectionState)
    → preparing shared (after_packets_completed ordinal entries connection) ≡ preparing shared connection
completed-next shared ordinal [] connection = refl
completed-next shared ordinal (entry ∷ entries) connection =
    completed-next shared ordinal entries (if entry.0 == ordinal then with_packets_completed connection entry.1 else connection)
    ∙ elim (entry.0 == ordinal) as (λ (own : Bool). preparing shared (if own then with_packets_completed connection entry.1 else connection)
    ≡ preparing shared connection) [ true ↦ refl | false ↦ refl ]

same-attributes : (table : Contents) (changer : Option Handle)
    → (option_map_or (λ at. record table { values = Rattle.att_table.specs.Table.with_value table.values at Rattle.gatt_laws.specs.machine.State.all_changed })
    changer table).attributes ≡ table.attributes
same-attributes table None = refl
same-attributes table (Some changer) = refl

replaced-next : (state : State) (table : Contents) (connection : ConnectionState) (live : Bool) → is_live connection.mark ≡ live
    → preparing (record state.shared { table = announced table; changer = changer_of table }) (connection_after_replacement state.shared.table table connection)
    ≡ record (preparing state.shared connection) { attributes = table.attributes; queue = if is_live connection.mark then [] else prepared_in connection.said }
replaced-next state table connection true is =
    rw is (λ i. record (preparing state.shared connection) {
      attributes = same-attributes table (changer_of table) i;
      queue = [];
      exchange = none (first_exchange connection.said) i;
    })
  where
    none : (first : Option Mtu) → option_or first None ≡ first
    none (Some mtu) = refl
    none None = refl
replaced-next state table connection false is =
    rw is (λ i. record (preparing state.shared connection) { attributes = same-attributes table (changer_of table) i })

of-other : (state : State) (at ordinal : Ordinal) (own : Own) (same : Bool) → (ordinal == at) ≡ same
    → NotEnded
    (if same
    then (effect_of state.shared (state.bonds (state.connections at).peer) (state.owed (state.connections at).peer) (state.connections at) own).connection
    else state.connections ordinal)
    → preparing state.shared
    (if same
    then (effect_of state.shared (state.bonds (state.connections at).peer) (state.owed (state.connections at).peer) (state.connections at) own).connection
    else state.connections ordinal)
    ≡ after_any (preparing state.shared (state.connections ordinal)) (if same then Some (Happens own) else None)
unfolding after_concern
of-other state at ordinal own true is lasts =
    own-next state.shared (state.bonds (state.connections at).peer) (state.owed (state.connections at).peer) (state.connections at) own lasts
    ∙ ap (λ (one : Ordinal). preparing_after_own (preparing state.shared (state.connections one)) own) (sym (eqb-true ordinal at is))
of-other state at ordinal own false is lasts = refl

change-next : (state : State) (event : Event) (ordinal : Ordinal) → NotEnded ((change_of state event).state.connections ordinal)
    → preparing_in (change_of state event).state ordinal ≡ after_any (preparing_in state ordinal) (concern_of ordinal event)
unfolding change_of after_concern
change-next state (Of at own) ordinal lasts = of-other state at ordinal own (ordinal == at) refl lasts
change-next state (Completed entries) ordinal lasts = completed-next state.shared ordinal entries (state.connections ordinal)
change-next state (Credit allowed opcode status (Some init)) ordinal lasts = refl
change-next state (Credit allowed opcode status None) ordinal lasts = refl
change-next state (Replaced table) ordinal lasts = replaced-next state table (state.connections ordinal) (is_live (state.connections ordinal).mark) refl
change-next state event ordinal lasts = refl

pub prepares_by_itself : PreparesByItself
unfolding step
prepares_by_itself state event ordinal lasts =
    let shared : SharedState = (step state event).shared in
    let same = end_keeps (preparing shared) (λ of pdus pending given reply reason. refl) state event ordinal in
    let marks = end_keeps (λ (of : ConnectionState). of.mark) (λ of pdus pending given reply reason. refl) state event ordinal in
    same ∙ change-next state event ordinal (ap is_ending (sym marks) ∙ lasts)

-- and a run

abbrev after_concerns : Preparing → List Concern → Preparing
after_concerns old [] = old
after_concerns old (concern ∷ concerns) = after_concerns (after_concern old concern) concerns

one-more : (old : Preparing) (concern : Option Concern) (concerns : List Concern) → after_concerns old (option_to_list concern ++ concerns)
    ≡ after_concerns (after_any old concern) concerns
one-more old None concerns = refl
one-more old (Some concern) concerns = refl

run-next : (ordinal : Ordinal) (state : State) (events : List Event) → IsNeverEnded ordinal state events
    → preparing_in (after_events state events) ordinal ≡ after_concerns (preparing_in state ordinal) (concerns_of ordinal events)
run-next ordinal state [] never = refl
run-next ordinal state (event ∷ events) never =
    run-next ordinal (step state event) events never.1
    ∙ ap (λ (old : Preparing). after_concerns old (concerns_of ordinal events)) (prepares_by_itself state event ordinal never.0)
    ∙ sym (one-more (preparing_in state ordinal) (concern_of ordinal event) (concerns_of ordinal events))

-- at first nobody has prepared anything
sent-none : (shared : SharedState) (sent : Bool) → preparing shared (if sent then without_command no_connection else no_connection)
    ≡ preparing shared no_connection
sent-none shared true = refl
sent-none shared false = refl

none-prepared : (start : Start) (ordinal : Ordinal) → preparing_in (state_at start) ordinal ≡ preparing (new_shared_state start) no_connection
none-prepared start ordinal =
    let old : State = before_first_command start in
    sent-none old.shared (nat_lt (length (command_of_init old.controller) + count_before ordinal old.connections old.slots) old.controller.credit)

pub prepares_the_same : PreparesTheSame
prepares_the_same start one other input another same lasts lasts_too =
    let events : List Event = events_of start input in
    let others : List Event = events_of start another in
    ap (λ (state : State). prepared_of (state.connections one)) (is_where_events_lead start input)
    ∙ ap (λ (of : Preparing). of.queue) (
    run-next one (state_at start) events lasts
    ∙ ap (λ (of : Preparing). after_concerns of (concerns_of one events)) (none-prepared start one ∙ sym (none-prepared start other))
    ∙ ap (after_concerns (preparing_in (state_at start) other)) same
    ∙ sym (run-next other (state_at start) others lasts_too)
    )
    ∙ sym (ap (λ (state : State). prepared_of (state.connections other)) (is_where_events_lead start another))
