-- Definitions that are wrong, and the law of the promise that each breaks: computed at the door lock.
use Rattle.std.proofs.Common.{◌≡◌, Bool, true, false, List, [], ◌∷◌, ◌++◌, map, Option, Some, None, refl, ap, ◌∙◌}
use Rattle.std.specs.Prelude.{◌||◌, IfSome, Ok}
use Rattle.std.specs.Option.{option_map, option_to_list}
use Rattle.att_numbers.specs.Types.{Handle, Row}
use Rattle.att_numbers.specs.declared.opcode.TheConstants.{READ_REQUEST, WRITE_REQUEST}
use Rattle.att_pdu.specs.Request.{ReadRequest, WriteRequest}
use Rattle.att_pdu.specs.Response.{Response, ErrorResponse}
use Rattle.att_reads.specs.Answer.{value_answer}
use Rattle.att_table.specs.Table.{Contents}
use Rattle.att_writes.specs.Applied.{after_entries}
use Rattle.gatt_conn.specs.Answer.{Question, answer_to}
use Rattle.gatt_conn.specs.Connection.{Bearer, new_connection}
use Rattle.gatt_laws.proofs.examples.Tables.{door, phone, table_of, declaration, value_of, configuration, guard, authorized, no_need}
use Rattle.att_pdu.specs.Form.{form_of}
use Rattle.gatt_laws.proofs.examples.Runs.{host}
use Rattle.gatt_laws.specs.machine.Controller.{commands_due}
use Rattle.gatt_laws.specs.machine.Event.{Ordinal, Event, Asks, Of}
use Rattle.gatt_laws.specs.machine.Heard.{after_hearing, att_pdu}
use Rattle.gatt_laws.specs.machine.ConnectionState.{fresh_connection, connection_mtu}
use Rattle.gatt_laws.specs.machine.Start.{state_at}
use Rattle.gatt_laws.specs.machine.State.{State, change_of, step}
use Rattle.gatt_laws.specs.machine.Effect.{live_effect}
use Rattle.gatt_subs.specs.Indications.{is_waiting}
use Rattle.gatt_subs.specs.Told.{notification_of, indication_of}
use Rattle.le_acl.specs.Packets.{Pdu, pieces}
use Rattle.gatt_theorems.specs.Gained.{Gains, TellsOnly, answers_at, kept_queue, picked}
use Rattle.gatt_theorems.specs.FirstCase.{IsByTheFirstCase}

abbrev pub Answering : Type 0
Answering = Contents → Row → Bearer → Question → Option Response

-- a client that nobody knows, and one that is authorized up to a moment that is past
abbrev unknown : Bearer
unknown = new_connection 247

abbrev late : Bearer
late = record unknown { standing = record { key = None; key_known = false; until = 5; now = 10 } }

-- every Read is refused, also one that is permitted
refuses_all_reads : Answering
refuses_all_reads table row conn (Ok (ReadRequest handle)) = Some (ErrorResponse READ_REQUEST handle 0x0E)
refuses_all_reads table row conn question = answer_to table row conn question

a_read_that_may_be : IsByTheFirstCase door [] unknown (Ok (ReadRequest 3)) (refuses_all_reads door [] unknown (Ok (ReadRequest 3))) → ⊥
unfolding refuses_all_reads
a_read_that_may_be is = cc is

-- each refusal names no handle
without_handle : Response → Response
without_handle (ErrorResponse request handle code) = ErrorResponse request 0 code
without_handle response = response

names_no_handle : Answering
names_no_handle table row conn question = option_map without_handle (answer_to table row conn question)

a_handle_at_fault : IsByTheFirstCase door [] unknown (Ok (ReadRequest 17)) (names_no_handle door [] unknown (Ok (ReadRequest 17))) → ⊥
unfolding names_no_handle without_handle value_answer
a_handle_at_fault is = cc is

-- writes are judged as at the time 0
judges_at_no_time : Answering
judges_at_no_time table row conn question =
    answer_to table row (record conn { standing = record conn.standing { now = 0 } }) question

-- a value that tells, and whose configuration needs authorization
abbrev gate : Contents
gate = table_of (
    declaration 1 0x2800 (0xFB ∷ 0xFF ∷ []) 2
    ∷ declaration 2 0x2803 (0x12 ∷ 0x03 ∷ 0x00 ∷ 0xFC ∷ 0xFF ∷ []) 5
    ∷ value_of 3 0xFFFC (0x00 ∷ []) 1 false (guard 0x12 no_need no_need)
    ∷ configuration 4 authorized
    ∷ [])

abbrev configures : Question
configures = Ok (WriteRequest 4 (0x01 ∷ 0x00 ∷ []))

an_authorization_that_ended : IsByTheFirstCase gate [] late configures (judges_at_no_time gate [] late configures) → ⊥
unfolding judges_at_no_time after_entries
an_authorization_that_ended is = cc is

-- and the answers of the policy meet it there
permitted : IsByTheFirstCase door [] unknown (Ok (ReadRequest 3)) (answer_to door [] unknown (Ok (ReadRequest 3)))
unfolding value_answer
permitted = refl

refused : answer_to door [] unknown (Ok (ReadRequest 17)) ≡ Some (ErrorResponse READ_REQUEST 17 0x05)
unfolding value_answer
refused = refl

ended : answer_to gate [] late configures ≡ Some (ErrorResponse WRITE_REQUEST 4 0x08)
unfolding after_entries
ended = refl

-- One PDU more at each request.

-- two connections at the door lock
abbrev pub two : State
two = record (state_at (host door 2)) { connections = λ ordinal. fresh_connection ordinal phone; slots = Some 0 ∷ Some 1 ∷ [] }

reads : Event
reads = Of 0 (Asks (0x0A ∷ 0x03 ∷ 0x00 ∷ []))

abbrev twice : State → State
twice state = record state {
  connections = λ ordinal. let connection = state.connections ordinal in
      record connection { pdus = connection.pdus ++ connection.pdus };
}

none-picked : (picks : List Bool) → picked picks [] ≡ []
none-picked [] = refl
none-picked (pick ∷ picks) = refl

none-indicated : (state : State) (ordinal : Ordinal) (told : List Response) (indicated : Option Handle)
    → told ≡ []
    ++ option_to_list
    (option_map (λ handle. indication_of state.shared.table.values handle (connection_mtu state.shared (state.connections ordinal))) indicated)
    → IfSome indicated (λ handle. (is_waiting [] handle || is_waiting [] handle) ≡ true) → told ≡ []
none-indicated state ordinal told None is due = is
none-indicated state ordinal told (Some handle) is due = cc due

-- where nothing is notified and nothing waits, nothing is told
none-told : (state : State) (ordinal : Ordinal) (told : List Response) → TellsOnly state ordinal [] [] told → told ≡ []
none-told state ordinal told only =
    none-indicated state ordinal told only.indicated
    (only.is ∙ ap (λ (handles : List Handle).
    map (λ handle. notification_of state.shared.table.values handle (connection_mtu state.shared (state.connections ordinal))) handles
    ++ option_to_list
    (option_map (λ handle. indication_of state.shared.table.values handle (connection_mtu state.shared (state.connections ordinal))) only.indicated))
    (none-picked only.picks))
    only.due

no-two : {one other only : Pdu} → one ∷ other ∷ [] ≡ only ∷ [] → ⊥
no-two is = cc is

more_than_one : (told : List Response) → told ≡ []
    → ((twice (step two reads)).connections 0).pdus ≡ kept_queue two 0 reads ++ (answers_at two 0 reads ++ map att_pdu told) → ⊥
unfolding reads step change_of live_effect after_hearing commands_due form_of value_answer pieces
more_than_one [] none is = no-two is
more_than_one (response ∷ told) none is = cc none

an_answer_twice : Gains two reads (twice (step two reads)) 0 → ⊥
unfolding reads
an_answer_twice gains = more_than_one gains.told (none-told (twice (step two reads)) 0 gains.told gains.only) gains.queue
