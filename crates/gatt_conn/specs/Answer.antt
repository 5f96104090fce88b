-- The response to a PDU, its writes, and the connection afterwards.
use Rattle.std.specs.Prelude.{ℕ, Bool, false, ◌==◌, List, [], ◌∷◌, Option, Some, None, Result, Ok, Err}
use Rattle.att_numbers.specs.Types.{Handle, Opcode, Code, Row, Values}
use Rattle.att_numbers.specs.declared.error_code.TheConstants.{INVALID_PDU, REQUEST_NOT_SUPPORTED}
use Rattle.att_numbers.specs.declared.opcode.TheConstants.{WRITE_REQUEST, PREPARE_WRITE_REQUEST, EXECUTE_WRITE_REQUEST, HANDLE_VALUE_CONFIRMATION}
use Rattle.att_pdu.specs.declared.grammar.PduFault.{PduFault}
use Rattle.att_pdu.specs.declared.grammar.PduFault.TheVariants.{Ignored, Invalid, Unsupported}
use Rattle.att_pdu.specs.declared.request.ExecuteFlags.{ExecuteFlags}
use Rattle.att_pdu.specs.declared.request.ExecuteFlags.TheVariants as flags
use Rattle.att_pdu.specs.Request.{Asked, ExchangeMtuRequest, WriteRequest, PrepareWriteRequest, ExecuteWriteRequest, WriteCommandPdu}
use Rattle.att_pdu.specs.Response.{Response, ErrorResponse, ExchangeMtuResponse, WriteResponse, PrepareWriteResponse, ExecuteWriteResponse}
use Rattle.att_policy.specs.declared.policy.Access.{Access}
use Rattle.att_policy.specs.declared.policy.Access.TheVariants.{Write, Command}
use Rattle.att_policy.specs.declared.standing.Standing.{Standing}
use Rattle.att_reads.specs.Answer.{read_answer}
use Rattle.att_attributes.specs.declared.attr.Attr.{Attr}
use Rattle.att_table.specs.Table.{Contents}
use Rattle.att_policy.specs.Refusal.{Refusal}
use Rattle.att_writes.specs.Applied.{Stored, stored_in, applied_to, written_to}
use Rattle.att_writes.specs.Entry.{Entry, whole_value}
use Rattle.att_writes.specs.Queue.{prepare_fault, queue_after, touched_by}
use Rattle.gatt_conn.specs.Connection.{Bearer, after_exchange}
use Rattle.octet_io.specs.Number.{Octets}

-- The request of a PDU at a connection's ATT_MTU, or its fault.
abbrev pub Question : Type 0
Question = Result Asked PduFault

-- The response to writes, or the error of the first rejected entry.
abbrev pub written_response : Opcode → Response → Result Stored Refusal → Response
written_response request granted (Ok stored) = granted
written_response request granted (Err refusal) = ErrorResponse request refusal.handle refusal.code

-- A Write Request (Core 5.0, Vol 3 Part F, 3.4.5.1).
abbrev pub write_response : Contents → Row → Standing → Handle → Octets → Response
write_response table row standing handle value =
    written_response WRITE_REQUEST WriteResponse
    (applied_to Write table row standing (whole_value handle value ∷ []))

-- A Prepare Write Response repeats the request (3.4.6.1).
abbrev pub prepare_response : Entry → Option Code → Response
prepare_response entry (Some code) = ErrorResponse PREPARE_WRITE_REQUEST entry.handle code
prepare_response entry None = PrepareWriteResponse entry.handle entry.offset entry.part

-- An Execute Write Request cancels the queue, or writes all of it or nothing (3.4.6.3). (P-PREP-4)
abbrev pub execute_response : Contents → Row → Standing → List Entry → ExecuteFlags → Response
execute_response table row standing queue flags.Cancel = ExecuteWriteResponse
execute_response table row standing queue flags.Write =
    written_response EXECUTE_WRITE_REQUEST ExecuteWriteResponse
    (applied_to Write table row standing queue)

abbrev pub entry_at : Handle → ℕ → Octets → Entry
entry_at handle offset part = record { handle = handle; offset = offset; part = part }

-- The response to a request; a confirmation or command has none. (P-WRITE-3)
abbrev pub response_to : Contents → Row → Bearer → Asked → Option Response
response_to table row conn (ExchangeMtuRequest client_rx_mtu) =
    Some (ExchangeMtuResponse conn.rx_mtu)
response_to table row conn (WriteRequest handle value) =
    Some (write_response table row conn.standing handle value)
response_to table row conn (PrepareWriteRequest handle offset part) =
    let entry = entry_at handle offset part in
    Some (prepare_response entry (prepare_fault table.attributes conn.standing conn.queue entry))
response_to table row conn (ExecuteWriteRequest flags) =
    Some (execute_response table row conn.standing conn.queue flags)
response_to table row conn asked = read_answer table row conn.standing conn.mtu asked

-- The response to a PDU, if there is one. (P-ATT-2, P-ATT-3, P-ATT-4)
abbrev pub answer_to : Contents → Row → Bearer → Question → Option Response
answer_to table row conn (Ok asked) = response_to table row conn asked
answer_to table row conn (Err Ignored) = None
answer_to table row conn (Err (Invalid opcode)) = Some (ErrorResponse opcode 0 INVALID_PDU)
answer_to table row conn (Err (Unsupported opcode)) =
    Some (ErrorResponse opcode 0 REQUEST_NOT_SUPPORTED)

pub record Writing : Type 0 where
  pub access : Access
  pub entries : List Entry

-- An execution writes the queue. (P-WRITE-3)
abbrev pub writing_asked : List Entry → Question → Option Writing
writing_asked queue (Ok (WriteRequest handle value)) =
    Some (record { access = Write; entries = whole_value handle value ∷ [] })
writing_asked queue (Ok (ExecuteWriteRequest flags.Write)) =
    Some (record { access = Write; entries = queue })
writing_asked queue (Ok (WriteCommandPdu handle value)) =
    Some (record { access = Command; entries = whole_value handle value ∷ [] })
writing_asked queue _ = None

-- The table's values and the client's row afterwards.
abbrev pub stored_after_writing : Contents → Row → Standing → Option Writing → Stored
stored_after_writing table row standing None = stored_in table row
stored_after_writing table row standing (Some writing) =
    written_to writing.access table row standing writing.entries

abbrev pub stored_by : Contents → Row → Bearer → Question → Stored
stored_by table row conn asked =
    stored_after_writing table row conn.standing (writing_asked conn.queue asked)

-- The written handles, each once, in the order of first entries.
abbrev pub handles_after : Contents → Row → Standing → Option Writing → List Handle
handles_after table row standing None = []
handles_after table row standing (Some writing) =
    touched_by writing.entries (applied_to writing.access table row standing writing.entries)

abbrev pub handles_by : Contents → Row → Bearer → Question → List Handle
handles_by table row conn asked =
    handles_after table row conn.standing (writing_asked conn.queue asked)

-- The connection afterwards, independent of values and rows: an exchange sets the ATT_MTU, an
-- accepted part joins the queue, and an execution empties it. (P-PREP-4)
abbrev pub conn_after : List Attr → Bearer → Question → Bearer
conn_after attributes conn (Ok (ExchangeMtuRequest client_rx_mtu)) =
    after_exchange conn client_rx_mtu
conn_after attributes conn (Ok (PrepareWriteRequest handle offset part)) =
    let entry = entry_at handle offset part in
    record conn {
      queue = queue_after conn.queue entry
          (prepare_fault attributes conn.standing conn.queue entry);
    }
conn_after attributes conn (Ok (ExecuteWriteRequest flags)) = record conn { queue = [] }
conn_after attributes conn _ = conn

-- The PDU is a confirmation (Core 5.0, Vol 3 Part F, 3.4.7.3).
abbrev pub is_confirmation : Octets → Bool
is_confirmation (opcode ∷ []) = opcode == HANDLE_VALUE_CONFIRMATION
is_confirmation _ = false
