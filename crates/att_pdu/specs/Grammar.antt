-- The request of a PDU, or its fault.
use Rattle.std.specs.Prelude.{Bool, true, false, ◌==◌, not, nat_le, if◌then◌else◌, List, [], ◌∷◌, length, Option, Some, None, Result, Ok, Err}
use Rattle.std.specs.Int.RustNames.{bit_and}
use Rattle.std.specs.List.{list_any}
use Rattle.att_numbers.specs.Types.{Mtu, Opcode}
use Rattle.att_numbers.specs.declared.opcode.TheConstants.{ERROR_RESPONSE, EXCHANGE_MTU_REQUEST, EXCHANGE_MTU_RESPONSE, FIND_INFORMATION_REQUEST, FIND_INFORMATION_RESPONSE, FIND_BY_TYPE_VALUE_REQUEST, FIND_BY_TYPE_VALUE_RESPONSE, READ_BY_TYPE_REQUEST, READ_BY_TYPE_RESPONSE, READ_REQUEST, READ_RESPONSE, READ_BLOB_REQUEST, READ_BLOB_RESPONSE, READ_MULTIPLE_REQUEST, READ_MULTIPLE_RESPONSE, READ_BY_GROUP_TYPE_REQUEST, READ_BY_GROUP_TYPE_RESPONSE, WRITE_REQUEST, WRITE_RESPONSE, PREPARE_WRITE_REQUEST, PREPARE_WRITE_RESPONSE, EXECUTE_WRITE_REQUEST, EXECUTE_WRITE_RESPONSE, HANDLE_VALUE_NOTIFICATION, HANDLE_VALUE_INDICATION, HANDLE_VALUE_CONFIRMATION, COMMAND_FLAG}
use Rattle.att_pdu.specs.declared.grammar.PduFault.{PduFault}
use Rattle.att_pdu.specs.declared.grammar.PduFault.TheVariants.{Ignored, Invalid, Unsupported}
use Rattle.octet_io.specs.Number.{Octets}
use Rattle.att_pdu.specs.Form.{form_of}
use Rattle.att_pdu.specs.Request.{Asked, ConfirmationPdu, WriteCommandPdu}

abbrev pub is_one_of : List Opcode → Opcode → Bool
is_one_of opcodes opcode = list_any (λ other. opcode == other) opcodes

-- The opcodes of requests (Core 5.0, Vol 3 Part F, 3.4.8).
abbrev pub is_request : Opcode → Bool
is_request opcode =
    is_one_of
    (EXCHANGE_MTU_REQUEST ∷ FIND_INFORMATION_REQUEST ∷ FIND_BY_TYPE_VALUE_REQUEST
    ∷ READ_BY_TYPE_REQUEST ∷ READ_REQUEST ∷ READ_BLOB_REQUEST ∷ READ_MULTIPLE_REQUEST
    ∷ READ_BY_GROUP_TYPE_REQUEST ∷ WRITE_REQUEST ∷ PREPARE_WRITE_REQUEST ∷ EXECUTE_WRITE_REQUEST
    ∷ []) opcode

-- The opcodes of responses, notifications, indications and the confirmation.
abbrev pub is_no_request : Opcode → Bool
is_no_request opcode =
    is_one_of
    (ERROR_RESPONSE ∷ EXCHANGE_MTU_RESPONSE ∷ FIND_INFORMATION_RESPONSE
    ∷ FIND_BY_TYPE_VALUE_RESPONSE ∷ READ_BY_TYPE_RESPONSE ∷ READ_RESPONSE ∷ READ_BLOB_RESPONSE
    ∷ READ_MULTIPLE_RESPONSE ∷ READ_BY_GROUP_TYPE_RESPONSE ∷ WRITE_RESPONSE ∷ PREPARE_WRITE_RESPONSE
    ∷ EXECUTE_WRITE_RESPONSE ∷ HANDLE_VALUE_NOTIFICATION ∷ HANDLE_VALUE_INDICATION
    ∷ HANDLE_VALUE_CONFIRMATION ∷ []) opcode

-- The opcode of a command has bit 6 set (Core 5.0, Vol 3 Part F, 3.3.1).
abbrev pub is_command : Opcode → Bool
is_command opcode = not (bit_and opcode COMMAND_FLAG == 0)

-- The fault of a PDU that begins with this opcode but is no valid request (Core 5.0, Vol 3 Part F,
-- 3.3). (P-ATT-2, P-ATT-3, P-ATT-4)
unfoldable pub fault_of : Opcode → PduFault
fault_of opcode =
    if is_request opcode then Invalid opcode
    else if is_no_request opcode then Ignored
    else if is_command opcode then Ignored
    else Unsupported opcode

-- A request that exceeds the ATT_MTU is a fault.
abbrev pub within : Octets → Mtu → PduFault → Option Asked → Result Asked PduFault
within pdu mtu fault None = Err fault
within pdu mtu fault (Some request) = if nat_le (length pdu) mtu then Ok request else Err fault

abbrev pub request_of : Octets → Mtu → Result Asked PduFault
request_of [] mtu = Err Ignored
request_of (opcode ∷ parameters) mtu =
    within (opcode ∷ parameters) mtu (fault_of opcode) (form_of opcode parameters)

-- The server must respond.
abbrev pub is_due : Result Asked PduFault → Bool
is_due (Ok ConfirmationPdu) = false
is_due (Ok (WriteCommandPdu handle value)) = false
is_due (Ok _) = true
is_due (Err Ignored) = false
is_due (Err (Invalid opcode)) = true
is_due (Err (Unsupported opcode)) = true
