-- The format of the parameters after each opcode (Core 5.0, Vol 3 Part F, 3.4).
use Rattle.std.specs.Prelude.{◌≡◌, ℕ, ◌%◌, ◌==◌, ◌&&◌, nat_le, if◌then◌else◌, List, [], ◌∷◌, length, Option, Some, None, IfSome}
use Rattle.std.specs.Option.{option_map}
use Rattle.att_numbers.specs.Types.{Handle, Opcode}
use Rattle.att_numbers.specs.declared.opcode.TheConstants.{EXCHANGE_MTU_REQUEST, FIND_INFORMATION_REQUEST, FIND_BY_TYPE_VALUE_REQUEST, READ_BY_TYPE_REQUEST, READ_REQUEST, READ_BLOB_REQUEST, READ_MULTIPLE_REQUEST, READ_BY_GROUP_TYPE_REQUEST, WRITE_REQUEST, PREPARE_WRITE_REQUEST, EXECUTE_WRITE_REQUEST, HANDLE_VALUE_CONFIRMATION, WRITE_COMMAND}
use Rattle.att_pdu.specs.declared.request.ExecuteFlags.TheVariants.{Cancel, Write}
use Rattle.att_pdu.specs.declared.request.Request.{Request}
use Rattle.att_pdu.specs.Uuid.{uuid_form}
use Rattle.octet_io.specs.Number.{Octets, from_two}
use Rattle.att_pdu.specs.Request.{Asked, asked, flags_octet, spelled, ExchangeMtuRequest, FindInformationRequest, FindByTypeValueRequest, ReadByTypeRequest, ReadRequest, ReadBlobRequest, ReadMultipleRequest, ReadByGroupTypeRequest, WriteRequest, PrepareWriteRequest, ExecuteWriteRequest, ConfirmationPdu, WriteCommandPdu}

abbrev pub exchange_mtu_form : Octets → Option Asked
exchange_mtu_form (low ∷ high ∷ []) = Some (ExchangeMtuRequest (from_two low high))
exchange_mtu_form _ = None

abbrev pub find_information_form : Octets → Option Asked
find_information_form (low ∷ high ∷ last_low ∷ last_high ∷ []) =
    Some (FindInformationRequest (from_two low high) (from_two last_low last_high))
find_information_form _ = None

abbrev pub find_by_type_value_form : Octets → Option Asked
find_by_type_value_form (low ∷ high ∷ last_low ∷ last_high ∷ type_low ∷ type_high ∷ value) =
    Some (FindByTypeValueRequest (from_two low high) (from_two last_low last_high)
    (from_two type_low type_high) value)
find_by_type_value_form _ = None

abbrev pub read_by_type_form : Octets → Option Asked
read_by_type_form (low ∷ high ∷ last_low ∷ last_high ∷ uuid) =
    option_map (ReadByTypeRequest (from_two low high) (from_two last_low last_high))
    (uuid_form uuid)
read_by_type_form _ = None

abbrev pub read_form : Octets → Option Asked
read_form (low ∷ high ∷ []) = Some (ReadRequest (from_two low high))
read_form _ = None

abbrev pub read_blob_form : Octets → Option Asked
read_blob_form (low ∷ high ∷ offset_low ∷ offset_high ∷ []) =
    Some (ReadBlobRequest (from_two low high) (from_two offset_low offset_high))
read_blob_form _ = None

abbrev pub handles_of : Octets → List Handle
handles_of (low ∷ high ∷ rest) = (from_two low high) ∷ handles_of rest
handles_of _ = []

-- A Read Multiple Request has two or more handles.
abbrev pub read_multiple_form : Octets → Option Asked
read_multiple_form parameters =
    if (length parameters % 2 == 0) && nat_le 4 (length parameters)
    then Some (ReadMultipleRequest (handles_of parameters))
    else None

abbrev pub read_by_group_type_form : Octets → Option Asked
read_by_group_type_form (low ∷ high ∷ last_low ∷ last_high ∷ uuid) =
    option_map (ReadByGroupTypeRequest (from_two low high) (from_two last_low last_high))
    (uuid_form uuid)
read_by_group_type_form _ = None

abbrev pub write_form : Octets → Option Asked
write_form (low ∷ high ∷ value) = Some (WriteRequest (from_two low high) value)
write_form _ = None

abbrev pub prepare_write_form : Octets → Option Asked
prepare_write_form (low ∷ high ∷ offset_low ∷ offset_high ∷ part) =
    Some (PrepareWriteRequest (from_two low high) (from_two offset_low offset_high) part)
prepare_write_form _ = None

abbrev pub flags_form : ℕ → Option Asked
flags_form flags =
    if flags == flags_octet Cancel then Some (ExecuteWriteRequest Cancel)
    else if flags == flags_octet Write then Some (ExecuteWriteRequest Write)
    else None

abbrev pub execute_write_form : Octets → Option Asked
execute_write_form (flags ∷ []) = flags_form flags
execute_write_form _ = None

abbrev pub confirmation_form : Octets → Option Asked
confirmation_form [] = Some ConfirmationPdu
confirmation_form _ = None

abbrev pub write_command_form : Octets → Option Asked
write_command_form (low ∷ high ∷ value) = Some (WriteCommandPdu (from_two low high) value)
write_command_form _ = None

unfoldable pub form_of : Opcode → Octets → Option Asked
form_of opcode parameters =
    if opcode == EXCHANGE_MTU_REQUEST then exchange_mtu_form parameters
    else if opcode == FIND_INFORMATION_REQUEST then find_information_form parameters
    else if opcode == FIND_BY_TYPE_VALUE_REQUEST then find_by_type_value_form parameters
    else if opcode == READ_BY_TYPE_REQUEST then read_by_type_form parameters
    else if opcode == READ_REQUEST then read_form parameters
    else if opcode == READ_BLOB_REQUEST then read_blob_form parameters
    else if opcode == READ_MULTIPLE_REQUEST then read_multiple_form parameters
    else if opcode == READ_BY_GROUP_TYPE_REQUEST then read_by_group_type_form parameters
    else if opcode == WRITE_REQUEST then write_form parameters
    else if opcode == PREPARE_WRITE_REQUEST then prepare_write_form parameters
    else if opcode == EXECUTE_WRITE_REQUEST then execute_write_form parameters
    else if opcode == HANDLE_VALUE_CONFIRMATION then confirmation_form parameters
    else if opcode == WRITE_COMMAND then write_command_form parameters
    else None

-- The parsed request is the given one and encodes to the PDU.
pub record IsForm (opcode : Opcode) (parameters : Octets) (given : Option Asked)
    (request : Option Request) : Type 0 where
  pub form : option_map asked request ≡ given
  pub spelled : IfSome request (λ of. spelled (asked of) ≡ opcode ∷ parameters)
