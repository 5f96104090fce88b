-- The refusals in their order: a request is refused by the first case that applies. The cases are
-- those of Core 5.0, Vol 3 Part F, 3.4.1.1, and OUT_OF_RANGE of the Core Specification Supplement;
-- their order is this profile's own. No definition of a response is used, only what a request asks
-- to write and when a value matches.
use Rattle.std.specs.Prelude.{◌≡◌, ◌+◌, ◌==◌, nat_lt, Bool, true, false, ◌&&◌, ◌||◌, not, is_some, if◌then◌else◌, List, [], ◌∷◌, length, map, take, filter, Option, Some, None, Ok, Err}
use Rattle.std.specs.Option.{option_map, option_and_then, option_or}
use Rattle.att_numbers.specs.AttributeType.{of_16_bits}
use Rattle.att_numbers.specs.Types.{Handle, Opcode, Code, Row, Values}
use Rattle.att_numbers.specs.declared.error_code.TheConstants.{INVALID_HANDLE, INVALID_PDU, REQUEST_NOT_SUPPORTED, INVALID_OFFSET, PREPARE_QUEUE_FULL, ATTRIBUTE_NOT_FOUND, INVALID_ATTRIBUTE_VALUE_LENGTH, UNSUPPORTED_GROUP_TYPE, OUT_OF_RANGE}
use Rattle.att_numbers.specs.declared.opcode.TheConstants.{EXCHANGE_MTU_REQUEST, FIND_INFORMATION_REQUEST, FIND_BY_TYPE_VALUE_REQUEST, READ_BY_TYPE_REQUEST, READ_REQUEST, READ_BLOB_REQUEST, READ_MULTIPLE_REQUEST, READ_BY_GROUP_TYPE_REQUEST, WRITE_REQUEST, PREPARE_WRITE_REQUEST, EXECUTE_WRITE_REQUEST, HANDLE_VALUE_CONFIRMATION, WRITE_COMMAND}
use Rattle.att_pdu.specs.Grammar.{is_due}
use Rattle.att_pdu.specs.Request.{ExchangeMtuRequest, FindInformationRequest, FindByTypeValueRequest, ReadByTypeRequest, ReadRequest, ReadBlobRequest, ReadMultipleRequest, ReadByGroupTypeRequest, WriteRequest, PrepareWriteRequest, ExecuteWriteRequest, ConfirmationPdu, WriteCommandPdu}
use Rattle.att_pdu.specs.Response.{Response, ErrorResponse}
use Rattle.att_pdu.specs.Uuid.{uuid_number}
use Rattle.att_pdu.specs.declared.grammar.PduFault.TheVariants.{Ignored, Invalid, Unsupported}
use Rattle.att_policy.specs.Policy.{first_broken_of}
use Rattle.att_policy.specs.Refusal.{Refusal}
use Rattle.att_policy.specs.declared.policy.Access.{Access}
use Rattle.att_policy.specs.declared.policy.Access.TheVariants.{Read, Write}
use Rattle.att_policy.specs.declared.standing.Standing.{Standing}
use Rattle.att_attributes.specs.Attributes.{attributes_in, guard_at, is_configuration_at, is_fixed_at, largest_at, configuration_bits_at}
use Rattle.att_attributes.specs.Group.{is_service_type}
use Rattle.att_attributes.specs.OfType.{handles_of_type}
use Rattle.att_attributes.specs.declared.attr.Attr.{Attr}
use Rattle.att_reads.specs.Access.{value_for}
use Rattle.att_reads.specs.Answer.{is_match}
use Rattle.att_table.specs.Table.{Contents, value_at}
use Rattle.att_writes.specs.Applied.{Stored, after_entry, stored_in}
use Rattle.att_writes.specs.Entry.{Entry}
use Rattle.att_writes.specs.Fault.{has_bits_within}
use Rattle.att_writes.specs.Queue.{has_queue_room}
use Rattle.gatt_conn.specs.Answer.{Question, Writing, answer_to, writing_asked, stored_by, handles_by, conn_after}
use Rattle.gatt_conn.specs.Connection.{Bearer}
use Rattle.gatt_conn.specs.Transcript.{asks_execution}
use Rattle.gatt_laws.specs.laws.View.{are_none}

abbrev pub first_there : {A : Type 0} → List (Option A) → Option A
first_there [] = None
first_there (one ∷ rest) = option_or one (first_there rest)

abbrev pub case_if : Bool → Handle → Code → Option Refusal
case_if applies handle code = if applies then Some (record { handle = handle; code = code })
    else None

-- A request with an unknown opcode, or one that is malformed or longer than the ATT_MTU, names no
-- handle.
abbrev pub is_unknown : Question → Bool
is_unknown (Err (Unsupported opcode)) = true
is_unknown question = false

abbrev pub is_malformed : Question → Bool
is_malformed (Err (Invalid opcode)) = true
is_malformed question = false

abbrev pub range_of : Question → Option (Handle × Handle)
range_of (Ok (FindInformationRequest first last)) = Some (first, last)
range_of (Ok (FindByTypeValueRequest first last type value)) = Some (first, last)
range_of (Ok (ReadByTypeRequest first last type)) = Some (first, last)
range_of (Ok (ReadByGroupTypeRequest first last type)) = Some (first, last)
range_of question = None

abbrev pub bad_range : Question → Option Refusal
bad_range question =
    option_and_then
    (λ (range : Handle × Handle).
    case_if ((range.0 == 0) || nat_lt range.1 range.0) range.0 INVALID_HANDLE) (range_of question)

-- Only services are read by group.
abbrev pub bad_group : Question → Option Refusal
bad_group (Ok (ReadByGroupTypeRequest first last type)) =
    case_if (not (is_service_type (uuid_number type))) first UNSUPPORTED_GROUP_TYPE
bad_group question = None

-- Find By Type Value finds only values that the client may read.
abbrev pub found_in_range : Contents → Row → Standing → Question → List Handle
found_in_range table row standing (Ok (FindInformationRequest first last)) =
    map (λ (attr : Attr). attr.handle) (attributes_in table.attributes first last)
found_in_range table row standing (Ok (FindByTypeValueRequest first last type value)) =
    filter (is_match table row standing value)
    (handles_of_type table.attributes (of_16_bits type) first last)
found_in_range table row standing (Ok (ReadByTypeRequest first last type)) =
    handles_of_type table.attributes (uuid_number type) first last
found_in_range table row standing (Ok (ReadByGroupTypeRequest first last type)) =
    handles_of_type table.attributes (uuid_number type) first last
found_in_range table row standing question = []

abbrev pub nothing_found : Contents → Row → Standing → Question → Option Refusal
nothing_found table row standing question =
    option_and_then
    (λ (range : Handle × Handle). case_if (are_none (found_in_range table row standing question))
    range.0 ATTRIBUTE_NOT_FOUND) (range_of question)

abbrev pub broken_at : Access → List Attr → Standing → Handle → Option Refusal
broken_at access attributes standing handle =
    option_map (λ broken. record { handle = handle; code = broken.1 })
    (first_broken_of access (guard_at attributes handle) standing)

-- The handles whose values are requested, in their order; of a list, the first.
abbrev pub handles_read : Contents → Question → List Handle
handles_read table (Ok (ReadRequest handle)) = handle ∷ []
handles_read table (Ok (ReadBlobRequest handle offset)) = handle ∷ []
handles_read table (Ok (ReadMultipleRequest handles)) = handles
handles_read table (Ok (ReadByTypeRequest first last type)) =
    take 1 (handles_of_type table.attributes (uuid_number type) first last)
handles_read table (Ok (ReadByGroupTypeRequest first last type)) =
    take 1 (handles_of_type table.attributes (uuid_number type) first last)
handles_read table question = []

abbrev pub unreadable : Contents → Standing → Question → Option Refusal
unreadable table standing question =
    first_there (map (broken_at Read table.attributes standing) (handles_read table question))

abbrev pub bad_offset : Contents → Row → Question → Option Refusal
bad_offset table row (Ok (ReadBlobRequest handle offset)) =
    case_if (nat_lt (length (value_for table row handle)) offset) handle INVALID_OFFSET
bad_offset table row question = None

abbrev pub unprepared : Contents → Bearer → Question → Option Refusal
unprepared table conn (Ok (PrepareWriteRequest handle offset part)) =
    first_there
    (broken_at Write table.attributes conn.standing handle
    ∷ case_if (not (has_queue_room conn.queue part)) handle PREPARE_QUEUE_FULL ∷ [])
unprepared table conn question = None

-- A write is bad if it begins past the end of the current value, passes the largest length or has
-- unsupported bits. A configuration is written whole, with two octets; a fixed value keeps its
-- length.
abbrev pub is_behind_the_end : List Attr → Values → Entry → Bool
is_behind_the_end attributes values entry =
    if is_configuration_at attributes entry.handle then not (entry.offset == 0)
    else nat_lt (length (value_at values entry.handle)) entry.offset

abbrev pub has_bad_length : List Attr → Values → Entry → Bool
has_bad_length attributes values entry =
    if is_configuration_at attributes entry.handle then not (length entry.part == 2)
    else nat_lt (if is_fixed_at attributes entry.handle then length (value_at values entry.handle)
    else largest_at attributes entry.handle)
    (entry.offset + length entry.part)

abbrev pub has_bad_bits : List Attr → Entry → Bool
has_bad_bits attributes entry =
    is_configuration_at attributes entry.handle
    && not (has_bits_within (configuration_bits_at attributes entry.handle) entry.part)

abbrev pub bad_entry : Access → List Attr → Standing → Values → Entry → Option Refusal
bad_entry access attributes standing values entry = first_there (
    broken_at access attributes standing entry.handle
    ∷ case_if (is_behind_the_end attributes values entry) entry.handle INVALID_OFFSET
    ∷ case_if (has_bad_length attributes values entry) entry.handle INVALID_ATTRIBUTE_VALUE_LENGTH
    ∷ case_if (has_bad_bits attributes entry) entry.handle OUT_OF_RANGE
    ∷ [])

-- Each write is checked against what those before it leave.
abbrev pub bad_entries : Access → List Attr → Standing → Stored → List Entry → List (Option Refusal)
bad_entries access attributes standing stored [] = []
bad_entries access attributes standing stored (entry ∷ entries) =
    bad_entry access attributes standing stored.values entry
    ∷ bad_entries access attributes standing (after_entry attributes stored entry) entries

abbrev pub unwritten : Contents → Row → Bearer → Question → Option Refusal
unwritten table row conn question =
    option_and_then
    (λ (writing : Writing).
    first_there
    (bad_entries writing.access table.attributes conn.standing
    (stored_in table row) writing.entries))
    (writing_asked conn.queue question)

-- The first case that applies, if one does.
abbrev pub first_case : Contents → Row → Bearer → Question → Option Refusal
first_case table row conn question = first_there (
    case_if (is_unknown question) 0 REQUEST_NOT_SUPPORTED
    ∷ case_if (is_malformed question) 0 INVALID_PDU
    ∷ bad_range question
    ∷ bad_group question
    ∷ nothing_found table row conn.standing question
    ∷ unreadable table conn.standing question
    ∷ bad_offset table row question
    ∷ unprepared table conn question
    ∷ unwritten table row conn question
    ∷ [])

-- The opcode that a refusal names (Core 5.0, Vol 3 Part F, 3.4.8); an ignored PDU has none.
abbrev pub request_opcode : Question → Opcode
request_opcode (Ok (ExchangeMtuRequest client_rx_mtu)) = EXCHANGE_MTU_REQUEST
request_opcode (Ok (FindInformationRequest first last)) = FIND_INFORMATION_REQUEST
request_opcode (Ok (FindByTypeValueRequest first last type value)) = FIND_BY_TYPE_VALUE_REQUEST
request_opcode (Ok (ReadByTypeRequest first last type)) = READ_BY_TYPE_REQUEST
request_opcode (Ok (ReadRequest handle)) = READ_REQUEST
request_opcode (Ok (ReadBlobRequest handle offset)) = READ_BLOB_REQUEST
request_opcode (Ok (ReadMultipleRequest handles)) = READ_MULTIPLE_REQUEST
request_opcode (Ok (ReadByGroupTypeRequest first last type)) = READ_BY_GROUP_TYPE_REQUEST
request_opcode (Ok (WriteRequest handle value)) = WRITE_REQUEST
request_opcode (Ok (PrepareWriteRequest handle offset part)) = PREPARE_WRITE_REQUEST
request_opcode (Ok (ExecuteWriteRequest flags)) = EXECUTE_WRITE_REQUEST
request_opcode (Ok ConfirmationPdu) = HANDLE_VALUE_CONFIRMATION
request_opcode (Ok (WriteCommandPdu handle value)) = WRITE_COMMAND
request_opcode (Err Ignored) = 0
request_opcode (Err (Invalid opcode)) = opcode
request_opcode (Err (Unsupported opcode)) = opcode

abbrev pub error_in : Option Response → Option Response
error_in (Some (ErrorResponse request handle code)) = Some (ErrorResponse request handle code)
error_in answer = None

abbrev pub refused_by : Question → Refusal → Response
refused_by question refusal = ErrorResponse (request_opcode question) refusal.handle refusal.code

-- An answer is an Error Response exactly if one is expected and a case applies, and then by the
-- first.
abbrev pub IsByTheFirstCase : Contents → Row → Bearer → Question → Option Response → Type 0
IsByTheFirstCase table row conn question answer =
    error_in answer
    ≡ (if is_due question then option_map (refused_by question) (first_case table row conn question)
    else None)

abbrev pub RefusesByTheFirstCase : Type 0
RefusesByTheFirstCase = (table : Contents) (row : Row) (conn : Bearer) (question : Question) →
    IsByTheFirstCase table row conn question (answer_to table row conn question)

-- An answer is expected to all except a command, a confirmation and an ignored PDU.
abbrev pub AnswersWhereDue : Type 0
AnswersWhereDue = (table : Contents) (row : Row) (conn : Bearer) (question : Question) →
    is_some (answer_to table row conn question) ≡ is_due question

-- No value, configuration, ATT_MTU or prepared write changes, except that an execution leaves
-- nothing prepared; no write is notified.
pub record ChangesNothing (table : Contents) (row : Row) (conn : Bearer)
    (question : Question) : Type 0 where
  pub stored : stored_by table row conn question ≡ stored_in table row
  pub written : handles_by table row conn question ≡ []
  pub kept : conn_after table.attributes conn question
      ≡ (if asks_execution question then record conn { queue = [] } else conn)

abbrev pub RefusedChangesNothing : Type 0
RefusedChangesNothing =
    (table : Contents) (row : Row) (conn : Bearer) (question : Question) (refusal : Refusal) →
    first_case table row conn question ≡ Some refusal → ChangesNothing table row conn question

abbrev pub IgnoredChangesNothing : Type 0
IgnoredChangesNothing =
    (table : Contents) (row : Row) (conn : Bearer) → ChangesNothing table row conn (Err Ignored)
