-- A refusal has the code of the first broken rule, at the first handle that breaks one.
use Rattle.std.specs.Prelude.{◌≡◌, IfSome, List, ◌∷◌, ◌++◌, length, Option, Some, None, Ok, Err}
use Rattle.att_numbers.specs.declared.opcode.TheConstants.{READ_BY_TYPE_REQUEST, READ_REQUEST, READ_BLOB_REQUEST, READ_MULTIPLE_REQUEST, WRITE_REQUEST, PREPARE_WRITE_REQUEST}
use Rattle.att_numbers.specs.Types.{Handle, Opcode, Code, Row}
use Rattle.att_pdu.specs.Request.{Asked, ExchangeMtuRequest, FindInformationRequest, FindByTypeValueRequest, ReadByTypeRequest, ReadRequest, ReadBlobRequest, ReadMultipleRequest, ReadByGroupTypeRequest, WriteRequest, PrepareWriteRequest, ExecuteWriteRequest, ConfirmationPdu, WriteCommandPdu}
use Rattle.att_pdu.specs.Response.{ErrorResponse}
use Rattle.att_pdu.specs.declared.uuid.Uuid.{Uuid}
use Rattle.att_pdu.specs.Uuid.{uuid_number}
use Rattle.att_policy.specs.declared.policy.Access.{Access}
use Rattle.att_policy.specs.declared.policy.Access.TheVariants.{Read, Write}
use Rattle.att_policy.specs.declared.policy.Rule.{Rule}
use Rattle.att_policy.specs.declared.standing.Standing.{Standing}
use Rattle.att_policy.specs.Policy.{code_of, first_broken_rule_of}
use Rattle.att_reads.specs.Refusals.{range_refusal}
use Rattle.att_attributes.specs.declared.attr.Attr.{Attr}
use Rattle.att_attributes.specs.Attributes.{guard_at}
use Rattle.att_attributes.specs.OfType.{handles_of_type}
use Rattle.att_table.specs.Table.{Contents, value_at}
use Rattle.att_writes.specs.Applied.{Stored, after_entries}
use Rattle.att_writes.specs.Entry.{Entry}
use Rattle.att_writes.specs.Fault.{entry_fault}
use Rattle.gatt_conn.specs.Answer.{response_to}
use Rattle.gatt_conn.specs.Connection.{Bearer}
use Rattle.gatt_laws.specs.laws.Headline.{Each, MayUse}

pub record Named : Type 0 where
  pub request : Opcode
  pub handle : Handle
  pub access : Access

abbrev pub named_by : Asked → Option Named
named_by (ReadRequest handle) =
    Some (record { request = READ_REQUEST; handle = handle; access = Read })
named_by (ReadBlobRequest handle offset) =
    Some (record { request = READ_BLOB_REQUEST; handle = handle; access = Read })
named_by (WriteRequest handle value) =
    Some (record { request = WRITE_REQUEST; handle = handle; access = Write })
named_by (PrepareWriteRequest handle offset part) =
    Some (record { request = PREPARE_WRITE_REQUEST; handle = handle; access = Write })
named_by (ExchangeMtuRequest client_rx_mtu) = None
named_by (FindInformationRequest first last) = None
named_by (FindByTypeValueRequest first last type value) = None
named_by (ReadByTypeRequest first last type) = None
named_by (ReadMultipleRequest handles) = None
named_by (ReadByGroupTypeRequest first last type) = None
named_by (ExecuteWriteRequest flags) = None
named_by ConfirmationPdu = None
named_by (WriteCommandPdu handle value) = None

-- A request that names one attribute is refused with its handle, by the first broken rule.
abbrev pub RefusesByTheFirstBrokenRule : Type 0
RefusesByTheFirstBrokenRule =
    (table : Contents) (row : Row) (conn : Bearer) (asked : Asked) (rule : Rule) →
    IfSome (named_by asked) (λ named.
    first_broken_rule_of named.access (guard_at table.attributes named.handle) conn.standing
    ≡ Some rule →
    response_to table row conn asked
    ≡ Some (ErrorResponse named.request named.handle (code_of named.access conn.standing rule)))

-- A list of values is refused with its first attribute, if the client may not read that.
abbrev pub RefusesTheFirstListed : Type 0
RefusesTheFirstListed =
    (table : Contents) (row : Row) (conn : Bearer) (first last : Handle) (type : Uuid)
    (handle : Handle) (rest : List Handle) (rule : Rule) →
    range_refusal first last ≡ None →
    handles_of_type table.attributes (uuid_number type) first last ≡ handle ∷ rest →
    first_broken_rule_of Read (guard_at table.attributes handle) conn.standing ≡ Some rule →
    response_to table row conn (ReadByTypeRequest first last type)
    ≡ Some (ErrorResponse READ_BY_TYPE_REQUEST handle (code_of Read conn.standing rule))

-- Several values are refused with the first handle that is refused, prepared writes with the first
-- entry that is refused after those before it.
abbrev pub RefusesTheFirstHandle : Type 0
RefusesTheFirstHandle =
    (table : Contents) (row : Row) (conn : Bearer) (before after : List Handle) (handle : Handle)
    (rule : Rule) →
    Each (MayUse Read table.attributes conn.standing) before →
    first_broken_rule_of Read (guard_at table.attributes handle) conn.standing ≡ Some rule →
    response_to table row conn (ReadMultipleRequest (before ++ handle ∷ after))
    ≡ Some (ErrorResponse READ_MULTIPLE_REQUEST handle (code_of Read conn.standing rule))

abbrev pub RefusesTheFirstEntry : Type 0
RefusesTheFirstEntry =
    (access : Access) (attributes : List Attr) (standing : Standing) (stored by : Stored)
    (before after : List Entry) (entry : Entry) (code : Code) →
    after_entries access attributes standing stored before ≡ Ok by →
    entry_fault access attributes standing (length (value_at by.values entry.handle)) entry
    ≡ Some code →
    after_entries access attributes standing stored (before ++ entry ∷ after)
    ≡ Err (record { handle = entry.handle; code = code })
