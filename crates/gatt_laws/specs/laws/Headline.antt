-- An answer sends only what may be read, writes only what may be written, and changes nothing if it
-- is a refusal.
use Rattle.std.specs.Prelude.{◌≡◌, IfSome, if◌then◌else◌, List, [], ◌∷◌, map, Some}
use Rattle.att_numbers.specs.Types.{Handle, Opcode, Code, Row}
use Rattle.att_pdu.specs.Request.{Asked, ExchangeMtuRequest, FindInformationRequest, FindByTypeValueRequest, ReadByTypeRequest, ReadRequest, ReadBlobRequest, ReadMultipleRequest, ReadByGroupTypeRequest, WriteRequest, PrepareWriteRequest, ExecuteWriteRequest, ConfirmationPdu, WriteCommandPdu}
use Rattle.att_pdu.specs.Response.{Element, OfAttribute, OfGroup, Response, ErrorResponse, ExchangeMtuResponse, FindInformationResponse, FindByTypeValueResponse, ReadByTypeResponse, ReadResponse, ReadBlobResponse, ReadMultipleResponse, ReadByGroupTypeResponse, WriteResponse, PrepareWriteResponse, ExecuteWriteResponse, HandleValueNotification, HandleValueIndication}
use Rattle.att_policy.specs.declared.policy.Access.{Access}
use Rattle.att_policy.specs.declared.policy.Access.TheVariants.{Read}
use Rattle.att_policy.specs.declared.standing.Standing.{Standing}
use Rattle.att_policy.specs.Policy.{IsPermitted}
use Rattle.att_attributes.specs.declared.attr.Attr.{Attr}
use Rattle.att_attributes.specs.Attributes.{guard_at}
use Rattle.att_table.specs.Table.{Contents}
use Rattle.att_writes.specs.Applied.{stored_in}
use Rattle.gatt_conn.specs.Answer.{Question, response_to, answer_to, writing_asked, stored_by, handles_by, conn_after}
use Rattle.gatt_conn.specs.Connection.{Bearer}
use Rattle.gatt_conn.specs.Transcript.{asks_execution}

abbrev pub Each : (Handle → Type 0) → List Handle → Type 0
Each P [] = Unit
Each P (handle ∷ handles) = P handle × Each P handles

-- No rule of the policy is broken at a handle.
abbrev pub MayUse : Access → List Attr → Standing → Handle → Type 0
MayUse access attributes standing handle = IsPermitted access (guard_at attributes handle) standing

-- The handle whose value an element contains, or declares to be equal to one that the client named.
abbrev pub element_handle : Element → Handle
element_handle (OfAttribute handle octets) = handle
element_handle (OfGroup first last value) = first

-- The handles that a request names, if its response has their values but no handles.
abbrev pub handles_asked : Asked → List Handle
handles_asked (ReadRequest handle) = handle ∷ []
handles_asked (ReadBlobRequest handle offset) = handle ∷ []
handles_asked (ReadMultipleRequest handles) = handles
handles_asked (ExchangeMtuRequest client_rx_mtu) = []
handles_asked (FindInformationRequest first last) = []
handles_asked (FindByTypeValueRequest first last type value) = []
handles_asked (ReadByTypeRequest first last type) = []
handles_asked (ReadByGroupTypeRequest first last type) = []
handles_asked (WriteRequest handle value) = []
handles_asked (PrepareWriteRequest handle offset part) = []
handles_asked (ExecuteWriteRequest flags) = []
handles_asked ConfirmationPdu = []
handles_asked (WriteCommandPdu handle value) = []

abbrev pub handles_sent : Asked → Response → List Handle
handles_sent asked (ReadResponse value) = handles_asked asked
handles_sent asked (ReadBlobResponse part) = handles_asked asked
handles_sent asked (ReadMultipleResponse values) = handles_asked asked
handles_sent asked (FindByTypeValueResponse groups) = map element_handle groups
handles_sent asked (ReadByTypeResponse size values) = map element_handle values
handles_sent asked (ReadByGroupTypeResponse size groups) = map element_handle groups
handles_sent asked (ErrorResponse request handle code) = []
handles_sent asked (ExchangeMtuResponse server_rx_mtu) = []
handles_sent asked (FindInformationResponse format types) = []
handles_sent asked WriteResponse = []
handles_sent asked (PrepareWriteResponse handle offset part) = []
handles_sent asked ExecuteWriteResponse = []
handles_sent asked (HandleValueNotification handle value) = []
handles_sent asked (HandleValueIndication handle value) = []

-- The client may then read each value that is sent.
abbrev pub SendsWhatMayBeRead : Type 0
SendsWhatMayBeRead = (table : Contents) (row : Row) (conn : Bearer) (asked : Asked) →
    IfSome (response_to table row conn asked)
    (λ response. Each (MayUse Read table.attributes conn.standing) (handles_sent asked response))

-- The client may then write each handle that is written, in the way that it asks.
abbrev pub WritesWhatMayBeWritten : Type 0
WritesWhatMayBeWritten = (table : Contents) (row : Row) (conn : Bearer) (asked : Question) →
    IfSome (writing_asked conn.queue asked)
    (λ writing. Each (MayUse writing.access table.attributes conn.standing)
    (handles_by table row conn asked))

-- A refusal changes no value, configuration, ATT_MTU or prepared write, except that an execution
-- leaves nothing prepared.
abbrev pub RefusalsChangeNothing : Type 0
RefusalsChangeNothing =
    (table : Contents) (row : Row) (conn : Bearer) (asked : Question) (request : Opcode)
    (handle : Handle) (code : Code) →
    answer_to table row conn asked ≡ Some (ErrorResponse request handle code) →
    (stored_by table row conn asked ≡ stored_in table row)
    × (conn_after table.attributes conn asked
    ≡ (if asks_execution asked then record conn { queue = [] } else conn))
