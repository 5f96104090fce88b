-- The PDUs of a server and their encoding.
use Rattle.std.specs.Prelude.{ℕ, List, [], ◌∷◌, ◌++◌, Option, Some, None}
use Rattle.std.specs.List.{flat_map}
use Rattle.att_numbers.specs.Types.{Handle, Mtu, Opcode, Code}
use Rattle.att_numbers.specs.declared.opcode.TheConstants.{ERROR_RESPONSE, EXCHANGE_MTU_RESPONSE, FIND_INFORMATION_RESPONSE, FIND_BY_TYPE_VALUE_RESPONSE, READ_BY_TYPE_RESPONSE, READ_RESPONSE, READ_BLOB_RESPONSE, READ_MULTIPLE_RESPONSE, READ_BY_GROUP_TYPE_RESPONSE, WRITE_RESPONSE, PREPARE_WRITE_RESPONSE, EXECUTE_WRITE_RESPONSE, HANDLE_VALUE_NOTIFICATION, HANDLE_VALUE_INDICATION}
use Rattle.octet_io.specs.Number.{Octets, two_octets}

-- An attribute with its type or value, or a group with its value.
pub data Element : Type 0 where
  OfAttribute : (handle : Handle) (octets : Octets) → Element
  OfGroup : (first last : Handle) (value : Octets) → Element

abbrev pub element_octets : Element → Octets
element_octets (OfAttribute handle octets) = two_octets handle ++ octets
element_octets (OfGroup first last value) = two_octets first ++ two_octets last ++ value

-- The PDUs of a server; the elements of a list have one length, told by its format or size field.
pub data Response : Type 0 where
  ErrorResponse : (request : Opcode) (handle : Handle) (code : Code) → Response
  ExchangeMtuResponse : (server_rx_mtu : Mtu) → Response
  FindInformationResponse : (format : ℕ) (types : List Element) → Response
  FindByTypeValueResponse : (groups : List Element) → Response
  ReadByTypeResponse : (size : ℕ) (values : List Element) → Response
  ReadResponse : (value : Octets) → Response
  ReadBlobResponse : (part : Octets) → Response
  ReadMultipleResponse : (values : Octets) → Response
  ReadByGroupTypeResponse : (size : ℕ) (groups : List Element) → Response
  WriteResponse : Response
  PrepareWriteResponse : (handle : Handle) (offset : ℕ) (part : Octets) → Response
  ExecuteWriteResponse : Response
  HandleValueNotification : (handle : Handle) (value : Octets) → Response
  HandleValueIndication : (handle : Handle) (value : Octets) → Response

-- The octets of a response (Core 5.0, Vol 3 Part F, 3.4).
abbrev pub sent : Response → Octets
sent (ErrorResponse request handle code) = ERROR_RESPONSE ∷ request ∷ two_octets handle ++ code ∷ []
sent (ExchangeMtuResponse server_rx_mtu) = EXCHANGE_MTU_RESPONSE ∷ two_octets server_rx_mtu
sent (FindInformationResponse format types) =
    FIND_INFORMATION_RESPONSE ∷ format ∷ flat_map element_octets types
sent (FindByTypeValueResponse groups) = FIND_BY_TYPE_VALUE_RESPONSE ∷ flat_map element_octets groups
sent (ReadByTypeResponse size values) =
    READ_BY_TYPE_RESPONSE ∷ size ∷ flat_map element_octets values
sent (ReadResponse value) = READ_RESPONSE ∷ value
sent (ReadBlobResponse part) = READ_BLOB_RESPONSE ∷ part
sent (ReadMultipleResponse values) = READ_MULTIPLE_RESPONSE ∷ values
sent (ReadByGroupTypeResponse size groups) =
    READ_BY_GROUP_TYPE_RESPONSE ∷ size ∷ flat_map element_octets groups
sent WriteResponse = WRITE_RESPONSE ∷ []
sent (PrepareWriteResponse handle offset part) =
    PREPARE_WRITE_RESPONSE ∷ two_octets handle ++ two_octets offset ++ part
sent ExecuteWriteResponse = EXECUTE_WRITE_RESPONSE ∷ []
sent (HandleValueNotification handle value) = HANDLE_VALUE_NOTIFICATION ∷ two_octets handle ++ value
sent (HandleValueIndication handle value) = HANDLE_VALUE_INDICATION ∷ two_octets handle ++ value

abbrev pub sent_if_any : Option Response → Octets
sent_if_any (Some response) = sent response
sent_if_any None = []
