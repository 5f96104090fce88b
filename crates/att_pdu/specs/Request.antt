-- Requests and their encoding.
use Rattle.std.specs.Prelude.{ℕ, ◌^◌, ◌<◌, ◌≤◌, List, [], ◌∷◌, ◌++◌, length, map, All}
use Rattle.std.specs.Int.{w16, from_le_bytes}
use Rattle.std.specs.List.{flat_map}
use Rattle.att_numbers.specs.Types.{Handle, Mtu}
use Rattle.att_numbers.specs.declared.opcode.TheConstants.{EXCHANGE_MTU_REQUEST, FIND_INFORMATION_REQUEST, FIND_BY_TYPE_VALUE_REQUEST, READ_BY_TYPE_REQUEST, READ_REQUEST, READ_BLOB_REQUEST, READ_MULTIPLE_REQUEST, READ_BY_GROUP_TYPE_REQUEST, WRITE_REQUEST, PREPARE_WRITE_REQUEST, EXECUTE_WRITE_REQUEST, HANDLE_VALUE_CONFIRMATION, WRITE_COMMAND}
use Rattle.att_pdu.specs.declared.uuid.Uuid.{Uuid}
use Rattle.att_pdu.specs.declared.request.ExecuteFlags.{ExecuteFlags}
use Rattle.att_pdu.specs.declared.request.ExecuteFlags.TheVariants as flags
use Rattle.att_pdu.specs.declared.request.Request.{Request}
use Rattle.att_pdu.specs.declared.request.Request.TheVariants.{ExchangeMtu, FindInformation, FindByTypeValue, ReadByType, Read, ReadBlob, ReadMultiple, ReadByGroupType, Write, PrepareWrite, ExecuteWrite, Confirmation, WriteCommand}
use Rattle.att_pdu.specs.Uuid.{uuid_octets, HasUuidOctets}
use Rattle.octet_io.specs.Number.{Octets, two_octets}

pub data Asked : Type 0 where
  ExchangeMtuRequest : (client_rx_mtu : Mtu) → Asked
  FindInformationRequest : (first last : Handle) → Asked
  FindByTypeValueRequest : (first last : Handle) (type : ℕ) (value : Octets) → Asked
  ReadByTypeRequest : (first last : Handle) (type : Uuid) → Asked
  ReadRequest : (handle : Handle) → Asked
  ReadBlobRequest : (handle : Handle) (offset : ℕ) → Asked
  ReadMultipleRequest : (handles : List Handle) → Asked
  ReadByGroupTypeRequest : (first last : Handle) (type : Uuid) → Asked
  WriteRequest : (handle : Handle) (value : Octets) → Asked
  PrepareWriteRequest : (handle : Handle) (offset : ℕ) (part : Octets) → Asked
  ExecuteWriteRequest : (flags : ExecuteFlags) → Asked
  ConfirmationPdu : Asked
  WriteCommandPdu : (handle : Handle) (value : Octets) → Asked

abbrev pub asked : Request → Asked
asked (ExchangeMtu client_rx_mtu) = ExchangeMtuRequest client_rx_mtu
asked (FindInformation first last) = FindInformationRequest first last
asked (FindByTypeValue first last type value) = FindByTypeValueRequest first last type value.now
asked (ReadByType first last type) = ReadByTypeRequest first last type
asked (Read handle) = ReadRequest handle
asked (ReadBlob handle offset) = ReadBlobRequest handle offset
asked (ReadMultiple handles) = ReadMultipleRequest (map (from_le_bytes w16) handles.now)
asked (ReadByGroupType first last type) = ReadByGroupTypeRequest first last type
asked (Write handle value) = WriteRequest handle value.now
asked (PrepareWrite handle offset part) = PrepareWriteRequest handle offset part.now
asked (ExecuteWrite flags) = ExecuteWriteRequest flags
asked Confirmation = ConfirmationPdu
asked (WriteCommand handle value) = WriteCommandPdu handle value.now

-- The flags of an Execute Write Request (Core 5.0, Vol 3 Part F, 3.4.6.3).
abbrev pub flags_octet : ExecuteFlags → ℕ
flags_octet flags.Cancel = 0x00
flags_octet flags.Write = 0x01

-- The octets of a request (Core 5.0, Vol 3 Part F, 3.4).
abbrev pub spelled : Asked → Octets
spelled (ExchangeMtuRequest client_rx_mtu) = EXCHANGE_MTU_REQUEST ∷ two_octets client_rx_mtu
spelled (FindInformationRequest first last) =
    FIND_INFORMATION_REQUEST ∷ two_octets first ++ two_octets last
spelled (FindByTypeValueRequest first last type value) =
    FIND_BY_TYPE_VALUE_REQUEST ∷ two_octets first ++ two_octets last ++ two_octets type ++ value
spelled (ReadByTypeRequest first last type) =
    READ_BY_TYPE_REQUEST ∷ two_octets first ++ two_octets last ++ uuid_octets type
spelled (ReadRequest handle) = READ_REQUEST ∷ two_octets handle
spelled (ReadBlobRequest handle offset) = READ_BLOB_REQUEST ∷ two_octets handle ++ two_octets offset
spelled (ReadMultipleRequest handles) = READ_MULTIPLE_REQUEST ∷ flat_map two_octets handles
spelled (ReadByGroupTypeRequest first last type) =
    READ_BY_GROUP_TYPE_REQUEST ∷ two_octets first ++ two_octets last ++ uuid_octets type
spelled (WriteRequest handle value) = WRITE_REQUEST ∷ two_octets handle ++ value
spelled (PrepareWriteRequest handle offset part) =
    PREPARE_WRITE_REQUEST ∷ two_octets handle ++ two_octets offset ++ part
spelled (ExecuteWriteRequest flags) = EXECUTE_WRITE_REQUEST ∷ flags_octet flags ∷ []
spelled ConfirmationPdu = HANDLE_VALUE_CONFIRMATION ∷ []
spelled (WriteCommandPdu handle value) = WRITE_COMMAND ∷ two_octets handle ++ value

-- The fields have 16 bits; a Read Multiple Request has two or more handles.
abbrev pub HasOctetFields : Asked → Type 0
HasOctetFields (ExchangeMtuRequest client_rx_mtu) = client_rx_mtu < 2 ^ 16
HasOctetFields (FindInformationRequest first last) = (first < 2 ^ 16) × (last < 2 ^ 16)
HasOctetFields (FindByTypeValueRequest first last type value) =
    (first < 2 ^ 16) × (last < 2 ^ 16) × (type < 2 ^ 16)
HasOctetFields (ReadByTypeRequest first last type) =
    (first < 2 ^ 16) × (last < 2 ^ 16) × HasUuidOctets type
HasOctetFields (ReadRequest handle) = handle < 2 ^ 16
HasOctetFields (ReadBlobRequest handle offset) = (handle < 2 ^ 16) × (offset < 2 ^ 16)
HasOctetFields (ReadMultipleRequest handles) =
    All (λ handle. handle < 2 ^ 16) handles × (2 ≤ length handles)
HasOctetFields (ReadByGroupTypeRequest first last type) =
    (first < 2 ^ 16) × (last < 2 ^ 16) × HasUuidOctets type
HasOctetFields (WriteRequest handle value) = handle < 2 ^ 16
HasOctetFields (PrepareWriteRequest handle offset part) = (handle < 2 ^ 16) × (offset < 2 ^ 16)
HasOctetFields (ExecuteWriteRequest flags) = Unit {0}
HasOctetFields ConfirmationPdu = Unit {0}
HasOctetFields (WriteCommandPdu handle value) = handle < 2 ^ 16
