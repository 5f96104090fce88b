-- The responses to requests that read, after the ordered checks for errors (Core 5.0, Vol 3 Part F,
-- 3.4.3 and 3.4.4).
use Rattle.std.specs.Prelude.{ℕ, ◌-◌, ◌/◌, Bool, ◌==◌, ◌&&◌, if◌then◌else◌, is_none, List, [], ◌∷◌, ◌++◌, length, map, take, drop, filter, Option, Some, None}
use Rattle.std.specs.List.{flat_map}
use Rattle.std.specs.Str.{bytes_eq}
use Rattle.att_numbers.specs.AttributeType.{of_16_bits, type_octets}
use Rattle.att_numbers.specs.Types.{Handle, AttributeType, Mtu, Row}
use Rattle.att_numbers.specs.declared.opcode.TheConstants.{FIND_INFORMATION_REQUEST, FIND_BY_TYPE_VALUE_REQUEST, READ_BY_TYPE_REQUEST, READ_REQUEST, READ_BLOB_REQUEST, READ_MULTIPLE_REQUEST, READ_BY_GROUP_TYPE_REQUEST}
use Rattle.att_pdu.specs.Uuid.{uuid_number}
use Rattle.att_pdu.specs.Request.{Asked, FindInformationRequest, FindByTypeValueRequest, ReadByTypeRequest, ReadRequest, ReadBlobRequest, ReadMultipleRequest, ReadByGroupTypeRequest}
use Rattle.att_pdu.specs.Response.{Element, element_octets, OfAttribute, OfGroup, Response, FindInformationResponse, FindByTypeValueResponse, ReadByTypeResponse, ReadResponse, ReadBlobResponse, ReadMultipleResponse, ReadByGroupTypeResponse}
use Rattle.att_policy.specs.declared.standing.Standing.{Standing}
use Rattle.att_attributes.specs.declared.attr.Attr.{Attr}
use Rattle.att_attributes.specs.Attributes.{attributes_in}
use Rattle.att_attributes.specs.Group.{group_end_at}
use Rattle.att_attributes.specs.OfType.{handles_of_type}
use Rattle.att_table.specs.Table.{Contents}
use Rattle.att_reads.specs.Access.{refusal_at, read_refusal, value_for}
use Rattle.att_reads.specs.declared.list.Listing.TheVariants.{Values, Groups}
use Rattle.att_reads.specs.List.{candidate_of}
use Rattle.att_reads.specs.Listing.{Candidate, first_refusal, size_of_first, elements_within}
use Rattle.att_reads.specs.Refusals.{unless_refused, range_refusal, group_type_refusal, not_found, offset_refusal}
use Rattle.octet_io.specs.Number.{Octets}

-- Find Information needs no permission (3.4.3.1). (P-LIST-3)
abbrev pub information_of : Attr → Candidate
information_of attr =
    record { refusal = None; element = OfAttribute attr.handle (type_octets attr.kind) }

-- The format is 1 for 16-bit types and 2 for others.
abbrev pub information_format : ℕ → ℕ
information_format size = if size == 4 then 1 else 2

-- (P-LIST-3)
unfoldable pub information_answer : Contents → Mtu → Handle → Handle → Response
information_answer table mtu first last =
    let types = map information_of (attributes_in table.attributes first last) in
    unless_refused FIND_INFORMATION_REQUEST
    (range_refusal first last ∷ not_found first types ∷ [])
    (FindInformationResponse (information_format (size_of_first types)) (elements_within mtu types))

-- Find By Type Value (3.4.3.3) skips attributes that the client may not read (this profile's own).
-- (P-LIST-6)
abbrev pub is_match : Contents → Row → Standing → Octets → Handle → Bool
is_match table row standing value handle =
    is_none (refusal_at table.attributes standing handle)
    && bytes_eq (value_for table row handle) value

abbrev pub group_of : Contents → Handle → Element
group_of table handle = OfGroup handle (group_end_at table.attributes handle) []

abbrev pub with_groups : Contents → Mtu → Octets → List Handle → Octets
with_groups table mtu octets found =
    octets ++ flat_map (λ handle. element_octets (group_of table handle))
    (take ((mtu - length octets) / 4) found)

-- (P-LIST-6)
unfoldable pub found_answer : Contents → Row → Standing → Mtu → Handle → Handle → AttributeType
    → Octets → Response
found_answer table row standing mtu first last type value =
    let found =
    filter (is_match table row standing value)
    (handles_of_type table.attributes type first last) in
    unless_refused FIND_BY_TYPE_VALUE_REQUEST
    (range_refusal first last ∷ not_found first found ∷ [])
    (FindByTypeValueResponse (map (group_of table) (take ((mtu - 1) / 4) found)))

-- Read By Type Request (3.4.4.1). (P-LIST-4)
unfoldable pub values_answer : Contents → Row → Standing → Mtu → Handle → Handle → AttributeType
    → Response
values_answer table row standing mtu first last type =
    let values =
    map (candidate_of Values table row standing mtu)
    (handles_of_type table.attributes type first last) in
    unless_refused READ_BY_TYPE_REQUEST
    (range_refusal first last ∷ not_found first values ∷ first_refusal values ∷ [])
    (ReadByTypeResponse (size_of_first values) (elements_within mtu values))

-- Read Request (3.4.4.3).
unfoldable pub value_answer : Contents → Row → Standing → Mtu → Handle → Response
value_answer table row standing mtu handle =
    unless_refused READ_REQUEST
    (read_refusal table.attributes standing handle ∷ [])
    (ReadResponse (take (mtu - 1) (value_for table row handle)))

-- Read Blob Request (3.4.4.5); an offset at the end reads an empty part. (P-READ-1)
unfoldable pub part_answer : Contents → Row → Standing → Mtu → Handle → ℕ → Response
part_answer table row standing mtu handle offset =
    let value = value_for table row handle in
    unless_refused READ_BLOB_REQUEST
    (read_refusal table.attributes standing handle ∷ offset_refusal handle offset value ∷ [])
    (ReadBlobResponse (take (mtu - 1) (drop offset value)))

-- Read Multiple Request (3.4.4.7). (P-READ-2)
unfoldable pub multiple_answer : Contents → Row → Standing → Mtu → List Handle → Response
multiple_answer table row standing mtu handles =
    unless_refused READ_MULTIPLE_REQUEST
    (map (read_refusal table.attributes standing) handles)
    (ReadMultipleResponse (take (mtu - 1) (flat_map (value_for table row) handles)))

-- Read By Group Type Request (3.4.4.9). (P-LIST-5)
unfoldable pub groups_answer : Contents → Row → Standing → Mtu → Handle → Handle → AttributeType
    → Response
groups_answer table row standing mtu first last type =
    let groups =
    map (candidate_of Groups table row standing mtu)
    (handles_of_type table.attributes type first last) in
    unless_refused READ_BY_GROUP_TYPE_REQUEST
    (range_refusal first last ∷ group_type_refusal first type ∷ not_found first groups
    ∷ first_refusal groups ∷ [])
    (ReadByGroupTypeResponse (size_of_first groups) (elements_within mtu groups))

-- The response to a request at an ATT_MTU, if the request reads.
abbrev pub read_answer : Contents → Row → Standing → Mtu → Asked → Option Response
read_answer table row standing mtu (FindInformationRequest first last) =
    Some (information_answer table mtu first last)
read_answer table row standing mtu (FindByTypeValueRequest first last type value) =
    Some (found_answer table row standing mtu first last (of_16_bits type) value)
read_answer table row standing mtu (ReadByTypeRequest first last type) =
    Some (values_answer table row standing mtu first last (uuid_number type))
read_answer table row standing mtu (ReadRequest handle) =
    Some (value_answer table row standing mtu handle)
read_answer table row standing mtu (ReadBlobRequest handle offset) =
    Some (part_answer table row standing mtu handle offset)
read_answer table row standing mtu (ReadMultipleRequest handles) =
    Some (multiple_answer table row standing mtu handles)
read_answer table row standing mtu (ReadByGroupTypeRequest first last type) =
    Some (groups_answer table row standing mtu first last (uuid_number type))
read_answer table row standing mtu _ = None
