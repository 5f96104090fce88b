-- Read By Type and Read By Group Type (Core 5.0, Vol 3 Part F, 3.4.4.1, 3.4.4.2, 3.4.4.9 and
-- 3.4.4.10).
use Rattle.std.specs.Prelude.{ℕ, ◌-◌, List, [], ◌∷◌, min, map, take}
use Rattle.att_numbers.specs.Types.{Handle, Mtu, Opcode, Row}
use Rattle.att_numbers.specs.declared.opcode.TheConstants.{READ_BY_TYPE_REQUEST, READ_BY_GROUP_TYPE_REQUEST}
use Rattle.att_pdu.specs.Response.{Element, OfAttribute, OfGroup, Response, ReadByTypeResponse, ReadByGroupTypeResponse}
use Rattle.att_policy.specs.declared.standing.Standing.{Standing}
use Rattle.att_attributes.specs.Group.{group_end_at}
use Rattle.att_table.specs.Table.{Contents}
use Rattle.att_reads.specs.declared.list.Listing.{Listing}
use Rattle.att_reads.specs.declared.list.Listing.TheVariants.{Values, Groups}
use Rattle.att_reads.specs.declared.list.TheConstants.{MAX_ELEMENT}
use Rattle.att_reads.specs.Access.{read_refusal, value_for}
use Rattle.att_reads.specs.Listing.{Candidate, first_refusal, size_of_first, elements_within}
use Rattle.att_reads.specs.Refusals.{unless_refused, not_found}
use Rattle.octet_io.specs.Number.{Octets}

abbrev pub listing_request : Listing → Opcode
listing_request Values = READ_BY_TYPE_REQUEST
listing_request Groups = READ_BY_GROUP_TYPE_REQUEST

abbrev pub head_of : Listing → ℕ
head_of Values = 2
head_of Groups = 4

-- A value is cut to what fits after its handles in the response and in an element.
-- (P-LIST-4, P-LIST-5)
abbrev pub cut_of : Listing → Mtu → ℕ
cut_of listing mtu = min (mtu - 2 - head_of listing) (MAX_ELEMENT - head_of listing)

-- An element; a group also has its last handle.
abbrev pub element_of : Listing → Contents → Handle → Octets → Element
element_of Values table handle front = OfAttribute handle front
element_of Groups table handle front = OfGroup handle (group_end_at table.attributes handle) front

abbrev pub candidate_of : Listing → Contents → Row → Standing → Mtu → Handle → Candidate
candidate_of listing table row standing mtu handle = record {
  refusal = read_refusal table.attributes standing handle;
  element =
      element_of listing table handle (take (cut_of listing mtu) (value_for table row handle));
}

abbrev pub list_response : Listing → ℕ → List Element → Response
list_response Values size values = ReadByTypeResponse size values
list_response Groups size groups = ReadByGroupTypeResponse size groups

-- The list of the attributes at these handles, of which the first must be permitted.
abbrev pub list_answer : Listing → Contents → Row → Standing → Mtu → Handle → List Handle → Response
list_answer listing table row standing mtu start handles =
    let candidates = map (candidate_of listing table row standing mtu) handles in
    unless_refused (listing_request listing)
    (not_found start candidates ∷ first_refusal candidates ∷ [])
    (list_response listing (size_of_first candidates) (elements_within mtu candidates))
