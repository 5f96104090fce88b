-- An answer tells nothing of the octets of values that the client may not read.
use Rattle.std.proofs.Common.{◌≡◌, ℕ, ◌-◌, ◌/◌, true, false, List, [], ◌∷◌, ◌++◌, take, drop, map, Option, Some, None, refl, sym, ap, ◌∙◌}
use Rattle.std.specs.Prelude.{filter, take_while, cond, is_none, ◌&&◌}
use Rattle.std.specs.Str.{bytes_eq}
use Rattle.std.specs.List.{flat_map}
use Rattle.std.proofs.lemmas.List.Sums.{take_while-cons}
use Rattle.att_numbers.specs.AttributeType.{of_16_bits}
use Rattle.att_numbers.specs.Types.{Handle, AttributeType, Opcode, Mtu, Row, Values as ValueList}
use Rattle.att_numbers.specs.declared.opcode.TheConstants.{FIND_BY_TYPE_VALUE_REQUEST, READ_BY_TYPE_REQUEST, READ_REQUEST, READ_BLOB_REQUEST, READ_MULTIPLE_REQUEST, READ_BY_GROUP_TYPE_REQUEST}
use Rattle.att_policy.specs.declared.standing.Standing.{Standing}
use Rattle.att_policy.specs.Refusal.{Refusal}
use Rattle.att_pdu.specs.Uuid.{uuid_number}
use Rattle.att_pdu.specs.Request.{Asked, ExchangeMtuRequest, WriteRequest, PrepareWriteRequest, ExecuteWriteRequest, ConfirmationPdu, WriteCommandPdu, FindInformationRequest, FindByTypeValueRequest, ReadByTypeRequest, ReadRequest, ReadBlobRequest, ReadMultipleRequest, ReadByGroupTypeRequest}
use Rattle.att_pdu.specs.Response.{Element, Response, FindByTypeValueResponse, ReadResponse, ReadBlobResponse, ReadMultipleResponse, ReadByTypeResponse, ReadByGroupTypeResponse}
use Rattle.att_attributes.specs.Attributes.{is_configuration_at}
use Rattle.att_attributes.specs.OfType.{handles_of_type}
use Rattle.att_table.specs.ConfigRow.{bits_at}
use Rattle.att_table.specs.Table.{Contents, value_at}
use Rattle.att_reads.specs.declared.list.Listing.{Listing}
use Rattle.att_reads.specs.declared.list.Listing.TheVariants.{Values, Groups}
use Rattle.att_reads.specs.Access.{refusal_at, read_refusal, value_for, IsAlike}
use Rattle.att_reads.specs.Answer.{is_match, group_of, information_answer, found_answer, values_answer, value_answer, part_answer, multiple_answer, groups_answer, read_answer}
use Rattle.att_reads.specs.List.{cut_of, element_of, candidate_of}
use Rattle.att_reads.specs.Listing.{Candidate, is_listed, candidate_size, size_of_first, first_refusal, elements, elements_within}
use Rattle.att_reads.specs.Refusals.{unless_refused, range_refusal, group_type_refusal, not_found, offset_refusal}
use Rattle.octet_io.specs.Number.{Octets}

-- the same attributes with other values
abbrev with_values : Contents → ValueList → Contents
with_values table values = record { attributes = table.attributes; values = values }

-- the values that may be read are the same
abbrev AreReadable : Standing → Contents → ValueList → Type 0
AreReadable standing table values =
    (handle : Handle) → refusal_at table.attributes standing handle ≡ None → value_at values handle ≡ value_at table.values handle

same_value : (standing : Standing) (table : Contents) (values : ValueList) (row : Row) → AreReadable standing table values
    → (handle : Handle) → refusal_at table.attributes standing handle ≡ None → value_for (with_values table values) row handle ≡ value_for table row handle
same_value standing table values row readable handle permitted =
    elim (is_configuration_at table.attributes handle) as
    (λ own. cond own (bits_at row handle ∷ 0 ∷ []) (value_at values handle) ≡ cond own (bits_at row handle ∷ 0 ∷ []) (value_at table.values handle)) [
      | true ↦ refl
      | false ↦ readable handle permitted
    ]

-- what stands behind a refusal matters but where there is none
unless_same : (request : Opcode) (refusal : Option Refusal) (some other : List (Option Refusal)) (x y : Response)
    → (refusal ≡ None → unless_refused request some x ≡ unless_refused request other y)
    → unless_refused request (refusal ∷ some) x ≡ unless_refused request (refusal ∷ other) y
unless_same request (Some refusal) some other x y same = refl
unless_same request None some other x y same = same refl

permitted_at : (standing : Standing) (table : Contents) (handle : Handle) → read_refusal table.attributes standing handle ≡ None
    → refusal_at table.attributes standing handle ≡ None
permitted_at standing table handle is =
    elim (refusal_at table.attributes standing handle) as
    (λ code. (elim code as (λ _. Option Refusal) [ None ↦ None | Some n ↦ Some (record { handle = handle; code = n }) ]) ≡ None → code ≡ None) [
      | None ↦ λ _. refl
      | Some code ↦ λ none. cc none
    ] is

-- one value
value_same : (standing : Standing) (table : Contents) (values : ValueList) (row : Row) (mtu : Mtu) (handle : Handle) → AreReadable standing table values
    → value_answer (with_values table values) row standing mtu handle ≡ value_answer table row standing mtu handle
unfolding value_answer
value_same standing table values row mtu handle readable =
    unless_same READ_REQUEST (read_refusal table.attributes standing handle) [] [] _ _
    (λ none. ap (λ value. ReadResponse (take (mtu - 1) value)) (same_value standing table values row readable handle (permitted_at standing table handle none)))

part_same : (standing : Standing) (table : Contents) (values : ValueList) (row : Row) (mtu : Mtu) (handle : Handle) (offset : ℕ)
    → AreReadable standing table values
    → part_answer (with_values table values) row standing mtu handle offset ≡ part_answer table row standing mtu handle offset
unfolding part_answer
part_same standing table values row mtu handle offset readable =
    unless_same READ_BLOB_REQUEST (read_refusal table.attributes standing handle) _ _ _ _
    (λ none. ap (λ value. unless_refused READ_BLOB_REQUEST (offset_refusal handle offset value ∷ []) (ReadBlobResponse (take (mtu - 1) (drop offset value))))
    (same_value standing table values row readable handle (permitted_at standing table handle none)))

-- several values, none of which is refused
values_same : (standing : Standing) (table : Contents) (values : ValueList) (row : Row) (handles : List Handle) (respond : Octets → Response)
    → AreReadable standing table values
    → unless_refused READ_MULTIPLE_REQUEST (map (read_refusal table.attributes standing) handles)
    (respond (flat_map (value_for (with_values table values) row) handles))
    ≡ unless_refused READ_MULTIPLE_REQUEST (map (read_refusal table.attributes standing) handles) (respond (flat_map (value_for table row) handles))
values_same standing table values row [] respond readable = refl
values_same standing table values row (handle ∷ rest) respond readable =
    unless_same READ_MULTIPLE_REQUEST (read_refusal table.attributes standing handle) _ _ _ _
    (λ none.
    ap (λ value. unless_refused READ_MULTIPLE_REQUEST (map (read_refusal table.attributes standing) rest)
    (respond (value ++ flat_map (value_for (with_values table values) row) rest)))
    (same_value standing table values row readable handle (permitted_at standing table handle none))
    ∙ values_same standing table values row rest (λ octets. respond (value_for table row handle ++ octets)) readable)

multiple_same : (standing : Standing) (table : Contents) (values : ValueList) (row : Row) (mtu : Mtu) (handles : List Handle)
    → AreReadable standing table values
    → multiple_answer (with_values table values) row standing mtu handles ≡ multiple_answer table row standing mtu handles
unfolding multiple_answer
multiple_same standing table values row mtu handles readable =
    values_same standing table values row handles (λ octets. ReadMultipleResponse (take (mtu - 1) octets)) readable

-- whether a value is the one that is asked for
match-at : (standing : Standing) (table : Contents) (values : ValueList) (row : Row) (value : Octets) → AreReadable standing table values
    → (handle : Handle) (refusal : Option ℕ) → refusal_at table.attributes standing handle ≡ refusal
    → is_match (with_values table values) row standing value handle ≡ is_match table row standing value handle
match-at standing table values row value readable handle (Some code) is = rw is refl
match-at standing table values row value readable handle None is =
    ap (λ octets. is_none (refusal_at table.attributes standing handle) && bytes_eq octets value) (same_value standing table values row readable handle is)

match_same : (standing : Standing) (table : Contents) (values : ValueList) (row : Row) (value : Octets) → AreReadable standing table values
    → is_match (with_values table values) row standing value ≡ is_match table row standing value
match_same standing table values row value readable =
    λ i handle. match-at standing table values row value readable handle (refusal_at table.attributes standing handle) refl i

found_same : (standing : Standing) (table : Contents) (values : ValueList) (row : Row) (mtu : Mtu) (first last : Handle) (type : AttributeType) (value : Octets)
    → AreReadable standing table values
    → found_answer (with_values table values) row standing mtu first last type value ≡ found_answer table row standing mtu first last type value
unfolding found_answer
found_same standing table values row mtu first last type value readable =
    ap (λ test.
    let found = filter test (handles_of_type table.attributes type first last) in
    unless_refused FIND_BY_TYPE_VALUE_REQUEST (range_refusal first last ∷ not_found first found ∷ [])
    (FindByTypeValueResponse (map (group_of table) (take ((mtu - 1) / 4) found))))
    (match_same standing table values row value readable)

-- attributes that may be listed
candidate_same : (standing : Standing) (table : Contents) (values : ValueList) (row : Row) (mtu : Mtu) (listing : Listing) → AreReadable standing table values
    → (handle : Handle) → read_refusal table.attributes standing handle ≡ None
    → candidate_of listing (with_values table values) row standing mtu handle ≡ candidate_of listing table row standing mtu handle
candidate_same standing table values row mtu Values readable handle none =
    ap (λ value. record {
      refusal = read_refusal table.attributes standing handle;
      element = element_of Values table handle (take (cut_of Values mtu) value);
    }) (same_value standing table values row readable handle (permitted_at standing table handle none))
candidate_same standing table values row mtu Groups readable handle none =
    ap (λ value. record {
      refusal = read_refusal table.attributes standing handle;
      element = element_of Groups table handle (take (cut_of Groups mtu) value);
    }) (same_value standing table values row readable handle (permitted_at standing table handle none))

run-at : (size : ℕ) (new old : Handle → Candidate) (handle : Handle) (rest : List Handle) (refusal : Option Refusal) → (new handle).refusal ≡ refusal
    → (old handle).refusal ≡ refusal
    → ((old handle).refusal ≡ None → new handle ≡ old handle)
    → take_while (is_listed size) (map new rest) ≡ take_while (is_listed size) (map old rest)
    → take_while (is_listed size) (map new (handle ∷ rest)) ≡ take_while (is_listed size) (map old (handle ∷ rest))
run-at size new old handle rest (Some refusal) is was same later =
    let none_new : take_while (is_listed size) (map new (handle ∷ rest)) ≡ [] = take_while-cons (is_listed size) (new handle) (map new rest) ∙ rw is refl in
    let none_old : take_while (is_listed size) (map old (handle ∷ rest)) ≡ [] = take_while-cons (is_listed size) (old handle) (map old rest) ∙ rw was refl in
    none_new ∙ sym none_old
run-at size new old handle rest None is was same later =
    take_while-cons (is_listed size) (new handle) (map new rest)
    ∙ ap (λ candidate. cond (is_listed size candidate) (candidate ∷ take_while (is_listed size) (map new rest)) []) (same was)
    ∙ ap (λ run. cond (is_listed size (old handle)) (old handle ∷ run) []) later
    ∙ sym (take_while-cons (is_listed size) (old handle) (map old rest))

run_same : (size : ℕ) (new old : Handle → Candidate) (handles : List Handle) → ((handle : Handle) → (new handle).refusal ≡ (old handle).refusal)
    → ((handle : Handle) → (old handle).refusal ≡ None → new handle ≡ old handle)
    → take_while (is_listed size) (map new handles) ≡ take_while (is_listed size) (map old handles)
run_same size new old [] refused same = refl
run_same size new old (handle ∷ rest) refused same =
    run-at size new old handle rest (old handle).refusal (refused handle) refl (same handle) (run_same size new old rest refused same)

-- the whole list, whose first one is not refused
listed-at : (mtu : Mtu) (new old : Handle → Candidate) (handle : Handle) (rest : List Handle) (respond : ℕ → List Element → Response) → new handle ≡ old handle
    → ((size : ℕ) → take_while (is_listed size) (map new (handle ∷ rest)) ≡ take_while (is_listed size) (map old (handle ∷ rest)))
    → respond (candidate_size (new handle)) (elements_within mtu (map new (handle ∷ rest)))
    ≡ respond (candidate_size (old handle)) (elements_within mtu (map old (handle ∷ rest)))
listed-at mtu new old handle rest respond first run =
    ap (λ candidate.
    respond (candidate_size candidate)
    (elements (take ((mtu - 2) / candidate_size candidate) (take_while (is_listed (candidate_size candidate)) (map new (handle ∷ rest)))))) first
    ∙ ap (λ candidates. respond (candidate_size (old handle)) (elements (take ((mtu - 2) / candidate_size (old handle)) candidates)))
    (run (candidate_size (old handle)))

list_same : (request : Opcode) (mtu : Mtu) (start : Handle) (new old : Handle → Candidate) (handles : List Handle) (respond : ℕ → List Element → Response)
    → ((handle : Handle) → (new handle).refusal ≡ (old handle).refusal) → ((handle : Handle) → (old handle).refusal ≡ None → new handle ≡ old handle)
    → unless_refused request (not_found start (map new handles) ∷ first_refusal (map new handles) ∷ [])
    (respond (size_of_first (map new handles)) (elements_within mtu (map new handles)))
    ≡ unless_refused request (not_found start (map old handles) ∷ first_refusal (map old handles) ∷ [])
    (respond (size_of_first (map old handles)) (elements_within mtu (map old handles)))
list_same request mtu start new old [] respond refused same = refl
list_same request mtu start new old (handle ∷ rest) respond refused same =
    ap (λ refusal. unless_refused request (refusal ∷ []) (respond (candidate_size (new handle)) (elements_within mtu (map new (handle ∷ rest)))))
    (refused handle)
    ∙ unless_same request (old handle).refusal [] [] _ _
    (λ none. listed-at mtu new old handle rest respond (same handle none) (λ size. run_same size new old (handle ∷ rest) refused same))

values_list_same : (standing : Standing) (table : Contents) (values : ValueList) (row : Row) (mtu : Mtu) (first last : Handle) (type : AttributeType)
    → AreReadable standing table values
    → values_answer (with_values table values) row standing mtu first last type ≡ values_answer table row standing mtu first last type
unfolding values_answer
values_list_same standing table values row mtu first last type readable =
    unless_same READ_BY_TYPE_REQUEST (range_refusal first last) _ _ _ _
    (λ _. list_same READ_BY_TYPE_REQUEST mtu first (candidate_of Values (with_values table values) row standing mtu)
    (candidate_of Values table row standing mtu)
    (handles_of_type table.attributes type first last) ReadByTypeResponse (λ handle. refl) (candidate_same standing table values row mtu Values readable))

groups_list_same : (standing : Standing) (table : Contents) (values : ValueList) (row : Row) (mtu : Mtu) (first last : Handle) (type : AttributeType)
    → AreReadable standing table values
    → groups_answer (with_values table values) row standing mtu first last type ≡ groups_answer table row standing mtu first last type
unfolding groups_answer
groups_list_same standing table values row mtu first last type readable =
    unless_same READ_BY_GROUP_TYPE_REQUEST (range_refusal first last) _ _ _ _
    (λ _. unless_same READ_BY_GROUP_TYPE_REQUEST (group_type_refusal first type) _ _ _ _
    (λ _. list_same READ_BY_GROUP_TYPE_REQUEST mtu first (candidate_of Groups (with_values table values) row standing mtu)
    (candidate_of Groups table row standing mtu)
    (handles_of_type table.attributes type first last) ReadByGroupTypeResponse (λ handle. refl) (candidate_same standing table values row mtu Groups readable)))

-- every answer
with-same : (standing : Standing) (table : Contents) (values : ValueList) (row : Row) (mtu : Mtu) → AreReadable standing table values
    → (request : Asked) → read_answer (with_values table values) row standing mtu request ≡ read_answer table row standing mtu request
with-same standing table values row mtu readable (FindInformationRequest first last) = unfold information_answer in refl
with-same standing table values row mtu readable (FindByTypeValueRequest first last type value) =
    ap Some (found_same standing table values row mtu first last (of_16_bits type) value readable)
with-same standing table values row mtu readable (ReadByTypeRequest first last type) =
    ap Some (values_list_same standing table values row mtu first last (uuid_number type) readable)
with-same standing table values row mtu readable (ReadRequest handle) = ap Some (value_same standing table values row mtu handle readable)
with-same standing table values row mtu readable (ReadBlobRequest handle offset) = ap Some (part_same standing table values row mtu handle offset readable)
with-same standing table values row mtu readable (ReadMultipleRequest handles) = ap Some (multiple_same standing table values row mtu handles readable)
with-same standing table values row mtu readable (ReadByGroupTypeRequest first last type) =
    ap Some (groups_list_same standing table values row mtu first last (uuid_number type) readable)
with-same standing table values row mtu readable (ExchangeMtuRequest client_rx_mtu) = refl
with-same standing table values row mtu readable (WriteRequest handle value) = refl
with-same standing table values row mtu readable (PrepareWriteRequest handle offset part) = refl
with-same standing table values row mtu readable (ExecuteWriteRequest flags) = refl
with-same standing table values row mtu readable ConfirmationPdu = refl
with-same standing table values row mtu readable (WriteCommandPdu handle value) = refl

pub alike : (standing : Standing) (table other : Contents) (row : Row) (mtu : Mtu) (request : Asked) → IsAlike standing table other
    → read_answer table row standing mtu request ≡ read_answer other row standing mtu request
alike standing table other row mtu request is =
    let same : other ≡ with_values table other.values = λ i. record { attributes = is.attributes i; values = other.values } in
    sym (ap (λ t. read_answer t row standing mtu request) same ∙ with-same standing table other.values row mtu is.readable request)
