-- What is answered refuses by the first case of the list, and what is refused changes nothing.
use Rattle.std.proofs.Common.{◌≡◌, ℕ, Bool, true, false, List, [], ◌∷◌, map, take, Option, Some, None, refl, sym, ap, ◌∙◌}
use Rattle.std.specs.Prelude.{not, Result, Ok, Err}
use Rattle.std.specs.List.{filter}
use Rattle.std.specs.Option.{option_map, option_or}
use Rattle.att_numbers.specs.AttributeType.{of_16_bits}
use Rattle.att_numbers.specs.Types.{AttributeType, Handle, Opcode, Code, Row}
use Rattle.att_numbers.specs.declared.error_code.TheConstants.{PREPARE_QUEUE_FULL, ATTRIBUTE_NOT_FOUND, UNSUPPORTED_GROUP_TYPE}
use Rattle.att_numbers.specs.declared.opcode.TheConstants.{FIND_INFORMATION_REQUEST, FIND_BY_TYPE_VALUE_REQUEST, READ_BY_TYPE_REQUEST, READ_REQUEST, READ_BLOB_REQUEST, READ_MULTIPLE_REQUEST, READ_BY_GROUP_TYPE_REQUEST, WRITE_REQUEST, PREPARE_WRITE_REQUEST, EXECUTE_WRITE_REQUEST}
use Rattle.att_pdu.specs.Request.{ExchangeMtuRequest, FindInformationRequest, FindByTypeValueRequest, ReadByTypeRequest, ReadRequest, ReadBlobRequest, ReadMultipleRequest, ReadByGroupTypeRequest, WriteRequest, PrepareWriteRequest, ExecuteWriteRequest, ConfirmationPdu, WriteCommandPdu}
use Rattle.att_pdu.specs.Response.{Response, WriteResponse, ExecuteWriteResponse}
use Rattle.att_pdu.specs.Uuid.{uuid_number}
use Rattle.att_pdu.specs.declared.grammar.PduFault.TheVariants.{Ignored, Invalid, Unsupported}
use Rattle.att_pdu.specs.declared.request.ExecuteFlags.TheVariants as flags
use Rattle.att_policy.specs.Policy.{first_broken_of}
use Rattle.att_policy.specs.Refusal.{Refusal}
use Rattle.att_policy.specs.declared.policy.Access.{Access}
use Rattle.att_policy.specs.declared.policy.Access.TheVariants.{Read, Write, Command}
use Rattle.att_policy.specs.declared.policy.Rule.{Rule}
use Rattle.att_policy.specs.declared.standing.Standing.{Standing}
use Rattle.att_attributes.specs.Attributes.{attributes_in, guard_at}
use Rattle.att_attributes.specs.Group.{is_service_type}
use Rattle.att_attributes.specs.OfType.{handles_of_type}
use Rattle.att_attributes.specs.declared.attr.Attr.{Attr}
use Rattle.att_reads.specs.Access.{read_refusal, value_for}
use Rattle.att_reads.specs.Answer.{information_of, is_match, information_answer, found_answer, values_answer, value_answer, part_answer, multiple_answer, groups_answer}
use Rattle.att_reads.specs.List.{candidate_of}
use Rattle.att_reads.specs.Listing.{Candidate, first_refusal}
use Rattle.att_reads.specs.Refusals.{range_refusal, group_type_refusal, not_found, offset_refusal}
use Rattle.att_reads.specs.declared.list.Listing.TheVariants.{Values, Groups}
use Rattle.att_table.specs.Table.{Contents}
use Rattle.att_writes.specs.Applied.{Stored, applied_to, stored_in, stored_after}
use Rattle.att_writes.specs.Entry.{Entry, whole_value}
use Rattle.att_writes.specs.Queue.{touched_by, has_queue_room, prepare_fault, queue_after, broken_or_full}
use Rattle.gatt_conn.specs.Answer.{entry_at, prepare_response, written_response}
use Rattle.gatt_conn.specs.Connection.{Bearer}
use Rattle.gatt_laws.specs.laws.View.{are_none}
use Rattle.octet_io.specs.Number.{Octets}
use Rattle.gatt_theorems.specs.FirstCase.{first_there, case_if, broken_at, bad_entries, error_in, RefusesByTheFirstCase, RefusedChangesNothing, IgnoredChangesNothing}
use Rattle.gatt_theorems.proofs.FirstCaseOfWrites.{all-refusals, behind, entries-case, error, first-of-list, none-of-mapped, or-none, or-of-or, prepared-case, refusal-in, same-group, same-none, same-refusal, writing-case}

-- Each request.

information-refused : (table : Contents) (mtu : ℕ) (first last : Handle)
    → error_in (Some (information_answer table mtu first last))
    ≡ option_map (error FIND_INFORMATION_REQUEST) (option_or (range_refusal first last)
    (option_or (case_if (are_none (map (λ (attr : Attr). attr.handle) (attributes_in table.attributes first last))) first ATTRIBUTE_NOT_FOUND) None))
unfolding information_answer
information-refused table mtu first last =
    let attributes : List Attr = attributes_in table.attributes first last in
    let handles : List Handle = map (λ (attr : Attr). attr.handle) attributes in
    behind FIND_INFORMATION_REQUEST (range_refusal first last ∷ not_found first (map information_of attributes) ∷ []) _ refl
    ∙ ap (λ (none : Option Refusal). option_map (error FIND_INFORMATION_REQUEST) (option_or (range_refusal first last) (option_or none None)))
    (none-of-mapped information_of first attributes ∙ sym (none-of-mapped (λ (attr : Attr). attr.handle) first attributes) ∙ same-none first handles)

found-refused : (table : Contents) (row : Row) (standing : Standing) (mtu : ℕ) (first last : Handle) (kind : AttributeType) (value : Octets)
    → error_in (Some (found_answer table row standing mtu first last kind value))
    ≡ option_map (error FIND_BY_TYPE_VALUE_REQUEST) (option_or (range_refusal first last)
    (option_or (case_if (are_none (filter (is_match table row standing value) (handles_of_type table.attributes kind first last))) first ATTRIBUTE_NOT_FOUND)
    None))
unfolding found_answer
found-refused table row standing mtu first last kind value =
    let found : List Handle = filter (is_match table row standing value) (handles_of_type table.attributes kind first last) in
    behind FIND_BY_TYPE_VALUE_REQUEST (range_refusal first last ∷ not_found first found ∷ []) _ refl
    ∙ ap (λ (none : Option Refusal). option_map (error FIND_BY_TYPE_VALUE_REQUEST) (option_or (range_refusal first last) (option_or none None)))
    (same-none first found)

values-refused : (table : Contents) (row : Row) (standing : Standing) (mtu : ℕ) (first last : Handle) (kind : AttributeType)
    → (let handles : List Handle = handles_of_type table.attributes kind first last in
    error_in (Some (values_answer table row standing mtu first last kind))
    ≡ option_map (error READ_BY_TYPE_REQUEST) (option_or (range_refusal first last)
    (option_or (case_if (are_none handles) first ATTRIBUTE_NOT_FOUND)
    (option_or (first_there (map (broken_at Read table.attributes standing) (take 1 handles))) None))))
unfolding values_answer
values-refused table row standing mtu first last kind =
    let handles : List Handle = handles_of_type table.attributes kind first last in
    let values : List Candidate = map (candidate_of Values table row standing mtu) handles in
    behind READ_BY_TYPE_REQUEST (range_refusal first last ∷ not_found first values ∷ first_refusal values ∷ []) _ refl
    ∙ (λ i. option_map (error READ_BY_TYPE_REQUEST) (option_or (range_refusal first last)
    (option_or ((none-of-mapped (candidate_of Values table row standing mtu) first handles ∙ same-none first handles) i)
    (option_or (first-of-list Values table row standing mtu handles i) None))))

groups-refused : (table : Contents) (row : Row) (standing : Standing) (mtu : ℕ) (first last : Handle) (kind : AttributeType)
    → (let handles : List Handle = handles_of_type table.attributes kind first last in
    error_in (Some (groups_answer table row standing mtu first last kind))
    ≡ option_map (error READ_BY_GROUP_TYPE_REQUEST) (option_or (range_refusal first last)
    (option_or (case_if (not (is_service_type kind)) first UNSUPPORTED_GROUP_TYPE)
    (option_or (case_if (are_none handles) first ATTRIBUTE_NOT_FOUND)
    (option_or (first_there (map (broken_at Read table.attributes standing) (take 1 handles))) None)))))
unfolding groups_answer
groups-refused table row standing mtu first last kind =
    let handles : List Handle = handles_of_type table.attributes kind first last in
    let groups : List Candidate = map (candidate_of Groups table row standing mtu) handles in
    behind READ_BY_GROUP_TYPE_REQUEST (range_refusal first last ∷ group_type_refusal first kind ∷ not_found first groups ∷ first_refusal groups ∷ []) _ refl
    ∙ (λ i. option_map (error READ_BY_GROUP_TYPE_REQUEST) (option_or (range_refusal first last)
    (option_or (same-group first (is_service_type kind) i)
    (option_or ((none-of-mapped (candidate_of Groups table row standing mtu) first handles ∙ same-none first handles) i)
    (option_or (first-of-list Groups table row standing mtu handles i) None)))))

value-refused : (table : Contents) (row : Row) (standing : Standing) (mtu : ℕ) (handle : Handle)
    → error_in (Some (value_answer table row standing mtu handle))
    ≡ option_map (error READ_REQUEST) (option_or (option_or (broken_at Read table.attributes standing handle) None) None)
unfolding value_answer
value-refused table row standing mtu handle =
    behind READ_REQUEST (read_refusal table.attributes standing handle ∷ []) _ refl
    ∙ ap (option_map (error READ_REQUEST))
    (ap (λ (refusal : Option Refusal). option_or refusal None) (same-refusal table.attributes standing handle)
    ∙ sym (or-none (option_or (broken_at Read table.attributes standing handle) None)))

part-refused : (table : Contents) (row : Row) (standing : Standing) (mtu : ℕ) (handle : Handle) (offset : ℕ)
    → error_in (Some (part_answer table row standing mtu handle offset))
    ≡ option_map (error READ_BLOB_REQUEST) (option_or (option_or (broken_at Read table.attributes standing handle) None)
    (option_or (offset_refusal handle offset (value_for table row handle)) None))
unfolding part_answer
part-refused table row standing mtu handle offset =
    let last : Option Refusal = option_or (offset_refusal handle offset (value_for table row handle)) None in
    behind READ_BLOB_REQUEST (read_refusal table.attributes standing handle ∷ offset_refusal handle offset (value_for table row handle) ∷ []) _ refl
    ∙ ap (option_map (error READ_BLOB_REQUEST))
    (ap (λ (refusal : Option Refusal). option_or refusal last) (same-refusal table.attributes standing handle)
    ∙ sym (or-of-or (broken_at Read table.attributes standing handle) last))

multiple-refused : (table : Contents) (row : Row) (standing : Standing) (mtu : ℕ) (handles : List Handle)
    → error_in (Some (multiple_answer table row standing mtu handles))
    ≡ option_map (error READ_MULTIPLE_REQUEST) (option_or (first_there (map (broken_at Read table.attributes standing) handles)) None)
unfolding multiple_answer
multiple-refused table row standing mtu handles =
    behind READ_MULTIPLE_REQUEST (map (read_refusal table.attributes standing) handles) _ refl
    ∙ ap (option_map (error READ_MULTIPLE_REQUEST))
    (all-refusals table.attributes standing handles ∙ sym (or-none (first_there (map (broken_at Read table.attributes standing) handles))))

write-refused : (table : Contents) (row : Row) (standing : Standing) (entries : List Entry) (request : Opcode) (granted : Response)
    → error_in (Some granted) ≡ None
    → error_in (Some (written_response request granted (applied_to Write table row standing entries)))
    ≡ option_map (error request) (option_or (first_there (bad_entries Write table.attributes standing (stored_in table row) entries)) None)
write-refused table row standing entries request granted none =
    writing-case Write table row standing entries request granted none
    ∙ ap (option_map (error request)) (sym (or-none (first_there (bad_entries Write table.attributes standing (stored_in table row) entries))))

prepare-refused : (attributes : List Attr) (conn : Bearer) (entry : Entry)
    → error_in (Some (prepare_response entry (prepare_fault attributes conn.standing conn.queue entry)))
    ≡ option_map (error PREPARE_WRITE_REQUEST)
    (option_or (option_or (broken_at Write attributes conn.standing entry.handle)
    (option_or (case_if (not (has_queue_room conn.queue entry.part)) entry.handle PREPARE_QUEUE_FULL) None)) None)
prepare-refused attributes conn entry =
    prepared-case entry (first_broken_of Write (guard_at attributes entry.handle) conn.standing) (has_queue_room conn.queue entry.part)
    ∙ ap (option_map (error PREPARE_WRITE_REQUEST)) (sym (or-none _))

pub refuses_by_the_first_case : RefusesByTheFirstCase
unfolding error
refuses_by_the_first_case table row conn (Ok (ExchangeMtuRequest client_rx_mtu)) = refl
refuses_by_the_first_case table row conn (Ok (FindInformationRequest first last)) = information-refused table conn.mtu first last
refuses_by_the_first_case table row conn (Ok (FindByTypeValueRequest first last kind value)) =
    found-refused table row conn.standing conn.mtu first last (of_16_bits kind) value
refuses_by_the_first_case table row conn (Ok (ReadByTypeRequest first last kind)) =
    values-refused table row conn.standing conn.mtu first last (uuid_number kind)
refuses_by_the_first_case table row conn (Ok (ReadRequest handle)) = value-refused table row conn.standing conn.mtu handle
refuses_by_the_first_case table row conn (Ok (ReadBlobRequest handle offset)) = part-refused table row conn.standing conn.mtu handle offset
refuses_by_the_first_case table row conn (Ok (ReadMultipleRequest handles)) = multiple-refused table row conn.standing conn.mtu handles
refuses_by_the_first_case table row conn (Ok (ReadByGroupTypeRequest first last kind)) =
    groups-refused table row conn.standing conn.mtu first last (uuid_number kind)
refuses_by_the_first_case table row conn (Ok (WriteRequest handle value)) =
    write-refused table row conn.standing (whole_value handle value ∷ []) WRITE_REQUEST WriteResponse refl
refuses_by_the_first_case table row conn (Ok (PrepareWriteRequest handle offset part)) = prepare-refused table.attributes conn (entry_at handle offset part)
refuses_by_the_first_case table row conn (Ok (ExecuteWriteRequest flags.Cancel)) = refl
refuses_by_the_first_case table row conn (Ok (ExecuteWriteRequest flags.Write)) =
    write-refused table row conn.standing conn.queue EXECUTE_WRITE_REQUEST ExecuteWriteResponse refl
refuses_by_the_first_case table row conn (Ok ConfirmationPdu) = refl
refuses_by_the_first_case table row conn (Ok (WriteCommandPdu handle value)) = refl
refuses_by_the_first_case table row conn (Err Ignored) = refl
refuses_by_the_first_case table row conn (Err (Invalid opcode)) = refl
refuses_by_the_first_case table row conn (Err (Unsupported opcode)) = refl

-- What is refused changes nothing.

stays-where : (old : Stored) (done : Result Stored Refusal) (refusal : Refusal) → refusal-in done ≡ Some refusal → stored_after old done ≡ old
unfolding refusal-in
stays-where old (Ok new) refusal is = cc is
stays-where old (Err of) refusal is = refl

touched-none : (entries : List Entry) (done : Result Stored Refusal) (refusal : Refusal) → refusal-in done ≡ Some refusal → touched_by entries done ≡ []
unfolding refusal-in
touched-none entries (Ok new) refusal is = cc is
touched-none entries (Err of) refusal is = refl

heard-of-nothing : (access : Access) (table : Contents) (row : Row) (standing : Standing) (entries : List Entry) (refusal : Refusal)
    → option_or (first_there (bad_entries access table.attributes standing (stored_in table row) entries)) None ≡ Some refusal
    → touched_by entries (applied_to access table row standing entries) ≡ []
heard-of-nothing access table row standing entries refusal is =
    touched-none entries (applied_to access table row standing entries) refusal
    (entries-case access table.attributes standing (stored_in table row) entries ∙ sym (or-none _) ∙ is)

written-nothing : (access : Access) (table : Contents) (row : Row) (standing : Standing) (entries : List Entry) (refusal : Refusal)
    → option_or (first_there (bad_entries access table.attributes standing (stored_in table row) entries)) None ≡ Some refusal
    → stored_after (stored_in table row) (applied_to access table row standing entries) ≡ stored_in table row
written-nothing access table row standing entries refusal is =
    stays-where (stored_in table row) (applied_to access table row standing entries) refusal
    (entries-case access table.attributes standing (stored_in table row) entries ∙ sym (or-none _) ∙ is)

prepared-nothing : (conn : Bearer) (entry : Entry) (refusal : Refusal) (broken : Option (Rule × Code)) (fits : Bool)
    → option_or (option_or (option_map {U = Refusal} (λ (of : Rule × Code). record { handle = entry.handle; code = of.1 }) broken)
    (option_or (case_if (not fits) entry.handle PREPARE_QUEUE_FULL) None)) None ≡ Some refusal
    → record conn { queue = queue_after conn.queue entry (broken_or_full broken fits) } ≡ conn
prepared-nothing conn entry refusal (Some broken) fits is = refl
prepared-nothing conn entry refusal None true is = cc is
prepared-nothing conn entry refusal None false is = refl

pub refused_changes_nothing : RefusedChangesNothing
refused_changes_nothing table row conn (Ok (ExchangeMtuRequest client_rx_mtu)) refusal is = cc is
refused_changes_nothing table row conn (Ok (FindInformationRequest first last)) refusal is = record { stored = refl; written = refl; kept = refl }
refused_changes_nothing table row conn (Ok (FindByTypeValueRequest first last kind value)) refusal is = record { stored = refl; written = refl; kept = refl }
refused_changes_nothing table row conn (Ok (ReadByTypeRequest first last kind)) refusal is = record { stored = refl; written = refl; kept = refl }
refused_changes_nothing table row conn (Ok (ReadRequest handle)) refusal is = record { stored = refl; written = refl; kept = refl }
refused_changes_nothing table row conn (Ok (ReadBlobRequest handle offset)) refusal is = record { stored = refl; written = refl; kept = refl }
refused_changes_nothing table row conn (Ok (ReadMultipleRequest handles)) refusal is = record { stored = refl; written = refl; kept = refl }
refused_changes_nothing table row conn (Ok (ReadByGroupTypeRequest first last kind)) refusal is = record { stored = refl; written = refl; kept = refl }
refused_changes_nothing table row conn (Ok (WriteRequest handle value)) refusal is =
    record {
      stored = written-nothing Write table row conn.standing (whole_value handle value ∷ []) refusal is;
      written = heard-of-nothing Write table row conn.standing (whole_value handle value ∷ []) refusal is;
      kept = refl;
    }
refused_changes_nothing table row conn (Ok (PrepareWriteRequest handle offset part)) refusal is =
    let entry : Entry = entry_at handle offset part in
    record {
      stored = refl;
      written = refl;
      kept =
          prepared-nothing conn entry refusal (first_broken_of Write (guard_at table.attributes handle) conn.standing) (has_queue_room conn.queue part) is;
    }
refused_changes_nothing table row conn (Ok (ExecuteWriteRequest flags.Cancel)) refusal is = cc is
refused_changes_nothing table row conn (Ok (ExecuteWriteRequest flags.Write)) refusal is =
    record {
      stored = written-nothing Write table row conn.standing conn.queue refusal is;
      written = heard-of-nothing Write table row conn.standing conn.queue refusal is;
      kept = refl;
    }
refused_changes_nothing table row conn (Ok ConfirmationPdu) refusal is = cc is
refused_changes_nothing table row conn (Ok (WriteCommandPdu handle value)) refusal is =
    record {
      stored = written-nothing Command table row conn.standing (whole_value handle value ∷ []) refusal is;
      written = heard-of-nothing Command table row conn.standing (whole_value handle value ∷ []) refusal is;
      kept = refl;
    }
refused_changes_nothing table row conn (Err fault) refusal is = record { stored = refl; written = refl; kept = refl }

pub ignored_changes_nothing : IgnoredChangesNothing
ignored_changes_nothing table row conn = record { stored = refl; written = refl; kept = refl }
