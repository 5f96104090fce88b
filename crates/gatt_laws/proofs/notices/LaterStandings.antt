-- A later time allows a connection the same if it is authorized at both times or at neither.
use Rattle.std.proofs.Common.{◌≡◌, ℕ, Bool, false, List, [], ◌∷◌, map, length, Option, Some, None, Result, Ok, Err, refl, ap}
use Rattle.std.specs.Prelude.{◌-◌, ◌/◌, ◌==◌, ◌&&◌, not, nat_le, is_none, drop, filter, take}
use Rattle.std.specs.Int.RustNames.{bit_and}
use Rattle.std.specs.List.{find, flat_map}
use Rattle.std.specs.Option.{option_map, option_map_or}
use Rattle.std.specs.Str.{bytes_eq}
use Rattle.att_attributes.specs.Attributes.{attribute_at, guard_at, is_value}
use Rattle.att_attributes.specs.OfType.{handles_of_type}
use Rattle.att_attributes.specs.declared.attr.Attr.{Attr}
use Rattle.att_numbers.specs.AttributeType.{of_16_bits}
use Rattle.att_numbers.specs.Types.{Code, Handle, Mtu, Row}
use Rattle.att_numbers.specs.declared.opcode.TheConstants.{EXECUTE_WRITE_REQUEST, FIND_BY_TYPE_VALUE_REQUEST, READ_BLOB_REQUEST}
use Rattle.att_numbers.specs.declared.opcode.TheConstants.{READ_BY_GROUP_TYPE_REQUEST, READ_BY_TYPE_REQUEST, READ_MULTIPLE_REQUEST}
use Rattle.att_numbers.specs.declared.opcode.TheConstants.{READ_REQUEST, WRITE_REQUEST}
use Rattle.att_pdu.specs.Request.{Asked, ExchangeMtuRequest, FindByTypeValueRequest, ReadByTypeRequest, ReadRequest}
use Rattle.att_pdu.specs.Request.{ReadBlobRequest, ReadMultipleRequest, ReadByGroupTypeRequest}
use Rattle.att_pdu.specs.Request.{WriteRequest, PrepareWriteRequest, ExecuteWriteRequest}
use Rattle.att_pdu.specs.Response.{FindByTypeValueResponse, ReadByTypeResponse, ReadResponse, ReadBlobResponse}
use Rattle.att_pdu.specs.Response.{ReadMultipleResponse, ReadByGroupTypeResponse, WriteResponse, ExecuteWriteResponse}
use Rattle.att_pdu.specs.Uuid.{uuid_number}
use Rattle.att_pdu.specs.declared.grammar.PduFault.TheVariants.{Ignored, Invalid, Unsupported}
use Rattle.att_pdu.specs.declared.request.ExecuteFlags.TheVariants as flags
use Rattle.att_policy.specs.Policy.{code_of, configuration_bits_of, first_broken_of, first_unmet_rule_of, is_broken, is_unmet}
use Rattle.att_policy.specs.Policy.{need_of, rules_in_order, rules_of_need}
use Rattle.att_policy.specs.Refusal.{Refusal}
use Rattle.att_policy.specs.declared.guard.Guard.{Guard}
use Rattle.att_policy.specs.declared.guard.Need.{Need}
use Rattle.att_policy.specs.declared.policy.Access.{Access}
use Rattle.att_policy.specs.declared.policy.Access.TheVariants.{Read, Write}
use Rattle.att_policy.specs.declared.policy.Rule.{Rule}
use Rattle.att_policy.specs.declared.policy.Rule.TheVariants.{HandleExists, Property, Encryption, Authentication, KeySize, SecureConnections, Authorization}
use Rattle.att_policy.specs.declared.standing.Standing.{Standing}
use Rattle.att_reads.specs.Access.{read_refusal, refusal_at, value_for}
use Rattle.att_reads.specs.Answer.{found_answer, group_of, groups_answer, is_match, multiple_answer, part_answer, read_answer, value_answer}
use Rattle.att_reads.specs.Answer.{values_answer}
use Rattle.att_reads.specs.List.{candidate_of, cut_of, element_of}
use Rattle.att_reads.specs.Listing.{Candidate, elements_within, first_refusal, size_of_first}
use Rattle.att_reads.specs.Refusals.{group_type_refusal, not_found, offset_refusal, range_refusal, unless_refused}
use Rattle.att_reads.specs.declared.list.Listing.{Listing}
use Rattle.att_reads.specs.declared.list.Listing.TheVariants.{Values, Groups}
use Rattle.att_table.specs.Table.{Contents, value_at}
use Rattle.att_writes.specs.Applied.{Stored, after_entries, after_entry, stored_after, stored_in, unless_entry_refused}
use Rattle.att_writes.specs.Entry.{Entry, whole_value}
use Rattle.att_writes.specs.Fault.{form_fault, unless_broken}
use Rattle.att_writes.specs.Queue.{broken_or_full, has_queue_room, touched_by}
use Rattle.gatt_conn.specs.Answer.{Question, Writing, answer_to, entry_at, handles_after, handles_by, prepare_response, response_to}
use Rattle.gatt_conn.specs.Answer.{stored_after_writing, stored_by, writing_asked, written_response}
use Rattle.gatt_conn.specs.Connection.{Bearer}
use Rattle.gatt_subs.specs.Hearing.{bits_for, is_indicated, may_hear_at, wants_indications}
use Rattle.octet_io.specs.Number.{Octets}

module _ (standing : Standing) (now : ℕ) (same : nat_le standing.until now ≡ nat_le standing.until standing.now) where
  abbrev later : Standing
  later = record standing { now = now }

  -- The policy.

  same-unmet : (need : Need) (rule : Rule) → is_unmet need later rule ≡ is_unmet need standing rule
  same-unmet need HandleExists = refl
  same-unmet need Property = refl
  same-unmet need Encryption = refl
  same-unmet need Authentication = refl
  same-unmet need KeySize = refl
  same-unmet need SecureConnections = refl
  same-unmet need Authorization = ap (λ (ended : Bool). need.authorized && ended) same

  same-broken : (access : Access) (guard : Option Guard) (rule : Rule)
      → is_broken access guard later rule ≡ is_broken access guard standing rule
  same-broken access None HandleExists = refl
  same-broken access None Property = refl
  same-broken access None Encryption = refl
  same-broken access None Authentication = refl
  same-broken access None KeySize = refl
  same-broken access None SecureConnections = refl
  same-broken access None Authorization = refl
  same-broken access (Some guard) HandleExists = refl
  same-broken access (Some guard) Property = refl
  same-broken access (Some guard) Encryption = refl
  same-broken access (Some guard) Authentication = refl
  same-broken access (Some guard) KeySize = refl
  same-broken access (Some guard) SecureConnections = refl
  same-broken access (Some guard) Authorization = same-unmet (need_of access guard) Authorization

  same-code : (access : Access) (rule : Rule) → code_of access later rule ≡ code_of access standing rule
  same-code access HandleExists = refl
  same-code access Property = refl
  same-code access Encryption = refl
  same-code access Authentication = refl
  same-code access KeySize = refl
  same-code access SecureConnections = refl
  same-code access Authorization = refl

  same-first : (access : Access) (guard : Option Guard) → first_broken_of access guard later ≡ first_broken_of access guard standing
  same-first access guard = λ i.
      option_map (λ (rule : Rule). (rule, same-code access rule i)) (find (λ (rule : Rule). same-broken access guard rule i) rules_in_order)

  same-first-unmet : (need : Need) → first_unmet_rule_of need later ≡ first_unmet_rule_of need standing
  same-first-unmet need = λ i. find (λ (rule : Rule). same-unmet need rule i) rules_of_need

  -- Notifications and indications.

  pub may_hear_later : (attributes : List Attr) (row : Row) (handle : Handle)
      → may_hear_at attributes row later handle ≡ may_hear_at attributes row standing handle
  may_hear_later attributes row handle = λ i.
      option_map_or (λ (attr : Attr). is_value attr.role
      && (not (bit_and (bits_for row handle) (configuration_bits_of attr.guard.properties) == 0)
      && is_none (same-first-unmet attr.guard.read i))) (attribute_at attributes handle) false

  pub indicated_later : (attributes : List Attr) (row : Row) → is_indicated attributes row later ≡ is_indicated attributes row standing
  indicated_later attributes row = λ i handle. may_hear_later attributes row handle i && wants_indications row handle

  -- Requests that read.

  same-refusal : (attributes : List Attr) (handle : Handle) → refusal_at attributes later handle ≡ refusal_at attributes standing handle
  same-refusal attributes handle = ap (option_map (λ (broken : Rule × Code). broken.1)) (same-first Read (guard_at attributes handle))

  same-read-refusal : (attributes : List Attr) (handle : Handle)
      → read_refusal attributes later handle ≡ read_refusal attributes standing handle
  same-read-refusal attributes handle = λ i. option_map (with_code handle) (same-refusal attributes handle i)
    where
      with_code : Handle → Code → Refusal
      with_code handle code = record { handle = handle; code = code }

  same-candidate : (listing : Listing) (table : Contents) (row : Row) (mtu : Mtu) (handle : Handle)
      → candidate_of listing table row later mtu handle ≡ candidate_of listing table row standing mtu handle
  same-candidate listing table row mtu handle = λ i. record {
    refusal = same-read-refusal table.attributes handle i;
    element = element_of listing table handle (take (cut_of listing mtu) (value_for table row handle));
  }

  same-candidates : (listing : Listing) (table : Contents) (row : Row) (mtu : Mtu) (handles : List Handle)
      → map (candidate_of listing table row later mtu) handles ≡ map (candidate_of listing table row standing mtu) handles
  same-candidates listing table row mtu handles = λ i. map (λ (handle : Handle). same-candidate listing table row mtu handle i) handles

  same-matches : (table : Contents) (row : Row) (value : Octets) (handles : List Handle)
      → filter (is_match table row later value) handles ≡ filter (is_match table row standing value) handles
  same-matches table row value handles = λ i.
      filter (λ (handle : Handle). is_none (same-refusal table.attributes handle i) && bytes_eq (value_for table row handle) value) handles

  same-read : (table : Contents) (row : Row) (mtu : Mtu) (asked : Asked)
      → read_answer table row later mtu asked ≡ read_answer table row standing mtu asked
  unfolding found_answer values_answer value_answer part_answer multiple_answer groups_answer
  same-read table row mtu (FindByTypeValueRequest first last type value) =
      ap (λ (found : List Handle). Some (unless_refused FIND_BY_TYPE_VALUE_REQUEST (range_refusal first last ∷ not_found first found ∷ [])
      (FindByTypeValueResponse (map (group_of table) (take ((mtu - 1) / 4) found)))))
      (same-matches table row value (handles_of_type table.attributes (of_16_bits type) first last))
  same-read table row mtu (ReadByTypeRequest first last type) =
      ap (λ (values : List Candidate). Some (unless_refused READ_BY_TYPE_REQUEST
      (range_refusal first last ∷ not_found first values ∷ first_refusal values ∷ [])
      (ReadByTypeResponse (size_of_first values) (elements_within mtu values))))
      (same-candidates Values table row mtu (handles_of_type table.attributes (uuid_number type) first last))
  same-read table row mtu (ReadRequest handle) =
      ap (λ (refusal : Option Refusal). Some (unless_refused READ_REQUEST (refusal ∷ [])
      (ReadResponse (take (mtu - 1) (value_for table row handle))))) (same-read-refusal table.attributes handle)
  same-read table row mtu (ReadBlobRequest handle offset) =
      ap (λ (refusal : Option Refusal). Some (unless_refused READ_BLOB_REQUEST
      (refusal ∷ offset_refusal handle offset (value_for table row handle) ∷ [])
      (ReadBlobResponse (take (mtu - 1) (drop offset (value_for table row handle)))))) (same-read-refusal table.attributes handle)
  same-read table row mtu (ReadMultipleRequest handles) =
      ap (λ (refusals : List (Option Refusal)). Some (unless_refused READ_MULTIPLE_REQUEST refusals
      (ReadMultipleResponse (take (mtu - 1) (flat_map (value_for table row) handles)))))
      (λ i. map (λ (handle : Handle). same-read-refusal table.attributes handle i) handles)
  same-read table row mtu (ReadByGroupTypeRequest first last type) =
      ap (λ (groups : List Candidate). Some (unless_refused READ_BY_GROUP_TYPE_REQUEST
      (range_refusal first last ∷ group_type_refusal first (uuid_number type) ∷ not_found first groups ∷ first_refusal groups ∷ [])
      (ReadByGroupTypeResponse (size_of_first groups) (elements_within mtu groups))))
      (same-candidates Groups table row mtu (handles_of_type table.attributes (uuid_number type) first last))
  same-read table row mtu asked = refl

  -- Requests that write.

  same-entries : (access : Access) (attributes : List Attr) (stored : Stored) (entries : List Entry)
      → after_entries access attributes later stored entries ≡ after_entries access attributes standing stored entries
  unfolding after_entries
  same-entries access attributes stored [] = refl
  same-entries access attributes stored (entry ∷ rest) = λ i.
      unless_entry_refused entry
      (unless_broken (same-first access (guard_at attributes entry.handle) i)
      (form_fault attributes (length (value_at stored.values entry.handle)) entry))
      (same-entries access attributes (after_entry attributes stored entry) rest i)

  module _ (table : Contents) (row : Row) (bearer : Bearer) where
    abbrev at_standing : Standing → Bearer
    at_standing of = record bearer { standing = of }

    same-response : (asked : Asked) → response_to table row (at_standing later) asked ≡ response_to table row (at_standing standing) asked
    same-response (ExchangeMtuRequest mtu) = refl
    same-response (WriteRequest handle value) =
        ap (λ (stored : Result Stored Refusal). Some (written_response WRITE_REQUEST WriteResponse stored))
        (same-entries Write table.attributes (stored_in table row) (whole_value handle value ∷ []))
    same-response (PrepareWriteRequest handle offset part) =
        let entry : Entry = entry_at handle offset part in
        λ i. Some (prepare_response entry (broken_or_full (same-first Write (guard_at table.attributes handle) i)
        (has_queue_room bearer.queue part)))
    same-response (ExecuteWriteRequest flags.Cancel) = refl
    same-response (ExecuteWriteRequest flags.Write) =
        ap (λ (stored : Result Stored Refusal). Some (written_response EXECUTE_WRITE_REQUEST ExecuteWriteResponse stored))
        (same-entries Write table.attributes (stored_in table row) bearer.queue)
    same-response asked = same-read table row bearer.mtu asked

    pub answer_later : (asked : Question) → answer_to table row (at_standing later) asked ≡ answer_to table row (at_standing standing) asked
    answer_later (Ok asked) = same-response asked
    answer_later (Err Ignored) = refl
    answer_later (Err (Invalid opcode)) = refl
    answer_later (Err (Unsupported opcode)) = refl

    same-stored : (writing : Option Writing)
        → stored_after_writing table row later writing ≡ stored_after_writing table row standing writing
    same-stored None = refl
    same-stored (Some writing) =
        ap (stored_after (stored_in table row)) (same-entries writing.access table.attributes (stored_in table row) writing.entries)

    pub stored_later : (asked : Question) → stored_by table row (at_standing later) asked ≡ stored_by table row (at_standing standing) asked
    stored_later asked = same-stored (writing_asked bearer.queue asked)

    same-handles : (writing : Option Writing) → handles_after table row later writing ≡ handles_after table row standing writing
    same-handles None = refl
    same-handles (Some writing) =
        ap (touched_by writing.entries) (same-entries writing.access table.attributes (stored_in table row) writing.entries)

    pub handles_later : (asked : Question) → handles_by table row (at_standing later) asked ≡ handles_by table row (at_standing standing) asked
    handles_later asked = same-handles (writing_asked bearer.queue asked)
