-- What is sent may be read, what is written may be written, and a refusal changes nothing.
use Rattle.std.proofs.Common.{◌≡◌, ℕ, ◌-◌, ◌/◌, zero, suc, Bool, true, false, ◌&&◌, List, [], ◌∷◌, length, map, take, drop, Option, Some, None, refl, sym, subst}
use Rattle.std.specs.Prelude.{is_none, Result, Ok, Err, if◌then◌else◌}
use Rattle.std.specs.List.{filter, take_while, flat_map}
use Rattle.std.specs.Option.{option_map}
use Rattle.std.proofs.lemmas.List.Sums.{take_while-cons}
use Rattle.att_numbers.specs.declared.opcode.TheConstants.{FIND_INFORMATION_REQUEST, FIND_BY_TYPE_VALUE_REQUEST, READ_BY_TYPE_REQUEST, READ_REQUEST, READ_BLOB_REQUEST, READ_MULTIPLE_REQUEST, READ_BY_GROUP_TYPE_REQUEST, WRITE_REQUEST, EXECUTE_WRITE_REQUEST}
use Rattle.att_numbers.specs.AttributeType.{of_16_bits}
use Rattle.att_pdu.specs.Uuid.{uuid_number}
use Rattle.att_pdu.specs.declared.uuid.Uuid.{Uuid}
use Rattle.att_attributes.specs.OfType.{handles_of_type}
use Rattle.att_numbers.specs.Types.{Handle, Opcode, Code, Mtu, Row}
use Rattle.att_pdu.specs.declared.request.ExecuteFlags.TheVariants as flags
use Rattle.att_pdu.specs.Request.{Asked, ExchangeMtuRequest, FindInformationRequest, FindByTypeValueRequest, ReadByTypeRequest, ReadRequest, ReadBlobRequest, ReadMultipleRequest, ReadByGroupTypeRequest, WriteRequest, PrepareWriteRequest, ExecuteWriteRequest, ConfirmationPdu, WriteCommandPdu}
use Rattle.att_pdu.specs.Response.{Response, ErrorResponse, FindInformationResponse, FindByTypeValueResponse, ReadByTypeResponse, ReadResponse, ReadBlobResponse, ReadMultipleResponse, ReadByGroupTypeResponse, WriteResponse, ExecuteWriteResponse}
use Rattle.att_policy.proofs.RulesInOrder.{is_permitted}
use Rattle.att_policy.specs.declared.policy.Access.{Access}
use Rattle.att_policy.specs.declared.policy.Rule.{Rule}
use Rattle.att_policy.specs.declared.policy.Access.TheVariants.{Read, Write, Command}
use Rattle.att_policy.specs.declared.standing.Standing.{Standing}
use Rattle.att_policy.specs.Policy.{first_broken_of, first_broken_rule_of}
use Rattle.att_policy.specs.Refusal.{Refusal}
use Rattle.att_reads.specs.Access.{refusal_at, read_refusal, value_for}
use Rattle.att_reads.specs.Answer.{information_of, information_format, is_match, group_of, found_answer, values_answer, value_answer, part_answer, multiple_answer, groups_answer, information_answer}
use Rattle.att_reads.specs.List.{candidate_of}
use Rattle.att_reads.specs.declared.list.Listing.{Listing}
use Rattle.att_reads.specs.declared.list.Listing.TheVariants.{Values, Groups}
use Rattle.att_reads.specs.Listing.{Candidate, is_listed, size_of_first, first_refusal, elements, elements_within}
use Rattle.att_reads.specs.Refusals.{unless_refused, range_refusal, group_type_refusal, not_found, offset_refusal}
use Rattle.att_attributes.specs.declared.attr.Attr.{Attr}
use Rattle.att_attributes.specs.Attributes.{attributes_in, guard_at}
use Rattle.att_table.specs.Table.{Contents, value_at}
use Rattle.att_writes.specs.Applied.{Stored, after_entry, after_entries, applied_to, stored_in, stored_after, unless_entry_refused}
use Rattle.att_writes.specs.Entry.{Entry, whole_value}
use Rattle.att_writes.specs.Fault.{entry_fault, form_fault, unless_broken}
use Rattle.att_writes.specs.Queue.{once_each, touched_by, prepare_fault, queue_after}
use Rattle.gatt_conn.specs.Answer.{entry_at, prepare_response, written_response}
use Rattle.gatt_conn.specs.Connection.{Bearer}
use Rattle.octet_io.specs.Number.{Octets}
use Rattle.gatt_laws.specs.laws.Headline.{Each, MayUse, element_handle, handles_sent, SendsWhatMayBeRead, WritesWhatMayBeWritten, RefusalsChangeNothing}

none-mapped : {A B : Type 0} (f : A → B) (x : Option A) → option_map f x ≡ None → x ≡ None
none-mapped f None is = refl
none-mapped f (Some x) is = cc is

-- who is not refused may
pub may-read : (attributes : List Attr) (standing : Standing) (handle : Handle) → read_refusal attributes standing handle ≡ None
    → MayUse Read attributes standing handle
may-read attributes standing handle is =
    is_permitted Read (guard_at attributes handle) standing
    (none-mapped _ (first_broken_rule_of Read (guard_at attributes handle) standing)
    (none-mapped _ (first_broken_of Read (guard_at attributes handle) standing)
    (none-mapped _ (refusal_at attributes standing handle) is)))

-- there is none among these refusals
abbrev NoneOf : List (Option Refusal) → Type 0
NoneOf [] = Unit
NoneOf (refusal ∷ refusals) = (refusal ≡ None) × NoneOf refusals

-- an answer is a refusal, or there is none among those that go before it
answered : (P : Response → Type 0) (request : Opcode) (refusals : List (Option Refusal)) (answer : Response)
    → ((handle : Handle) (code : Code) → P (ErrorResponse request handle code)) → (NoneOf refusals → P answer) → P (unless_refused request refusals answer)
answered P request [] answer refused granted = granted tt
answered P request (Some refusal ∷ refusals) answer refused granted = refused refusal.handle refusal.code
answered P request (None ∷ refusals) answer refused granted = answered P request refusals answer refused (λ none. granted (refl, none))

no-code : (refusal : Option Code) (test : Bool) → (is_none refusal && test) ≡ true → refusal ≡ None
no-code None test is = refl
no-code (Some code) test is = cc is

module _ (table : Contents) (row : Row) (standing : Standing) (mtu : Mtu) where
  abbrev May : Handle → Type 0
  May handle = MayUse Read table.attributes standing handle

  all-read : (handles : List Handle) → NoneOf (map (read_refusal table.attributes standing) handles) → Each May handles
  all-read [] none = tt
  all-read (handle ∷ handles) none = (may-read table.attributes standing handle none.0, all-read handles none.1)

  listed-handle : (listing : Listing) (handle : Handle) → element_handle (candidate_of listing table row standing mtu handle).element ≡ handle
  listed-handle Values handle = refl
  listed-handle Groups handle = refl

  not-refused : (refusal : Option Refusal) (test : Bool) → (is_none refusal && test) ≡ true → refusal ≡ None
  not-refused None test is = refl
  not-refused (Some refusal) test is = cc is

  abbrev Sent : List Candidate → Type 0
  Sent candidates = Each May (map element_handle (elements candidates))

  sent-next : (listing : Listing) (size count : ℕ) (handle : Handle) (candidates : List Candidate) (listed : Bool)
      → is_listed size (candidate_of listing table row standing mtu handle) ≡ listed → Sent (take count candidates)
      → Sent (take (suc count) (if listed then candidate_of listing table row standing mtu handle ∷ candidates else []))
  sent-next listing size count handle candidates true is rest = (
    subst May (sym (listed-handle listing handle))
        (may-read table.attributes standing handle (not-refused (read_refusal table.attributes standing handle) _ is)),
    rest,
  )
  sent-next listing size count handle candidates false is rest = tt

  sent-listed : (listing : Listing) (size count : ℕ) (handles : List Handle)
      → Sent (take count (take_while (is_listed size) (map (candidate_of listing table row standing mtu) handles)))
  sent-listed listing size zero handles = tt
  sent-listed listing size (suc count) [] = tt
  sent-listed listing size (suc count) (handle ∷ handles) =
      subst (λ (candidates : List Candidate). Sent (take (suc count) candidates))
      (sym (take_while-cons (is_listed size) (candidate_of listing table row standing mtu handle) (map (candidate_of listing table row standing mtu) handles)))
      (sent-next listing size count handle _ (is_listed size (candidate_of listing table row standing mtu handle)) refl
      (sent-listed listing size count handles))

  -- groups that are found begin with values that may be read
  found-next : (value : Octets) (count : ℕ) (handle : Handle) (handles : List Handle) (found : Bool)
      → is_match table row standing value handle ≡ found → ((n : ℕ) → Each May (map element_handle (map (group_of table) (take n handles))))
      → Each May (map element_handle (map (group_of table) (take (suc count) (if found then handle ∷ handles else handles))))
  found-next value count handle handles true is rest = (
    is_permitted Read (guard_at table.attributes handle) standing
        (none-mapped _ (first_broken_rule_of Read (guard_at table.attributes handle) standing)
        (none-mapped _ (first_broken_of Read (guard_at table.attributes handle) standing)
        (no-code (refusal_at table.attributes standing handle) _ is))),
    rest count,
  )
  found-next value count handle handles false is rest = rest (suc count)

  sent-found : (value : Octets) (handles : List Handle) (count : ℕ)
      → Each May (map element_handle (map (group_of table) (take count (filter (is_match table row standing value) handles))))
  sent-found value [] zero = tt
  sent-found value [] (suc count) = tt
  sent-found value (handle ∷ handles) zero = tt
  sent-found value (handle ∷ handles) (suc count) =
      found-next value count handle (filter (is_match table row standing value) handles) (is_match table row standing value handle) refl
      (sent-found value handles)

-- what is sent, by what is asked
abbrev SentTo : Contents → Standing → Asked → Response → Type 0
SentTo table standing asked response = Each (MayUse Read table.attributes standing) (handles_sent asked response)

-- the entries that an access is refused for the policy are not written
pub written-may : (access : Access) (attributes : List Attr) (standing : Standing) (entry : Entry) (broken : Option (Rule × Code)) (fault : Option Code)
    → first_broken_of access (guard_at attributes entry.handle) standing ≡ broken → unless_broken broken fault ≡ None
    → MayUse access attributes standing entry.handle
written-may access attributes standing entry None fault is none =
    is_permitted access (guard_at attributes entry.handle) standing (none-mapped _ (first_broken_rule_of access (guard_at attributes entry.handle) standing) is)
written-may access attributes standing entry (Some broken) fault is none = cc none

-- each entry that is written may be: entries are written where none is refused
none-refused : (entry : Entry) (code : Option Code) (rest : Result Stored Refusal) (new : Stored)
    → unless_entry_refused entry code rest ≡ Ok new → (code ≡ None)
none-refused entry None rest new is = refl
none-refused entry (Some code) rest new is = cc is

rest-done : (entry : Entry) (code : Option Code) (rest : Result Stored Refusal) (new : Stored)
    → unless_entry_refused entry code rest ≡ Ok new → rest ≡ Ok new
rest-done entry None rest new is = is
rest-done entry (Some code) rest new is = cc is

all-written : (access : Access) (attributes : List Attr) (standing : Standing) (stored : Stored) (entries : List Entry) (new : Stored)
    → after_entries access attributes standing stored entries ≡ Ok new
    → Each (MayUse access attributes standing) (map (λ (entry : Entry). entry.handle) entries)
unfolding after_entries
all-written access attributes standing stored [] new is = tt
all-written access attributes standing stored (entry ∷ entries) new is =
    let size = length (value_at stored.values entry.handle) in (
      written-may access attributes standing entry (first_broken_of access (guard_at attributes entry.handle) standing) (form_fault attributes size entry) refl
          (none-refused entry (entry_fault access attributes standing size entry) _ new is),
      all-written access attributes standing (after_entry attributes stored entry) entries new
          (rest-done entry (entry_fault access attributes standing size entry) _ new is),
    )

-- and so may those of them that are told, each once
each-next : (P : Handle → Type 0) (handle : Handle) (handles : List Handle) (test : Bool) → P handle → Each P handles
    → Each P (if test then handle ∷ handles else handles)
each-next P handle handles true this others = (this, others)
each-next P handle handles false this others = others

each-filtered : (P : Handle → Type 0) (test : Handle → Bool) (handles : List Handle) → Each P handles → Each P (filter test handles)
each-filtered P test [] each = tt
each-filtered P test (handle ∷ handles) each =
    each-next P handle (filter test handles) (test handle) each.0 (each-filtered P test handles each.1)

pub each-once : (P : Handle → Type 0) (handles : List Handle) → Each P handles → Each P (once_each handles)
each-once P [] each = tt
each-once P (handle ∷ handles) each = (each.0, each-filtered P _ (once_each handles) (each-once P handles each.1))

touched-may : (access : Access) (attributes : List Attr) (standing : Standing) (entries : List Entry) (done : Result Stored Refusal)
    → ((new : Stored) → done ≡ Ok new → Each (MayUse access attributes standing) (map (λ (entry : Entry). entry.handle) entries))
    → Each (MayUse access attributes standing) (touched_by entries done)
touched-may access attributes standing entries (Ok new) may = each-once (MayUse access attributes standing) _ (may new refl)
touched-may access attributes standing entries (Err refusal) may = tt

written-by : (access : Access) (table : Contents) (row : Row) (standing : Standing) (entries : List Entry)
    → Each (MayUse access table.attributes standing) (touched_by entries (applied_to access table row standing entries))
written-by access table row standing entries =
    touched-may access table.attributes standing entries (applied_to access table row standing entries)
    (λ new is. all-written access table.attributes standing (stored_in table row) entries new is)

pub writes_what_may_be_written : WritesWhatMayBeWritten
writes_what_may_be_written table row conn (Ok (WriteRequest handle value)) = written-by Write table row conn.standing (whole_value handle value ∷ [])
writes_what_may_be_written table row conn (Ok (ExecuteWriteRequest flags.Write)) = written-by Write table row conn.standing conn.queue
writes_what_may_be_written table row conn (Ok (ExecuteWriteRequest flags.Cancel)) = tt
writes_what_may_be_written table row conn (Ok (WriteCommandPdu handle value)) = written-by Command table row conn.standing (whole_value handle value ∷ [])
writes_what_may_be_written table row conn (Ok (ExchangeMtuRequest client_rx_mtu)) = tt
writes_what_may_be_written table row conn (Ok (FindInformationRequest first last)) = tt
writes_what_may_be_written table row conn (Ok (FindByTypeValueRequest first last kind value)) = tt
writes_what_may_be_written table row conn (Ok (ReadByTypeRequest first last kind)) = tt
writes_what_may_be_written table row conn (Ok (ReadRequest handle)) = tt
writes_what_may_be_written table row conn (Ok (ReadBlobRequest handle offset)) = tt
writes_what_may_be_written table row conn (Ok (ReadMultipleRequest handles)) = tt
writes_what_may_be_written table row conn (Ok (ReadByGroupTypeRequest first last kind)) = tt
writes_what_may_be_written table row conn (Ok (PrepareWriteRequest handle offset part)) = tt
writes_what_may_be_written table row conn (Ok ConfirmationPdu) = tt
writes_what_may_be_written table row conn (Err fault) = tt

-- what is answered to a write sends no value
sends-none : (table : Contents) (standing : Standing) (asked : Asked) (request : Opcode) (granted : Response) (done : Result Stored Refusal)
    → SentTo table standing asked granted → ((handle : Handle) (code : Code) → SentTo table standing asked (ErrorResponse request handle code))
    → SentTo table standing asked (written_response request granted done)
sends-none table standing asked request granted (Ok new) none refused = none
sends-none table standing asked request granted (Err refusal) none refused = refused refusal.handle refusal.code

prepare-sends : (table : Contents) (standing : Standing) (handle : Handle) (offset : ℕ) (part : Octets) (entry : Entry) (fault : Option Code)
    → SentTo table standing (PrepareWriteRequest handle offset part) (prepare_response entry fault)
prepare-sends table standing handle offset part entry None = tt
prepare-sends table standing handle offset part entry (Some code) = tt

information-sends : (table : Contents) (standing : Standing) (mtu : Mtu) (first last : Handle)
    → SentTo table standing (FindInformationRequest first last) (information_answer table mtu first last)
unfolding information_answer
information-sends table standing mtu first last =
    let types = map information_of (attributes_in table.attributes first last) in
    answered (SentTo table standing (FindInformationRequest first last)) FIND_INFORMATION_REQUEST
    (range_refusal first last ∷ not_found first types ∷ [])
    (FindInformationResponse (information_format (size_of_first types)) (elements_within mtu types)) (λ handle code. tt) (λ none. tt)

found-sends : (table : Contents) (row : Row) (standing : Standing) (mtu : Mtu) (first last : Handle) (kind : ℕ) (value : Octets)
    → SentTo table standing (FindByTypeValueRequest first last kind value) (found_answer table row standing mtu first last (of_16_bits kind) value)
unfolding found_answer
found-sends table row standing mtu first last kind value =
    let handles = handles_of_type table.attributes (of_16_bits kind) first last in
    let found = filter (is_match table row standing value) handles in
    answered (SentTo table standing (FindByTypeValueRequest first last kind value)) FIND_BY_TYPE_VALUE_REQUEST
    (range_refusal first last ∷ not_found first found ∷ [])
    (FindByTypeValueResponse (map (group_of table) (take ((mtu - 1) / 4) found))) (λ handle code. tt)
    (λ none. sent-found table row standing mtu value handles ((mtu - 1) / 4))

values-send : (table : Contents) (row : Row) (standing : Standing) (mtu : Mtu) (first last : Handle) (kind : Uuid)
    → SentTo table standing (ReadByTypeRequest first last kind) (values_answer table row standing mtu first last (uuid_number kind))
unfolding values_answer
values-send table row standing mtu first last kind =
    let handles = handles_of_type table.attributes (uuid_number kind) first last in
    let values = map (candidate_of Values table row standing mtu) handles in
    answered (SentTo table standing (ReadByTypeRequest first last kind)) READ_BY_TYPE_REQUEST
    (range_refusal first last ∷ not_found first values ∷ first_refusal values ∷ [])
    (ReadByTypeResponse (size_of_first values) (elements_within mtu values)) (λ handle code. tt)
    (λ none. sent-listed table row standing mtu Values (size_of_first values) ((mtu - 2) / size_of_first values) handles)

groups-send : (table : Contents) (row : Row) (standing : Standing) (mtu : Mtu) (first last : Handle) (kind : Uuid)
    → SentTo table standing (ReadByGroupTypeRequest first last kind) (groups_answer table row standing mtu first last (uuid_number kind))
unfolding groups_answer
groups-send table row standing mtu first last kind =
    let handles = handles_of_type table.attributes (uuid_number kind) first last in
    let groups = map (candidate_of Groups table row standing mtu) handles in
    answered (SentTo table standing (ReadByGroupTypeRequest first last kind)) READ_BY_GROUP_TYPE_REQUEST
    (range_refusal first last ∷ group_type_refusal first (uuid_number kind) ∷ not_found first groups ∷ first_refusal groups ∷ [])
    (ReadByGroupTypeResponse (size_of_first groups) (elements_within mtu groups)) (λ handle code. tt)
    (λ none. sent-listed table row standing mtu Groups (size_of_first groups) ((mtu - 2) / size_of_first groups) handles)

value-sends : (table : Contents) (row : Row) (standing : Standing) (mtu : Mtu) (handle : Handle)
    → SentTo table standing (ReadRequest handle) (value_answer table row standing mtu handle)
unfolding value_answer
value-sends table row standing mtu handle =
    answered (SentTo table standing (ReadRequest handle)) READ_REQUEST (read_refusal table.attributes standing handle ∷ [])
    (ReadResponse (take (mtu - 1) (value_for table row handle))) (λ at code. tt)
    (λ none. (may-read table.attributes standing handle none.0, tt))

part-sends : (table : Contents) (row : Row) (standing : Standing) (mtu : Mtu) (handle : Handle) (offset : ℕ)
    → SentTo table standing (ReadBlobRequest handle offset) (part_answer table row standing mtu handle offset)
unfolding part_answer
part-sends table row standing mtu handle offset =
    let value = value_for table row handle in
    answered (SentTo table standing (ReadBlobRequest handle offset)) READ_BLOB_REQUEST
    (read_refusal table.attributes standing handle ∷ offset_refusal handle offset value ∷ [])
    (ReadBlobResponse (take (mtu - 1) (drop offset value))) (λ at code. tt)
    (λ none. (may-read table.attributes standing handle none.0, tt))

multiple-sends : (table : Contents) (row : Row) (standing : Standing) (mtu : Mtu) (handles : List Handle)
    → SentTo table standing (ReadMultipleRequest handles) (multiple_answer table row standing mtu handles)
unfolding multiple_answer
multiple-sends table row standing mtu handles =
    answered (SentTo table standing (ReadMultipleRequest handles)) READ_MULTIPLE_REQUEST (map (read_refusal table.attributes standing) handles)
    (ReadMultipleResponse (take (mtu - 1) (flat_map (value_for table row) handles))) (λ at code. tt)
    (λ none. all-read table row standing mtu handles none)

pub sends_what_may_be_read : SendsWhatMayBeRead
sends_what_may_be_read table row conn (FindInformationRequest first last) = information-sends table conn.standing conn.mtu first last
sends_what_may_be_read table row conn (FindByTypeValueRequest first last kind value) = found-sends table row conn.standing conn.mtu first last kind value
sends_what_may_be_read table row conn (ReadByTypeRequest first last kind) = values-send table row conn.standing conn.mtu first last kind
sends_what_may_be_read table row conn (ReadRequest handle) = value-sends table row conn.standing conn.mtu handle
sends_what_may_be_read table row conn (ReadBlobRequest handle offset) = part-sends table row conn.standing conn.mtu handle offset
sends_what_may_be_read table row conn (ReadMultipleRequest handles) = multiple-sends table row conn.standing conn.mtu handles
sends_what_may_be_read table row conn (ReadByGroupTypeRequest first last kind) = groups-send table row conn.standing conn.mtu first last kind
sends_what_may_be_read table row conn (WriteRequest handle value) =
    sends-none table conn.standing (WriteRequest handle value) WRITE_REQUEST WriteResponse
    (applied_to Write table row conn.standing (whole_value handle value ∷ [])) tt (λ at code. tt)
sends_what_may_be_read table row conn (PrepareWriteRequest handle offset part) =
    prepare-sends table conn.standing handle offset part (entry_at handle offset part)
    (prepare_fault table.attributes conn.standing conn.queue (entry_at handle offset part))
sends_what_may_be_read table row conn (ExecuteWriteRequest flags.Cancel) = tt
sends_what_may_be_read table row conn (ExecuteWriteRequest flags.Write) =
    sends-none table conn.standing (ExecuteWriteRequest flags.Write) EXECUTE_WRITE_REQUEST ExecuteWriteResponse
    (applied_to Write table row conn.standing conn.queue) tt (λ at code. tt)
sends_what_may_be_read table row conn asked = tt

-- Refusals.

-- where what is answered to a write is a refusal, nothing was written
refused-write : (old : Stored) (request at : Opcode) (handle : Handle) (code : Code) (granted : Response) (done : Result Stored Refusal)
    → (granted ≡ ErrorResponse at handle code → ⊥) → Some (written_response request granted done) ≡ Some (ErrorResponse at handle code)
    → stored_after old done ≡ old
refused-write old request at handle code granted (Ok new) never is = absurd (never (cc is))
refused-write old request at handle code granted (Err refusal) never is = refl

same-queue : (conn : Bearer) (entry : Entry) (fault : Option Code) (at : Opcode) (handle : Handle) (code : Code)
    → Some (prepare_response entry fault) ≡ Some (ErrorResponse at handle code)
    → record conn { queue = queue_after conn.queue entry fault } ≡ conn
same-queue conn entry (Some other) at handle code is = refl
same-queue conn entry None at handle code is = cc is

pub refusals_change_nothing : RefusalsChangeNothing
refusals_change_nothing table row conn (Ok (ExchangeMtuRequest client_rx_mtu)) request handle code is = cc is
refusals_change_nothing table row conn (Ok (FindInformationRequest first last)) request handle code is = (refl, refl)
refusals_change_nothing table row conn (Ok (FindByTypeValueRequest first last kind value)) request handle code is = (refl, refl)
refusals_change_nothing table row conn (Ok (ReadByTypeRequest first last kind)) request handle code is = (refl, refl)
refusals_change_nothing table row conn (Ok (ReadRequest at)) request handle code is = (refl, refl)
refusals_change_nothing table row conn (Ok (ReadBlobRequest at offset)) request handle code is = (refl, refl)
refusals_change_nothing table row conn (Ok (ReadMultipleRequest handles)) request handle code is = (refl, refl)
refusals_change_nothing table row conn (Ok (ReadByGroupTypeRequest first last kind)) request handle code is = (refl, refl)
refusals_change_nothing table row conn (Ok (WriteRequest at value)) request handle code is = (
  refused-write (stored_in table row) WRITE_REQUEST request handle code WriteResponse (applied_to Write table row conn.standing (whole_value at value ∷ []))
      (λ e. cc e) is,
  refl,
)
refusals_change_nothing table row conn (Ok (PrepareWriteRequest at offset part)) request handle code is = (
  refl,
  same-queue conn (entry_at at offset part) (prepare_fault table.attributes conn.standing conn.queue (entry_at at offset part)) request handle code is,
)
refusals_change_nothing table row conn (Ok (ExecuteWriteRequest flags.Cancel)) request handle code is = cc is
refusals_change_nothing table row conn (Ok (ExecuteWriteRequest flags.Write)) request handle code is = (
  refused-write (stored_in table row) EXECUTE_WRITE_REQUEST request handle code ExecuteWriteResponse (applied_to Write table row conn.standing conn.queue)
      (λ e. cc e) is,
  refl,
)
refusals_change_nothing table row conn (Ok ConfirmationPdu) request handle code is = (refl, refl)
refusals_change_nothing table row conn (Ok (WriteCommandPdu at value)) request handle code is = cc is
refusals_change_nothing table row conn (Err fault) request handle code is = (refl, refl)
