-- Requests that write refuse by the first case of the list.
use Rattle.std.proofs.Common.{◌≡◌, ℕ, ◌+◌, Bool, true, false, List, [], ◌∷◌, length, map, take, Option, Some, None, refl, sym, ap, ◌∙◌}
use Rattle.std.specs.Prelude.{◌==◌, nat_lt, ◌&&◌, not, if◌then◌else◌, Result, Ok, Err}
use Rattle.std.specs.Option.{option_map, option_or}
use Rattle.att_numbers.specs.Types.{Handle, Opcode, Code, Row}
use Rattle.att_numbers.specs.declared.error_code.TheConstants.{INVALID_OFFSET, PREPARE_QUEUE_FULL, ATTRIBUTE_NOT_FOUND, INVALID_ATTRIBUTE_VALUE_LENGTH, UNSUPPORTED_GROUP_TYPE, OUT_OF_RANGE}
use Rattle.att_numbers.specs.declared.opcode.TheConstants.{PREPARE_WRITE_REQUEST}
use Rattle.att_pdu.specs.Response.{Response, ErrorResponse}
use Rattle.att_policy.specs.Policy.{first_broken_of}
use Rattle.att_policy.specs.Refusal.{Refusal}
use Rattle.att_policy.specs.declared.policy.Access.{Access}
use Rattle.att_policy.specs.declared.policy.Access.TheVariants.{Read}
use Rattle.att_policy.specs.declared.policy.Rule.{Rule}
use Rattle.att_policy.specs.declared.standing.Standing.{Standing}
use Rattle.att_attributes.specs.Attributes.{guard_at, is_configuration_at, configuration_bits_at}
use Rattle.att_attributes.specs.declared.attr.Attr.{Attr}
use Rattle.att_reads.specs.Access.{read_refusal}
use Rattle.att_reads.specs.List.{candidate_of}
use Rattle.att_reads.specs.Listing.{first_refusal}
use Rattle.att_reads.specs.Refusals.{unless_refused, not_found}
use Rattle.att_reads.specs.declared.list.Listing.{Listing}
use Rattle.att_table.specs.Table.{Contents, value_at}
use Rattle.att_writes.specs.Applied.{Stored, after_entry, after_entries, applied_to, stored_in, unless_entry_refused}
use Rattle.att_writes.specs.Entry.{Entry}
use Rattle.att_writes.specs.Fault.{configuration_fault, entry_fault, form_fault, has_bits_within, room_for, unless_broken, value_fault}
use Rattle.att_writes.specs.Queue.{broken_or_full}
use Rattle.gatt_conn.specs.Answer.{prepare_response, written_response}
use Rattle.gatt_laws.specs.laws.View.{are_none}
use Rattle.gatt_theorems.specs.FirstCase.{first_there, case_if, broken_at, bad_entry, bad_entries, error_in}

-- an answer behind refusals refuses by the first of them
unfoldable pub error : Opcode → Refusal → Response
error request refusal = ErrorResponse request refusal.handle refusal.code

pub behind : (request : Opcode) (refusals : List (Option Refusal)) (answer : Response) → error_in (Some answer) ≡ None
    → error_in (Some (unless_refused request refusals answer)) ≡ option_map (error request) (first_there refusals)
unfolding error
behind request [] answer granted = granted
behind request (None ∷ refusals) answer granted = behind request refusals answer granted
behind request (Some refusal ∷ refusals) answer granted = refl

-- the same cases in the words of those answers
pub same-none : {A : Type 0} (first : Handle) (found : List A) → not_found first found ≡ case_if (are_none found) first ATTRIBUTE_NOT_FOUND
same-none first [] = refl
same-none first (one ∷ found) = refl

pub none-of-mapped : {A B : Type 0} (f : A → B) (first : Handle) (found : List A) → not_found first (map f found) ≡ not_found first found
none-of-mapped f first [] = refl
none-of-mapped f first (one ∷ found) = refl

same-broken : (handle : Handle) (broken : Option (Rule × Code))
    → option_map {U = Refusal} (λ (code : Code). record { handle = handle; code = code }) (option_map (λ (of : Rule × Code). of.1) broken)
    ≡ option_map {U = Refusal} (λ (of : Rule × Code). record { handle = handle; code = of.1 }) broken
same-broken handle None = refl
same-broken handle (Some broken) = refl

pub same-refusal : (attributes : List Attr) (standing : Standing) (handle : Handle) → read_refusal attributes standing handle
    ≡ broken_at Read attributes standing handle
same-refusal attributes standing handle = same-broken handle (first_broken_of Read (guard_at attributes handle) standing)

pub same-group : (first : Handle) (service : Bool)
    → (if service then None else Some (record { handle = first; code = UNSUPPORTED_GROUP_TYPE })) ≡ case_if (not service) first UNSUPPORTED_GROUP_TYPE
same-group first true = refl
same-group first false = refl

pub or-none : {A : Type 0} (one : Option A) → option_or one None ≡ one
or-none None = refl
or-none (Some found) = refl

pub or-of-or : {A : Type 0} (one other : Option A) → option_or (option_or one None) other ≡ option_or one other
or-of-or None other = refl
or-of-or (Some found) other = refl

pub first-of-list : (listing : Listing) (table : Contents) (row : Row) (standing : Standing) (mtu : ℕ) (handles : List Handle)
    → first_refusal (map (candidate_of listing table row standing mtu) handles)
    ≡ first_there (map (broken_at Read table.attributes standing) (take 1 handles))
first-of-list listing table row standing mtu [] = refl
first-of-list listing table row standing mtu (handle ∷ handles) =
    same-refusal table.attributes standing handle ∙ sym (or-none (broken_at Read table.attributes standing handle))

pub all-refusals : (attributes : List Attr) (standing : Standing) (handles : List Handle)
    → first_there (map (read_refusal attributes standing) handles) ≡ first_there (map (broken_at Read attributes standing) handles)
all-refusals attributes standing [] = refl
all-refusals attributes standing (handle ∷ handles) =
    λ i. option_or (same-refusal attributes standing handle i) (all-refusals attributes standing handles i)

-- Writes.

named : Handle → Option Code → Option Refusal
named handle code = option_map {U = Refusal} (λ (of : Code). record { handle = handle; code = of }) code

-- a configuration is judged by its offset, its length and its bits
configuration-case : (handle : Handle) (behind bad_length fits : Bool)
    → option_or (case_if behind handle INVALID_OFFSET)
    (option_or (case_if bad_length handle INVALID_ATTRIBUTE_VALUE_LENGTH) (option_or (case_if (not fits) handle OUT_OF_RANGE) None))
    ≡ named handle (if behind then Some INVALID_OFFSET else if bad_length then Some INVALID_ATTRIBUTE_VALUE_LENGTH
    else if fits then None else Some OUT_OF_RANGE)
unfolding named
configuration-case handle true bad_length fits = refl
configuration-case handle false true fits = refl
configuration-case handle false false true = refl
configuration-case handle false false false = refl

-- and another value by its offset and its length
value-case : (handle : Handle) (behind bad_length : Bool)
    → option_or (case_if behind handle INVALID_OFFSET) (option_or (case_if bad_length handle INVALID_ATTRIBUTE_VALUE_LENGTH) None)
    ≡ named handle (if behind then Some INVALID_OFFSET else if bad_length then Some INVALID_ATTRIBUTE_VALUE_LENGTH else None)
unfolding named
value-case handle true bad_length = refl
value-case handle false true = refl
value-case handle false false = refl

-- the form of a write, whichever attribute is there
form-case : (attributes : List Attr) (size : ℕ) (entry : Entry) (configuration : Bool)
    → option_or (case_if (if configuration then not (entry.offset == 0) else nat_lt size entry.offset) entry.handle INVALID_OFFSET)
    (option_or (case_if (if configuration then not (length entry.part == 2)
    else nat_lt (room_for attributes entry.handle size) (entry.offset + length entry.part)) entry.handle INVALID_ATTRIBUTE_VALUE_LENGTH)
    (option_or (case_if (configuration && not (has_bits_within (configuration_bits_at attributes entry.handle) entry.part)) entry.handle OUT_OF_RANGE) None))
    ≡ named entry.handle (if configuration then configuration_fault attributes entry else value_fault attributes size entry)
form-case attributes size entry true =
    let fits : Bool = has_bits_within (configuration_bits_at attributes entry.handle) entry.part in
    let bad : Bool = not (length entry.part == 2) in
    configuration-case entry.handle (not (entry.offset == 0)) bad fits
form-case attributes size entry false =
    value-case entry.handle (nat_lt size entry.offset) (nat_lt (room_for attributes entry.handle size) (entry.offset + length entry.part))

-- the policy goes before it
policy-case : (handle : Handle) (broken : Option (Rule × Code)) (form : Option Code) (cases : Option Refusal) → cases ≡ named handle form
    → option_or (option_map {U = Refusal} (λ (of : Rule × Code). record { handle = handle; code = of.1 }) broken) cases
    ≡ named handle (unless_broken broken form)
unfolding named
policy-case handle None form cases is = is
policy-case handle (Some broken) form cases is = refl

entry-case : (access : Access) (attributes : List Attr) (standing : Standing) (stored : Stored) (entry : Entry)
    → bad_entry access attributes standing stored.values entry
    ≡ named entry.handle (entry_fault access attributes standing (length (value_at stored.values entry.handle)) entry)
entry-case access attributes standing stored entry =
    let size : ℕ = length (value_at stored.values entry.handle) in
    policy-case entry.handle (first_broken_of access (guard_at attributes entry.handle) standing) (form_fault attributes size entry) _
    (form-case attributes size entry (is_configuration_at attributes entry.handle))

-- entries in their order
unfoldable pub refusal-in : Result Stored Refusal → Option Refusal
refusal-in (Ok stored) = None
refusal-in (Err refusal) = Some refusal

next-case : (entry : Entry) (fault : Option Code) (rest : Result Stored Refusal) (cases : Option Refusal) → refusal-in rest ≡ cases
    → refusal-in (unless_entry_refused entry fault rest) ≡ option_or (named entry.handle fault) cases
unfolding named refusal-in
next-case entry None rest cases is = is
next-case entry (Some code) rest cases is = refl

pub entries-case : (access : Access) (attributes : List Attr) (standing : Standing) (stored : Stored) (entries : List Entry)
    → refusal-in (after_entries access attributes standing stored entries) ≡ first_there (bad_entries access attributes standing stored entries)
unfolding after_entries refusal-in
entries-case access attributes standing stored [] = refl
entries-case access attributes standing stored (entry ∷ entries) =
    next-case entry (entry_fault access attributes standing (length (value_at stored.values entry.handle)) entry) _ _
    (entries-case access attributes standing (after_entry attributes stored entry) entries)
    ∙ ap (λ (case : Option Refusal). option_or case (first_there (bad_entries access attributes standing (after_entry attributes stored entry) entries)))
    (sym (entry-case access attributes standing stored entry))

written-case : (request : Opcode) (granted : Response) (done : Result Stored Refusal) → error_in (Some granted) ≡ None
    → error_in (Some (written_response request granted done)) ≡ option_map (error request) (refusal-in done)
unfolding error refusal-in
written-case request granted (Ok stored) none = none
written-case request granted (Err refusal) none = refl

pub writing-case : (access : Access) (table : Contents) (row : Row) (standing : Standing) (entries : List Entry) (request : Opcode) (granted : Response)
    → error_in (Some granted) ≡ None
    → error_in (Some (written_response request granted (applied_to access table row standing entries)))
    ≡ option_map (error request) (first_there (bad_entries access table.attributes standing (stored_in table row) entries))
writing-case access table row standing entries request granted none =
    written-case request granted (applied_to access table row standing entries) none
    ∙ ap (option_map (error request)) (entries-case access table.attributes standing (stored_in table row) entries)

-- what is prepared
pub prepared-case : (entry : Entry) (broken : Option (Rule × Code)) (fits : Bool)
    → error_in (Some (prepare_response entry (broken_or_full broken fits)))
    ≡ option_map (error PREPARE_WRITE_REQUEST)
    (option_or (option_map {U = Refusal} (λ (of : Rule × Code). record { handle = entry.handle; code = of.1 }) broken)
    (option_or (case_if (not fits) entry.handle PREPARE_QUEUE_FULL) None))
unfolding error
prepared-case entry (Some broken) fits = refl
prepared-case entry None true = refl
prepared-case entry None false = refl
