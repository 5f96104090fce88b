-- What is refused, and by which code.
use Rattle.std.proofs.Common.{◌≡◌, List, [], ◌∷◌, ◌++◌, length, map, Option, Some, None, refl, ap}
use Rattle.std.specs.Prelude.{Result, Ok}
use Rattle.att_numbers.specs.declared.opcode.TheConstants.{READ_BY_TYPE_REQUEST, READ_MULTIPLE_REQUEST}
use Rattle.att_numbers.specs.Types.{Handle, Code, Mtu, Row}
use Rattle.att_pdu.specs.Request.{ReadRequest, ReadBlobRequest, WriteRequest, PrepareWriteRequest}
use Rattle.att_pdu.specs.Response.{Response, ErrorResponse, ReadByTypeResponse}
use Rattle.att_policy.specs.declared.policy.Access.TheVariants.{Read}
use Rattle.att_policy.specs.declared.policy.Rule.{Rule}
use Rattle.att_policy.specs.declared.standing.Standing.{Standing}
use Rattle.att_policy.proofs.RulesInOrder.{is_first_broken}
use Rattle.att_policy.specs.Refusal.{Refusal}
use Rattle.att_policy.specs.Policy.{code_of, first_broken_rule_of}
use Rattle.att_reads.specs.Access.{read_refusal}
use Rattle.att_reads.specs.Answer.{values_answer, value_answer, part_answer, multiple_answer}
use Rattle.att_reads.specs.declared.list.Listing.TheVariants.{Values}
use Rattle.att_reads.specs.List.{candidate_of}
use Rattle.att_reads.specs.Listing.{Candidate, size_of_first, first_refusal, elements_within}
use Rattle.att_pdu.specs.Uuid.{uuid_number}
use Rattle.att_attributes.specs.OfType.{handles_of_type}
use Rattle.att_reads.specs.Refusals.{unless_refused, range_refusal, not_found}
use Rattle.att_attributes.specs.declared.attr.Attr.{Attr}
use Rattle.att_attributes.specs.Attributes.{guard_at}
use Rattle.att_table.specs.Table.{Contents, value_at}
use Rattle.att_writes.specs.Applied.{Stored, after_entry, after_entries, unless_entry_refused}
use Rattle.att_writes.specs.Entry.{Entry}
use Rattle.att_writes.specs.Fault.{entry_fault}
use Rattle.gatt_laws.specs.laws.Headline.{Each, MayUse}
use Rattle.gatt_laws.specs.laws.Refusals.{RefusesByTheFirstBrokenRule, RefusesTheFirstListed, RefusesTheFirstHandle, RefusesTheFirstEntry}

pub refuses_by_the_first_broken_rule : RefusesByTheFirstBrokenRule
unfolding value_answer part_answer after_entries
refuses_by_the_first_broken_rule table row conn (ReadRequest handle) rule = λ is. rw is refl
refuses_by_the_first_broken_rule table row conn (ReadBlobRequest handle offset) rule = λ is. rw is refl
refuses_by_the_first_broken_rule table row conn (WriteRequest handle value) rule = λ is. rw is refl
refuses_by_the_first_broken_rule table row conn (PrepareWriteRequest handle offset part) rule = λ is. rw is refl
refuses_by_the_first_broken_rule table row conn asked rule = tt

-- the first of a list
first-listed : (table : Contents) (row : Row) (standing : Standing) (mtu : Mtu) (first last handle : Handle) (handles rest : List Handle) (code : Code)
    → range_refusal first last ≡ None → handles ≡ handle ∷ rest → read_refusal table.attributes standing handle ≡ Some (record { handle = handle; code = code })
    → (let values : List Candidate = map (candidate_of Values table row standing mtu) handles in
    unless_refused READ_BY_TYPE_REQUEST (range_refusal first last ∷ not_found first values ∷ first_refusal values ∷ [])
    (ReadByTypeResponse (size_of_first values) (elements_within mtu values))) ≡ ErrorResponse READ_BY_TYPE_REQUEST handle code
first-listed table row standing mtu first last handle handles rest code in_range listed is = rw (listed, in_range, is) refl

pub refuses_the_first_listed : RefusesTheFirstListed
unfolding values_answer
refuses_the_first_listed table row conn first last type handle rest rule in_range listed is =
    ap Some (first-listed table row conn.standing conn.mtu first last handle (handles_of_type table.attributes (uuid_number type) first last) rest
    (code_of Read conn.standing rule) in_range listed (rw is refl))

-- the first handle of several
permitted-none : (attributes : List Attr) (standing : Standing) (handle : Handle) (rule : Option Rule)
    → first_broken_rule_of Read (guard_at attributes handle) standing ≡ rule
    → MayUse Read attributes standing handle → read_refusal attributes standing handle ≡ None
permitted-none attributes standing handle None is may = rw is refl
permitted-none attributes standing handle (Some rule) is may =
    let broken = is_first_broken Read (guard_at attributes handle) standing rule is in
    cc (broken.broken, may rule)

first-of-several : (attributes : List Attr) (standing : Standing) (before after : List Handle) (handle : Handle) (code : Code) (answer : Response)
    → Each (MayUse Read attributes standing) before → read_refusal attributes standing handle ≡ Some (record { handle = handle; code = code })
    → unless_refused READ_MULTIPLE_REQUEST (map (read_refusal attributes standing) (before ++ handle ∷ after)) answer
    ≡ ErrorResponse READ_MULTIPLE_REQUEST handle code
first-of-several attributes standing [] after handle code answer may is = rw is refl
first-of-several attributes standing (first ∷ before) after handle code answer may is =
    rw (permitted-none attributes standing first (first_broken_rule_of Read (guard_at attributes first) standing) refl may.0)
    (first-of-several attributes standing before after handle code answer may.1 is)

pub refuses_the_first_handle : RefusesTheFirstHandle
unfolding multiple_answer
refuses_the_first_handle table row conn before after handle rule may is =
    ap Some (first-of-several table.attributes conn.standing before after handle (code_of Read conn.standing rule) _ may (rw is refl))

-- the first of several entries
entry-done : (entry : Entry) (code : Option Code) (rest : Result Stored Refusal) (new : Stored) → unless_entry_refused entry code rest ≡ Ok new → (code ≡ None)
    × (rest ≡ Ok new)
entry-done entry None rest new is = (refl, is)
entry-done entry (Some code) rest new is = cc is

pub refuses_the_first_entry : RefusesTheFirstEntry
unfolding after_entries
refuses_the_first_entry access attributes standing stored by [] after entry code done fault =
    let same : stored ≡ by = cc done in
    rw same (rw fault refl)
refuses_the_first_entry access attributes standing stored by (first ∷ before) after entry code done fault =
    let one = entry-done first (entry_fault access attributes standing (length (value_at stored.values first.handle)) first) _ by done in
    rw one.0 (refuses_the_first_entry access attributes standing (after_entry attributes stored first) by before after entry code one.1 fault)
