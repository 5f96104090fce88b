-- What a PDU leads to over values that differ in hidden ones alone, and what was said without the answers that read.
use Rattle.std.proofs.Common.{◌≡◌, Bool, true, false, List, [], ◌∷◌, ◌++◌, map, Option, Some, None, refl, sym, ap, ◌∙◌}
use Rattle.std.specs.Prelude.{Result, Ok, Err, if◌then◌else◌}
use Rattle.std.specs.Option.{option_or}
use Rattle.att_numbers.specs.Types.{Handle, Opcode, Values, Row}
use Rattle.att_pdu.specs.declared.grammar.PduFault.TheVariants.{Ignored, Invalid, Unsupported}
use Rattle.att_pdu.specs.declared.request.ExecuteFlags.TheVariants as flags
use Rattle.att_pdu.specs.Request.{ExchangeMtuRequest, FindInformationRequest, FindByTypeValueRequest, ReadByTypeRequest, ReadRequest, ReadBlobRequest, ReadMultipleRequest, ReadByGroupTypeRequest, WriteRequest, PrepareWriteRequest, ExecuteWriteRequest, ConfirmationPdu, WriteCommandPdu}
use Rattle.att_pdu.specs.Response.{Response, ErrorResponse, WriteResponse, ExecuteWriteResponse}
use Rattle.att_numbers.specs.declared.opcode.TheConstants.{WRITE_REQUEST, EXECUTE_WRITE_REQUEST}
use Rattle.att_policy.specs.declared.policy.Access.{Access}
use Rattle.att_policy.specs.declared.policy.Access.TheVariants.{Write}
use Rattle.att_policy.specs.declared.standing.Standing.{Standing}
use Rattle.att_policy.specs.Refusal.{Refusal}
use Rattle.att_reads.proofs.Alike.{alike}
use Rattle.att_reads.specs.Access.{IsAlike}
use Rattle.att_attributes.specs.declared.attr.Attr.{Attr}
use Rattle.att_table.specs.Table.{Contents}
use Rattle.att_writes.proofs.Lengths.{applied_both}
use Rattle.att_writes.specs.Applied.{Stored, stored_in, applied_to, stored_after}
use Rattle.att_writes.specs.Entry.{Entry, whole_value}
use Rattle.att_writes.specs.Queue.{touched_by}
use Rattle.att_writes.specs.SameBut.{SameBut, SameApplied}
use Rattle.gatt_conn.specs.Answer.{Question, written_response, answer_to, Writing, writing_asked, stored_after_writing, stored_by, handles_after, handles_by}
use Rattle.gatt_conn.specs.Connection.{Bearer}
use Rattle.gatt_conn.specs.Transcript.{Said, Answered, Dropped, is_exchange, is_acceptance, exchange_asked, exchanged_by, first_exchange, part_asked, part_by, is_end, prepared_in}
use Rattle.gatt_laws.specs.laws.Alike.{is_reading, without_reading}

-- the same values but for hidden ones, and the same row
pub record SameStored (hidden : Handle → Bool) (one other : Stored) : Type 0 where
  pub values : SameBut hidden one.values other.values
  pub row : one.row ≡ other.row

abbrev pub table_of : List Attr → Values → Contents
table_of attributes values = record { attributes = attributes; values = values }

module _ (hidden : Handle → Bool) where
  written-same : (one other : Stored) (result its : Result Stored Refusal) → SameStored hidden one other → SameApplied hidden result its
      → SameStored hidden (stored_after one result) (stored_after other its)
  written-same one other (Ok new) (Ok too) before same = record { values = same.0; row = same.1 }
  written-same one other (Err refusal) (Err too) before same = before
  written-same one other (Ok new) (Err too) before same = absurd same
  written-same one other (Err refusal) (Ok too) before same = absurd same

  response-same : (request : Opcode) (granted : Response) (result its : Result Stored Refusal) → SameApplied hidden result its
      → written_response request granted result ≡ written_response request granted its
  response-same request granted (Ok new) (Ok too) same = refl
  response-same request granted (Err refusal) (Err too) same = ap (λ (r : Refusal). ErrorResponse request r.handle r.code) same
  response-same request granted (Ok new) (Err too) same = absurd same
  response-same request granted (Err refusal) (Ok too) same = absurd same

  touched-same : (entries : List Entry) (result its : Result Stored Refusal) → SameApplied hidden result its → touched_by entries result
      ≡ touched_by entries its
  touched-same entries (Ok new) (Ok too) same = refl
  touched-same entries (Err refusal) (Err too) same = refl
  touched-same entries (Ok new) (Err too) same = absurd same
  touched-same entries (Err refusal) (Ok too) same = absurd same

  module _ (attributes : List Attr) (xs ys : Values) (same : SameBut hidden xs ys) (row : Row) where
    abbrev here : Contents
    here = table_of attributes xs

    abbrev there : Contents
    there = table_of attributes ys

    applied-same : (access : Access) (standing : Standing) (entries : List Entry)
        → SameApplied hidden (applied_to access here row standing entries) (applied_to access there row standing entries)
    applied-same access standing entries = applied_both hidden access attributes standing entries (stored_in here row) (stored_in there row) same refl

    stored-after : (standing : Standing) (writing : Option Writing)
        → SameStored hidden (stored_after_writing here row standing writing) (stored_after_writing there row standing writing)
    stored-after standing None = record { values = same; row = refl }
    stored-after standing (Some writing) =
        written-same (stored_in here row) (stored_in there row) (applied_to writing.access here row standing writing.entries)
        (applied_to writing.access there row standing writing.entries)
        (record { values = same; row = refl }) (applied-same writing.access standing writing.entries)

    handles-after : (standing : Standing) (writing : Option Writing) → handles_after here row standing writing ≡ handles_after there row standing writing
    handles-after standing None = refl
    handles-after standing (Some writing) =
        touched-same writing.entries (applied_to writing.access here row standing writing.entries)
        (applied_to writing.access there row standing writing.entries)
        (applied-same writing.access standing writing.entries)

    pub same_stored : (conn : Bearer) (asked : Question) → SameStored hidden (stored_by here row conn asked) (stored_by there row conn asked)
    same_stored conn asked = stored-after conn.standing (writing_asked conn.queue asked)

    pub same_handles : (conn : Bearer) (asked : Question) → handles_by here row conn asked ≡ handles_by there row conn asked
    same_handles conn asked = handles-after conn.standing (writing_asked conn.queue asked)

    -- answers that do not read
    unread-same : (conn : Bearer) (asked : Question) → is_reading asked ≡ false → answer_to here row conn asked ≡ answer_to there row conn asked
    unread-same conn (Ok (ExchangeMtuRequest client_rx_mtu)) is = refl
    unread-same conn (Ok (FindInformationRequest first last)) is = cc is
    unread-same conn (Ok (FindByTypeValueRequest first last kind value)) is = cc is
    unread-same conn (Ok (ReadByTypeRequest first last kind)) is = cc is
    unread-same conn (Ok (ReadRequest handle)) is = cc is
    unread-same conn (Ok (ReadBlobRequest handle offset)) is = cc is
    unread-same conn (Ok (ReadMultipleRequest handles)) is = cc is
    unread-same conn (Ok (ReadByGroupTypeRequest first last kind)) is = cc is
    unread-same conn (Ok (WriteRequest handle value)) is =
        ap Some (response-same WRITE_REQUEST WriteResponse _ _ (applied-same Write conn.standing (whole_value handle value ∷ [])))
    unread-same conn (Ok (PrepareWriteRequest handle offset part)) is = refl
    unread-same conn (Ok (ExecuteWriteRequest flags.Write)) is =
        ap Some (response-same EXECUTE_WRITE_REQUEST ExecuteWriteResponse _ _ (applied-same Write conn.standing conn.queue))
    unread-same conn (Ok (ExecuteWriteRequest flags.Cancel)) is = refl
    unread-same conn (Ok ConfirmationPdu) is = refl
    unread-same conn (Ok (WriteCommandPdu handle value)) is = refl
    unread-same conn (Err Ignored) is = refl
    unread-same conn (Err (Invalid opcode)) is = refl
    unread-same conn (Err (Unsupported opcode)) is = refl

    -- and all of them, but for what is read
    pub same_but_reading : (conn : Bearer) (asked : Question)
        → without_reading (Answered asked (answer_to here row conn asked)) ≡ without_reading (Answered asked (answer_to there row conn asked))
    same_but_reading conn asked =
        elim (is_reading asked) as (λ (reads : Bool). is_reading asked ≡ reads
        → Answered asked (if reads then None else answer_to here row conn asked) ≡ Answered asked (if reads then None else answer_to there row conn asked)) [
          | true ↦ λ is. refl
          | false ↦ λ is. ap (Answered asked) (unread-same conn asked is)
        ] refl

    -- answers to one who may read what differs nowhere
    pub same_answer : (conn : Bearer) (asked : Question) → IsAlike conn.standing here there → answer_to here row conn asked ≡ answer_to there row conn asked
    same_answer conn (Ok (ExchangeMtuRequest client_rx_mtu)) is = unread-same conn (Ok (ExchangeMtuRequest client_rx_mtu)) refl
    same_answer conn (Ok (FindInformationRequest first last)) is = alike conn.standing here there row conn.mtu (FindInformationRequest first last) is
    same_answer conn (Ok (FindByTypeValueRequest first last kind value)) is =
        alike conn.standing here there row conn.mtu (FindByTypeValueRequest first last kind value) is
    same_answer conn (Ok (ReadByTypeRequest first last kind)) is = alike conn.standing here there row conn.mtu (ReadByTypeRequest first last kind) is
    same_answer conn (Ok (ReadRequest handle)) is = alike conn.standing here there row conn.mtu (ReadRequest handle) is
    same_answer conn (Ok (ReadBlobRequest handle offset)) is = alike conn.standing here there row conn.mtu (ReadBlobRequest handle offset) is
    same_answer conn (Ok (ReadMultipleRequest handles)) is = alike conn.standing here there row conn.mtu (ReadMultipleRequest handles) is
    same_answer conn (Ok (ReadByGroupTypeRequest first last kind)) is = alike conn.standing here there row conn.mtu (ReadByGroupTypeRequest first last kind) is
    same_answer conn (Ok (WriteRequest handle value)) is = unread-same conn (Ok (WriteRequest handle value)) refl
    same_answer conn (Ok (PrepareWriteRequest handle offset part)) is = unread-same conn (Ok (PrepareWriteRequest handle offset part)) refl
    same_answer conn (Ok (ExecuteWriteRequest flags)) is = unread-same conn (Ok (ExecuteWriteRequest flags)) refl
    same_answer conn (Ok ConfirmationPdu) is = unread-same conn (Ok ConfirmationPdu) refl
    same_answer conn (Ok (WriteCommandPdu handle value)) is = unread-same conn (Ok (WriteCommandPdu handle value)) refl
    same_answer conn (Err fault) is = unread-same conn (Err fault) refl

-- Neither the ATT_MTU nor what is prepared looks at answers to requests that read.

exchanges-none : (asked : Question) → is_reading asked ≡ true → exchange_asked asked ≡ None
exchanges-none (Ok (ExchangeMtuRequest client_rx_mtu)) is = cc is
exchanges-none (Ok (FindInformationRequest first last)) is = refl
exchanges-none (Ok (FindByTypeValueRequest first last kind value)) is = refl
exchanges-none (Ok (ReadByTypeRequest first last kind)) is = refl
exchanges-none (Ok (ReadRequest handle)) is = refl
exchanges-none (Ok (ReadBlobRequest handle offset)) is = refl
exchanges-none (Ok (ReadMultipleRequest handles)) is = refl
exchanges-none (Ok (ReadByGroupTypeRequest first last kind)) is = refl
exchanges-none (Ok (WriteRequest handle value)) is = refl
exchanges-none (Ok (PrepareWriteRequest handle offset part)) is = refl
exchanges-none (Ok (ExecuteWriteRequest flags)) is = refl
exchanges-none (Ok ConfirmationPdu) is = refl
exchanges-none (Ok (WriteCommandPdu handle value)) is = refl
exchanges-none (Err fault) is = refl

prepares-none : (asked : Question) → is_reading asked ≡ true → part_asked asked ≡ []
prepares-none (Ok (ExchangeMtuRequest client_rx_mtu)) is = refl
prepares-none (Ok (FindInformationRequest first last)) is = refl
prepares-none (Ok (FindByTypeValueRequest first last kind value)) is = refl
prepares-none (Ok (ReadByTypeRequest first last kind)) is = refl
prepares-none (Ok (ReadRequest handle)) is = refl
prepares-none (Ok (ReadBlobRequest handle offset)) is = refl
prepares-none (Ok (ReadMultipleRequest handles)) is = refl
prepares-none (Ok (ReadByGroupTypeRequest first last kind)) is = refl
prepares-none (Ok (WriteRequest handle value)) is = refl
prepares-none (Ok (PrepareWriteRequest handle offset part)) is = cc is
prepares-none (Ok (ExecuteWriteRequest flags)) is = refl
prepares-none (Ok ConfirmationPdu) is = refl
prepares-none (Ok (WriteCommandPdu handle value)) is = refl
prepares-none (Err fault) is = refl

-- a test of an answer does not matter where nothing follows from it
idle : {A : Type 0} (test : Option Response → Bool) (reads : Bool) (answer : Option Response) (some none : A) → test None ≡ false → (reads ≡ true → some ≡ none)
    → (if test (if reads then None else answer) then some else none) ≡ (if test answer then some else none)
idle test false answer some none silent same = refl
idle test true answer some none silent same =
    ap (λ (b : Bool). if b then some else none) silent
    ∙ elim (test answer) as (λ (b : Bool). none ≡ (if b then some else none)) [ true ↦ sym (same refl) | false ↦ refl ]

exchanged-same : (said : Said) → exchanged_by (without_reading said) ≡ exchanged_by said
exchanged-same (Answered asked answer) = idle is_exchange (is_reading asked) answer (exchange_asked asked) None refl (exchanges-none asked)
exchanged-same Dropped = refl

part-same : (said : Said) → part_by (without_reading said) ≡ part_by said
part-same (Answered asked answer) = idle is_acceptance (is_reading asked) answer (part_asked asked) [] refl (prepares-none asked)
part-same Dropped = refl

end-same : (said : Said) → is_end (without_reading said) ≡ is_end said
end-same (Answered asked answer) = refl
end-same Dropped = refl

pub same_exchange : (all : List Said) → first_exchange (map without_reading all) ≡ first_exchange all
same_exchange [] = refl
same_exchange (said ∷ earlier) = λ i. option_or (same_exchange earlier i) (exchanged-same said i)

pub same_prepared : (all : List Said) → prepared_in (map without_reading all) ≡ prepared_in all
same_prepared [] = refl
same_prepared (said ∷ earlier) = λ i. if end-same said i then [] else same_prepared earlier i ++ part-same said i
