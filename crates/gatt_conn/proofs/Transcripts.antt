-- A connection is what its transcript says.
use Rattle.std.proofs.Common.{◌≡◌, ℕ, Bool, true, false, if◌then◌else◌, List, [], ◌∷◌, ◌++◌, Option, Some, None, refl, sym, ap, ◌∙◌, append-nil}
use Rattle.std.specs.Prelude.{is_some, Result, Ok, Err}
use Rattle.std.specs.Option.{option_or, option_map_or}
use Rattle.att_numbers.specs.Types.{Handle, Mtu, Code, Row}
use Rattle.att_pdu.specs.declared.grammar.PduFault.TheVariants.{Ignored, Invalid, Unsupported}
use Rattle.att_pdu.specs.declared.request.ExecuteFlags.TheVariants as flags
use Rattle.att_pdu.specs.Grammar.{request_of}
use Rattle.att_pdu.specs.Request.{ExchangeMtuRequest, FindInformationRequest, FindByTypeValueRequest, ReadByTypeRequest, ReadRequest, ReadBlobRequest, ReadMultipleRequest, ReadByGroupTypeRequest, WriteRequest, PrepareWriteRequest, ExecuteWriteRequest, ConfirmationPdu, WriteCommandPdu}
use Rattle.att_pdu.specs.Response.{Response, ExchangeMtuResponse}
use Rattle.att_table.specs.Table.{Contents}
use Rattle.att_writes.specs.Entry.{Entry}
use Rattle.att_writes.specs.Queue.{prepare_fault, queue_after}
use Rattle.gatt_conn.specs.Answer.{Question, entry_at, prepare_response, answer_to, conn_after}
use Rattle.gatt_conn.specs.Connection.{Bearer, new_connection, mtu_between, after_exchange}
use Rattle.gatt_conn.specs.Transcript.{Said, Answered, Dropped, is_exchange, is_acceptance, exchange_asked, first_exchange, mtu_in, part_asked, asks_execution, prepared_in, Follows, BearerAct, Sends, Stands, Cancels, after_act, said_by, after_acts, said_in, TranscriptTells}

no_exchange : (first : Option Mtu) (test : Bool) (more : Option Mtu) → more ≡ None → option_or first (if test then more else None) ≡ first
no_exchange (Some mtu) test more none = refl
no_exchange None true more none = none
no_exchange None false more none = refl

no_part : (parts : List Entry) (test : Bool) (more : List Entry) → more ≡ [] → parts ≡ parts ++ (if test then more else [])
no_part parts true more none = sym (ap (λ rest. parts ++ rest) none ∙ append-nil parts)
no_part parts false more none = sym (append-nil parts)

-- the ATT_MTU by the first exchange
abbrev mtu_by : Mtu → Option Mtu → Mtu
mtu_by rx_mtu first = option_map_or (λ client_rx_mtu. mtu_between client_rx_mtu rx_mtu) first 23

-- what asks neither to exchange, nor to prepare, nor to execute, says nothing of either
neutral : (conn : Bearer) (asked : Question) (answer : Option Response) (all : List Said)
    → exchange_asked asked ≡ None → part_asked asked ≡ [] → asks_execution asked ≡ false → Follows conn all → Follows conn (Answered asked answer ∷ all)
neutral conn asked answer all none empty no_end follows =
    let same : first_exchange (Answered asked answer ∷ all) ≡ first_exchange all =
    no_exchange (first_exchange all) (is_exchange answer) (exchange_asked asked) none in
    record {
      mtu = follows.mtu ∙ ap (mtu_by conn.rx_mtu) (sym same);
      exchanged = follows.exchanged ∙ ap is_some (sym same);
      queue =
          follows.queue ∙ no_part (prepared_in all) (is_acceptance answer) (part_asked asked) empty
          ∙ ap (λ (ends : Bool). if ends then [] else prepared_in all ++ (if is_acceptance answer then part_asked asked else [])) (sym no_end);
    }

first_stays : (first : Option Mtu) (more : Mtu) → true ≡ is_some first → option_or first (Some more) ≡ first
first_stays (Some mtu) more is = refl
first_stays None more is = cc is

first_comes : (first : Option Mtu) (more : Mtu) → false ≡ is_some first → option_or first (Some more) ≡ Some more
first_comes (Some mtu) more is = cc is
first_comes None more is = refl

-- the first exchange sets the ATT_MTU, and later ones do not
exchange : (conn : Bearer) (client_rx_mtu : Mtu) (all : List Said) (exchanged : Bool) → conn.exchanged ≡ exchanged → Follows conn all
    → Follows (if exchanged then conn else record conn { mtu = mtu_between client_rx_mtu conn.rx_mtu; exchanged = true })
    (Answered (Ok (ExchangeMtuRequest client_rx_mtu)) (Some (ExchangeMtuResponse conn.rx_mtu)) ∷ all)
exchange conn client_rx_mtu all true is follows =
    let same : option_or (first_exchange all) (Some client_rx_mtu) ≡ first_exchange all =
    first_stays (first_exchange all) client_rx_mtu (sym is ∙ follows.exchanged) in
    record {
      mtu = follows.mtu ∙ ap (mtu_by conn.rx_mtu) (sym same);
      exchanged = follows.exchanged ∙ ap is_some (sym same);
      queue = follows.queue ∙ sym (append-nil (prepared_in all));
    }
exchange conn client_rx_mtu all false is follows =
    let comes : option_or (first_exchange all) (Some client_rx_mtu) ≡ Some client_rx_mtu =
    first_comes (first_exchange all) client_rx_mtu (sym is ∙ follows.exchanged) in
    record {
      mtu = ap (mtu_by conn.rx_mtu) (sym comes);
      exchanged = ap is_some (sym comes);
      queue = follows.queue ∙ sym (append-nil (prepared_in all));
    }

-- a part that is accepted is prepared last
prepare : (conn : Bearer) (handle : Handle) (offset : ℕ) (part : List ℕ) (fault : Option Code) (all : List Said) → Follows conn all
    → Follows (record conn { queue = queue_after conn.queue (entry_at handle offset part) fault })
    (Answered (Ok (PrepareWriteRequest handle offset part)) (Some (prepare_response (entry_at handle offset part) fault)) ∷ all)
prepare conn handle offset part None all follows =
    let same : option_or (first_exchange all) None ≡ first_exchange all = no_exchange (first_exchange all) false None refl in
    record {
      mtu = follows.mtu ∙ ap (mtu_by conn.rx_mtu) (sym same);
      exchanged = follows.exchanged ∙ ap is_some (sym same);
      queue = ap (λ parts. parts ++ entry_at handle offset part ∷ []) follows.queue;
    }
prepare conn handle offset part (Some code) all follows =
    let same : option_or (first_exchange all) None ≡ first_exchange all = no_exchange (first_exchange all) false None refl in
    record {
      mtu = follows.mtu ∙ ap (mtu_by conn.rx_mtu) (sym same);
      exchanged = follows.exchanged ∙ ap is_some (sym same);
      queue = follows.queue ∙ sym (append-nil (prepared_in all));
    }

-- nothing is left prepared
ended : (conn : Bearer) (said : Said) (all : List Said) → option_or (first_exchange all) None ≡ first_exchange (said ∷ all) → prepared_in (said ∷ all) ≡ []
    → Follows conn all → Follows (record conn { queue = [] }) (said ∷ all)
ended conn said all first none follows =
    let same : first_exchange all ≡ first_exchange (said ∷ all) = sym (no_exchange (first_exchange all) false None refl) ∙ first in
    record {
      mtu = follows.mtu ∙ ap (mtu_by conn.rx_mtu) same;
      exchanged = follows.exchanged ∙ ap is_some same;
      queue = sym none;
    }

no_matter : (first : Option Mtu) (test : Bool) → option_or first None ≡ option_or first (if test then None else None)
no_matter first true = refl
no_matter first false = refl

-- a PDU
pub asked_next : (table : Contents) (row : Row) (conn : Bearer) (asked : Question) (all : List Said)
    → Follows conn all → Follows (conn_after table.attributes conn asked) (Answered asked (answer_to table row conn asked) ∷ all)
asked_next table row conn (Ok (ExchangeMtuRequest client_rx_mtu)) all follows = exchange conn client_rx_mtu all conn.exchanged refl follows
asked_next table row conn (Ok (FindInformationRequest first last)) all follows = neutral conn _ _ all refl refl refl follows
asked_next table row conn (Ok (FindByTypeValueRequest first last kind value)) all follows = neutral conn _ _ all refl refl refl follows
asked_next table row conn (Ok (ReadByTypeRequest first last kind)) all follows = neutral conn _ _ all refl refl refl follows
asked_next table row conn (Ok (ReadRequest handle)) all follows = neutral conn _ _ all refl refl refl follows
asked_next table row conn (Ok (ReadBlobRequest handle offset)) all follows = neutral conn _ _ all refl refl refl follows
asked_next table row conn (Ok (ReadMultipleRequest handles)) all follows = neutral conn _ _ all refl refl refl follows
asked_next table row conn (Ok (ReadByGroupTypeRequest first last kind)) all follows = neutral conn _ _ all refl refl refl follows
asked_next table row conn (Ok (WriteRequest handle value)) all follows = neutral conn _ _ all refl refl refl follows
asked_next table row conn (Ok (PrepareWriteRequest handle offset part)) all follows =
    prepare conn handle offset part (prepare_fault table.attributes conn.standing conn.queue (entry_at handle offset part)) all follows
asked_next table row conn (Ok (ExecuteWriteRequest flags)) all follows =
    ended conn _ all (no_matter (first_exchange all) (is_exchange (answer_to table row conn (Ok (ExecuteWriteRequest flags))))) refl follows
asked_next table row conn (Ok ConfirmationPdu) all follows = neutral conn _ _ all refl refl refl follows
asked_next table row conn (Ok (WriteCommandPdu handle value)) all follows = neutral conn _ _ all refl refl refl follows
asked_next table row conn (Err Ignored) all follows = neutral conn _ _ all refl refl refl follows
asked_next table row conn (Err (Invalid opcode)) all follows = neutral conn _ _ all refl refl refl follows
asked_next table row conn (Err (Unsupported opcode)) all follows = neutral conn _ _ all refl refl refl follows

-- any act
act_next : (conn : Bearer) (act : BearerAct) (all : List Said) → Follows conn all → Follows (after_act conn act) (said_by conn act ++ all)
act_next conn (Sends table row pdu) all follows = asked_next table row conn (request_of pdu conn.mtu) all follows
act_next conn (Stands standing) all follows = record { mtu = follows.mtu; exchanged = follows.exchanged; queue = follows.queue }
act_next conn Cancels all follows = ended conn Dropped all refl refl follows

pub transcript_tells : TranscriptTells
transcript_tells rx_mtu [] = record { mtu = refl; exchanged = refl; queue = refl }
transcript_tells rx_mtu (act ∷ earlier) =
    act_next (after_acts (new_connection rx_mtu) earlier) act (said_in (new_connection rx_mtu) earlier) (transcript_tells rx_mtu earlier)
