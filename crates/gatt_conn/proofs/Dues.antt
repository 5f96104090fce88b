-- An answer is given exactly where one is due.
use Rattle.std.proofs.Common.{◌≡◌, ℕ, Bool, true, false, if◌then◌else◌, [], take, Option, Some, None, refl, sym, ap, ◌∙◌}
use Rattle.std.specs.Prelude.{is_some, Ok, Err}
use Rattle.std.specs.Option.{option_map}
use Rattle.att_numbers.specs.Types.{Row}
use Rattle.att_pdu.specs.declared.grammar.PduFault.TheVariants.{Ignored, Invalid, Unsupported}
use Rattle.att_pdu.specs.Grammar.{is_due}
use Rattle.att_pdu.specs.Request.{ExchangeMtuRequest, FindInformationRequest, FindByTypeValueRequest, ReadByTypeRequest, ReadRequest, ReadBlobRequest, ReadMultipleRequest, ReadByGroupTypeRequest, WriteRequest, PrepareWriteRequest, ExecuteWriteRequest, ConfirmationPdu, WriteCommandPdu}
use Rattle.att_pdu.specs.Response.{Response, sent, sent_if_any}
use Rattle.att_table.specs.Table.{Contents}
use Rattle.gatt_conn.specs.Answer.{Question, answer_to}
use Rattle.gatt_conn.specs.Connection.{Bearer}
use Rattle.gatt_conn.specs.Served.{with_answer_put}
use Rattle.octet_io.specs.Number.{Octets}

pub answered_where_due : (table : Contents) (row : Row) (conn : Bearer) (asked : Question) → is_some (answer_to table row conn asked) ≡ is_due asked
answered_where_due table row conn (Ok (ExchangeMtuRequest client_rx_mtu)) = refl
answered_where_due table row conn (Ok (FindInformationRequest first last)) = refl
answered_where_due table row conn (Ok (FindByTypeValueRequest first last kind value)) = refl
answered_where_due table row conn (Ok (ReadByTypeRequest first last kind)) = refl
answered_where_due table row conn (Ok (ReadRequest handle)) = refl
answered_where_due table row conn (Ok (ReadBlobRequest handle offset)) = refl
answered_where_due table row conn (Ok (ReadMultipleRequest handles)) = refl
answered_where_due table row conn (Ok (ReadByGroupTypeRequest first last kind)) = refl
answered_where_due table row conn (Ok (WriteRequest handle value)) = refl
answered_where_due table row conn (Ok (PrepareWriteRequest handle offset part)) = refl
answered_where_due table row conn (Ok (ExecuteWriteRequest flags)) = refl
answered_where_due table row conn (Ok ConfirmationPdu) = refl
answered_where_due table row conn (Ok (WriteCommandPdu handle value)) = refl
answered_where_due table row conn (Err Ignored) = refl
answered_where_due table row conn (Err (Invalid opcode)) = refl
answered_where_due table row conn (Err (Unsupported opcode)) = refl

-- so there is none where none is due
none-there : (answer : Option Response) → is_some answer ≡ false → answer ≡ None
none-there (Some answer) is = cc is
none-there None is = refl

pub none_where_not_due : (table : Contents) (row : Row) (conn : Bearer) (asked : Question) → is_due asked ≡ false → answer_to table row conn asked ≡ None
none_where_not_due table row conn asked not-due =
    none-there (answer_to table row conn asked) (answered_where_due table row conn asked ∙ not-due)

-- and where there is one, its octets are those that were put together
pub sent_where_due : (answer : Option Response) (due : Bool) (before octets : Octets) → is_some answer ≡ due → octets ≡ with_answer_put answer before
    → option_map sent answer ≡ (if due then Some octets else None)
sent_where_due (Some answer) true before octets is put = ap Some (sym put)
sent_where_due (Some answer) false before octets is put = cc is
sent_where_due None true before octets is put = cc is
sent_where_due None false before octets is put = refl

pub placed_where_due : (answer : Option Response) (due : Bool) (before octets : Octets) (len : ℕ) → is_some answer ≡ due
    → take len octets ≡ with_answer_put answer before
    → option_map sent answer ≡ option_map (λ (of : ℕ). take of octets) (if due then Some len else None)
placed_where_due (Some answer) true before octets len is put = ap Some (sym put)
placed_where_due (Some answer) false before octets len is put = cc is
placed_where_due None true before octets len is put = cc is
placed_where_due None false before octets len is put = refl

pub put_where_there : (answer : Option Response) (before octets : Octets) → is_some answer ≡ true → octets ≡ with_answer_put answer before
    → octets ≡ sent_if_any answer
put_where_there (Some answer) before octets is put = put
put_where_there None before octets is put = cc is

pub nothing_where_none : (answer : Option Response) (octets : Octets) → is_some answer ≡ false → octets ≡ [] → octets ≡ sent_if_any answer
nothing_where_none (Some answer) octets is none = cc is
nothing_where_none None octets is none = none
