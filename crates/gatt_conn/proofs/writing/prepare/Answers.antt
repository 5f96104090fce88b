use Rattle.std.proofs.Common.{◌≡◌, ◌∷◌, ◌++◌, Some, sym, ap, ◌∙◌, arith, rules}
use Rattle.std.proofs.lemmas.Grind.{common_steps}
use Rattle.att_numbers.specs.declared.opcode.TheConstants.{PREPARE_WRITE_RESPONSE}
use Rattle.att_pdu.specs.PduBuf.{contents}
use Rattle.att_pdu.specs.Response.{Response, ErrorResponse, PrepareWriteResponse, sent_if_any}
use Rattle.att_writes.specs.Entry.{Entry}
use Rattle.att_writes.specs.Queue.{prepare_fault}
use Rattle.gatt_conn.specs.Answer.{entry_at, prepare_response}
use Rattle.gatt_conn.proofs.Prepared.{denied, accepted}
use Rattle.gatt_conn.proofs.writing.prepare.Goals as goal
use Rattle.octet_io.specs.Number.{two_octets}

pub returns-in-Err-clause-served : goal.returns-in-Err-clause-served
returns-in-Err-clause-served c =
    let same =
    denied (entry_at c.args.handle c.args.offset c.args.part.now) _ c.in-Err.refusal
    (sym c.in-Err.is ∙ c.prepare.ensures.outcome) in
    let refused = c.refuse.ensures.served in
    record {
      served = record {
        content = refused.content ∙ ap (λ (answer : Response). sent_if_any (Some answer)) (sym same);
        due = refused.due;
        same_buffer = refused.same_buffer;
      };
      confirmed = c.refuse.ensures.confirmed;
    }

pub returns-in-Ok-clause-served : goal.returns-in-Ok-clause-served
returns-in-Ok-clause-served c =
    let entry : Entry = entry_at c.args.handle c.args.offset c.args.part.now in
    let same =
    accepted entry (prepare_fault c.args.table.now.attributes c.args.conn.now.standing c.args.conn.now.queue entry)
    (sym c.in-Ok.is ∙ c.prepare.ensures.outcome) in
    let repeated : contents c.replace.new.self ≡ PREPARE_WRITE_RESPONSE ∷ two_octets c.args.handle ++ two_octets c.args.offset ++ c.args.part.now =
    grind (arith, common_steps) in
    record {
      served = record {
        content = repeated ∙ ap (λ (answer : Response). sent_if_any (Some answer)) (sym same);
        due = c.with_answer.ensures.due;
        same_buffer = search;
      };
      confirmed = c.with_answer.ensures.confirmed;
    }
