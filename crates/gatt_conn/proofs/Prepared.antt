-- How a Prepare Write Request ends.
use Rattle.std.proofs.Common.{◌≡◌, Option, Some, None, Result, Ok, Err, refl}
use Rattle.att_numbers.specs.declared.refusal.Refusal.{Refusal}
use Rattle.att_numbers.specs.Types.{Code}
use Rattle.att_pdu.specs.Response.{ErrorResponse, PrepareWriteResponse}
use Rattle.att_writes.specs.Entry.{Entry}
use Rattle.att_writes.specs.Queue.{prepare_outcome}
use Rattle.gatt_conn.specs.Answer.{prepare_response}

pub denied : (entry : Entry) (fault : Option Code) (refusal : Refusal) → Err refusal ≡ prepare_outcome entry fault
    → prepare_response entry fault ≡ ErrorResponse refusal.opcode refusal.handle refusal.code
denied entry (Some code) refusal is = cc is
denied entry None refusal is = cc is

pub accepted : (entry : Entry) (fault : Option Code) → Ok tt ≡ prepare_outcome entry fault
    → prepare_response entry fault ≡ PrepareWriteResponse entry.handle entry.offset entry.part
accepted entry None is = refl
accepted entry (Some code) is = cc is
