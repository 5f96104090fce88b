-- The result of serving a PDU.
use Rattle.std.specs.Prelude.{◌≡◌, false, is_some, Bool, List, Option, Some, None}
use Rattle.att_numbers.specs.Types.{Handle, Row}
use Rattle.att_pdu.specs.declared.pdu_buf.PduBuf.{PduBuf}
use Rattle.att_pdu.specs.Grammar.{request_of}
use Rattle.att_pdu.specs.PduBuf.{contents, IsSameBuffer}
use Rattle.att_pdu.specs.Response.{Response, sent}
use Rattle.att_table.specs.Table.{Contents}
use Rattle.att_writes.specs.Leaves.{LeavesStored}
use Rattle.gatt_conn.specs.declared.answered.Served.{Served}
use Rattle.gatt_conn.specs.Answer.{stored_by, handles_by, conn_after, is_confirmation}
use Rattle.gatt_conn.specs.Connection.{Bearer}
use Rattle.octet_io.specs.Number.{Octets}

-- The buffer after the response, unchanged without one.
abbrev pub with_answer_put : Option Response → Octets → Octets
with_answer_put None octets = octets
with_answer_put (Some answer) octets = sent answer

-- `out` has the response, if any, in the same buffer.
pub record ServesPdu (answer : Option Response) (before after : PduBuf) (result : Served) : Type 0
  where
    pub content : contents after ≡ with_answer_put answer (contents before)
    pub due : result.due ≡ is_some answer
    pub same_buffer : IsSameBuffer before after

-- The PDU is a request, which confirms nothing.
pub record ServesRequest (answer : Option Response) (before after : PduBuf) (result : Served) : Type
    0 where
  pub served : ServesPdu answer before after result
  pub confirmed : result.confirmed ≡ false

-- The effects of a PDU on the table, the row and the connection.
pub record IsAnswered (pdu : Octets) (old_table new_table : Contents) (old_row new_row : Row)
    (old_conn new_conn : Bearer)
    (written : List Handle) (confirms : Bool) : Type 0 where
  pub left : LeavesStored (stored_by old_table old_row old_conn (request_of pdu old_conn.mtu))
      old_table new_table new_row
  pub conn : new_conn ≡ conn_after old_table.attributes old_conn (request_of pdu old_conn.mtu)
  pub touched : written ≡ handles_by old_table old_row old_conn (request_of pdu old_conn.mtu)
  pub confirmed : confirms ≡ is_confirmation pdu
