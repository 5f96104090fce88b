-- The PDU after its buffer was lent.
use Rattle.std.specs.Prelude.{◌≤◌, []}
use Rattle.std.proofs.Common.{refl, subst}
use Rattle.std.specs.Borrow.{Lends, MutBor, Fml, Array, u8}
use Rattle.std.specs.List.{length_refill}
use mir.Syntax.{named}
use Rattle.arrayvec.specs.ArrayVec.{array_vec_len, with_items}
use Rattle.att_pdu.specs.End.{length_in, needed}
use Rattle.att_pdu.specs.declared.pdu_buf.PduBuf.{PduBuf}
use Rattle.att_pdu.specs.contracts.pdu_buf.PduBuf.{the_row}
use Rattle.octet_io.specs.Number.{Octets}

-- The buffer holds the octets last written through the result.
abbrev pub with_octets : PduBuf → Octets → PduBuf
with_octets pdu written =
    let same = length_refill (array_vec_len pdu.octets.now) pdu.octets.now.items written refl in
    record pdu {
      octets = record pdu.octets { now = with_items pdu.octets.now written };
      within = subst (λ n. length_in pdu.end n ≤ pdu.mtu) same pdu.within;
      room = subst (λ n. needed pdu.end pdu.mtu ≤ n) same pdu.room;
    }

abbrev pub LendsOctets : MutBor PduBuf → MutBor Octets → Fml
LendsOctets pdu result =
    Lends (the_row (record { mir = named 1; lft = [] })) (Array u8 0) pdu result
    (with_octets pdu.now)
