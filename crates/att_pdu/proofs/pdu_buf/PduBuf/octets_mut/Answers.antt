use Rattle.std.proofs.Common.{refl, ap, sym, ◌∙◌, ◌≤◌, length, take, subst}
use Rattle.att_pdu.specs.PduBuf.{contents}
use Rattle.att_pdu.proofs.Lent.{written_over, front_of, front_within}
use Rattle.att_pdu.proofs.pdu_buf.PduBuf.octets_mut.Goals as goal

pub returns : goal.returns
returns c =
    let pdu = c.args.self.now in
    let lent = c.as_mut_slice.ensures.value in (
      (refl, λ w. written_over pdu w _ _ _ _),
      record {
        written = tt;
        front = ap (take (length (contents pdu))) lent ∙ front_of pdu.end pdu.octets.now.items;
        within = subst (λ octets. length (contents pdu) ≤ length octets) (sym lent) (front_within pdu.end pdu.octets.now.items);
      },
    )
