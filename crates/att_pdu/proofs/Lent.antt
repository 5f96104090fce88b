-- What a PDU is whose buffer was written over.
use Rattle.std.proofs.Common.{◌≡◌, ◌≤◌, ℕ, zero, suc, [], ◌∷◌, length, take, drop, refl, ap, ◌∙◌, arith, length-take}
use Rattle.std.proofs.Math.Bridge.{le_prop}
use Rattle.std.proofs.lemmas.List.{take-append-le, take-take, take_all}
use Rattle.std.specs.List.{refill}
use Rattle.arrayvec.specs.ArrayVec.{array_vec_len, with_items}
use Rattle.att_pdu.specs.End.{content_in, length_in, needed}
use Rattle.att_pdu.specs.Lends.{with_octets}
use Rattle.att_pdu.specs.PduBuf.{contents}
use Rattle.att_pdu.specs.declared.pdu_buf.End.{End}
use Rattle.att_pdu.specs.declared.pdu_buf.PduBuf.{PduBuf}
use Rattle.octet_io.specs.Number.{Octets}

-- its bounds are facts, of which there is one proof each
pub written_over : (pdu : PduBuf) (written : Octets) (least : 23 ≤ pdu.mtu) (most : pdu.mtu ≤ 517)
    (within : length_in pdu.end (array_vec_len (with_items pdu.octets.now written)) ≤ pdu.mtu)
    (room : needed pdu.end pdu.mtu ≤ array_vec_len (with_items pdu.octets.now written))
    → ◌≡◌ {A = PduBuf} record {
      octets = record pdu.octets { now = with_items pdu.octets.now written };
      end = pdu.end;
      mtu = pdu.mtu;
      least = least;
      most = most;
      within = within;
      room = room;
    } (with_octets pdu written)
written_over pdu written least most within room = λ i. record {
  octets = record pdu.octets { now = with_items pdu.octets.now written };
  end = pdu.end;
  mtu = pdu.mtu;
  least = le_prop least (with_octets pdu written).least i;
  most = le_prop most (with_octets pdu written).most i;
  within = le_prop within (with_octets pdu written).within i;
  room = le_prop room (with_octets pdu written).room i;
}

-- the content is the front of the buffer
front_at : (place : ℕ) (octets : Octets) → take (length (take place octets)) octets ≡ take place octets
front_at zero octets = refl
front_at (suc place) [] = refl
front_at (suc place) (octet ∷ octets) = ap (λ (front : Octets). octet ∷ front) (front_at place octets)

pub front_of : (end : End) (octets : Octets) → take (length (content_in end octets)) octets ≡ content_in end octets
front_of End.OfBuffer octets = take_all (length octets) octets (omega arith)
front_of (End.Before place) octets = front_at place octets

pub front_within : (end : End) (octets : Octets) → length (content_in end octets) ≤ length octets
front_within End.OfBuffer octets = omega arith
front_within (End.Before place) octets = omega (arith, length-take place octets)

-- the front of the content is the front of what was written
front_in : (end : End) (octets written : Octets) (count : ℕ) → count ≤ length (content_in end octets) → count ≤ length written
    → take count (content_in end (refill (length octets) octets written)) ≡ take count written
front_in End.OfBuffer octets written count within enough =
    take-take count (length octets) _ (omega (arith, within))
    ∙ take-append-le count written (drop (length written) octets) enough
front_in (End.Before place) octets written count within enough =
    let cut = length-take place octets in
    take-take count place _ (omega (arith, cut, within))
    ∙ take-take count (length octets) _ (omega (arith, cut, within))
    ∙ take-append-le count written (drop (length written) octets) enough

pub lent_front : (pdu : PduBuf) (written : Octets) (count : ℕ) → count ≤ length (contents pdu) → count ≤ length written
    → take count (contents (with_octets pdu written)) ≡ take count written
lent_front pdu written count within enough = front_in pdu.end pdu.octets.now.items written count within enough
