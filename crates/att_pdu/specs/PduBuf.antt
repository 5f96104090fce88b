-- The contracts' view of a PDU in a buffer.
use Rattle.std.specs.Prelude.{◌≡◌, ℕ, ◌+◌, ◌≤◌, ◌↔◌, Bool, true, false, IsTrue, ◌++◌, length}
use Rattle.std.specs.Bool.{OnTrue, OnFalse}
use Rattle.std.specs.Borrow.{MutBor}
use Rattle.arrayvec.specs.ArrayVec.{ArrayVec}
use Rattle.att_numbers.specs.Types.{Mtu}
use Rattle.att_pdu.specs.End.{content_in, keeps_length}
use Rattle.att_pdu.specs.declared.pdu_buf.PduBuf.{PduBuf}
use Rattle.octet_io.specs.Number.{Octets}

abbrev pub contents : PduBuf → Octets
contents pdu = content_in pdu.end pdu.octets.now.items

abbrev pub mtu_of : PduBuf → Mtu
mtu_of pdu = pdu.mtu

-- The PDU fills this buffer.
pub record IsIn (pdu : PduBuf) (buffer : MutBor (ArrayVec ℕ)) : Type 0 where
  pub place : pdu.octets.ghost_name ≡ buffer.ghost_name
  pub whole : keeps_length pdu.end ≡ false

-- The PDU is the first part of a buffer of fixed length.
abbrev pub StandsOver : PduBuf → Type 0
StandsOver pdu = keeps_length pdu.end ≡ true

pub record IsOver (pdu : PduBuf) (buffer : MutBor (ArrayVec ℕ)) : Type 0 where
  pub place : pdu.octets.ghost_name ≡ buffer.ghost_name
  pub over : StandsOver pdu

-- The buffer and the ATT_MTU are unchanged.
pub record IsSameBuffer (old new : PduBuf) : Type 0 where
  pub place : new.octets.ghost_name ≡ old.octets.ghost_name
  pub end : keeps_length new.end ≡ keeps_length old.end
  pub mtu : new.mtu ≡ old.mtu

-- The octets were appended if they fit; otherwise nothing changed.
pub record AppendsWhereFits (old new : PduBuf) (octets : Octets) (result : Bool) : Type 0 where
  pub fits : IsTrue result ↔ (length (contents old) + length octets ≤ mtu_of old)
  pub appended : OnTrue result (contents new ≡ contents old ++ octets)
  pub unchanged : OnFalse result (contents new ≡ contents old)
  pub same_buffer : IsSameBuffer old new
