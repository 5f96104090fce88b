-- The end of a PDU in its buffer.
use Rattle.std.specs.Prelude.{ℕ, Bool, true, false, take}
use Rattle.att_pdu.specs.declared.pdu_buf.End.{End}
use Rattle.octet_io.specs.Number.{Octets}

abbrev pub content_in : End → Octets → Octets
content_in End.OfBuffer octets = octets
content_in (End.Before place) octets = take place octets

abbrev pub length_in : End → ℕ → ℕ
length_in End.OfBuffer size = size
length_in (End.Before place) size = place

abbrev pub needed : End → ℕ → ℕ
needed End.OfBuffer mtu = 0
needed (End.Before place) mtu = mtu

-- The buffer's length is fixed.
abbrev pub keeps_length : End → Bool
keeps_length End.OfBuffer = false
keeps_length (End.Before place) = true
