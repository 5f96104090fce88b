-- The outgoing data of one connection (Core 5.0, Vol 2 Part E, 4.1.1).
use Rattle.std.specs.Prelude.{ℕ, ◌+◌, ◌-◌, ◌*◌, ◌^◌, ◌==◌, nat_lt, Bool, ◌&&◌, not, List, [], ◌∷◌, ◌++◌, length, map, Option, Some, None}
use Rattle.octet_io.specs.Number.{Octets, two_octets}
use Rattle.le_acl.specs.Fragment.{Fragment, data_of, flag_of}
use Rattle.le_acl.specs.Packets.{Pdu, fragments_of, rest}
use Rattle.le_h4.specs.declared.indicator.TheConstants.{ACL}

-- The unsent packets of each PDU, the outstanding packets, their limit, and the maximum octets of
-- data.
pub record Outgoing : Type 0 where
  pub queue : List (List Fragment)
  pub outstanding : ℕ
  pub share : ℕ
  pub size : ℕ

-- The outgoing data after numbers of packets were sent and completed.
abbrev pub outgoing_after : ℕ → ℕ → List Pdu → ℕ → ℕ → Outgoing
outgoing_after share size pdus given done =
    record {
      queue = rest given (map (fragments_of size) pdus);
      outstanding = given - done;
      share = share;
      size = size;
    }

abbrev pub none_queued : ℕ → ℕ → Outgoing
none_queued share size = record { queue = []; outstanding = 0; share = share; size = size }

abbrev pub with_pdu : Outgoing → Pdu → Outgoing
with_pdu old pdu = record old { queue = old.queue ++ fragments_of old.size pdu ∷ [] }

-- The first unsent packet, and the queue without it.
abbrev pub next_of : List (List Fragment) → Option Fragment
next_of [] = None
next_of ([] ∷ pdus) = None
next_of ((packet ∷ packets) ∷ pdus) = Some packet

abbrev pub without_next : List (List Fragment) → List (List Fragment)
without_next [] = []
without_next ([] ∷ pdus) = pdus
without_next ((packet ∷ []) ∷ pdus) = pdus
without_next ((packet ∷ second ∷ packets) ∷ pdus) = (second ∷ packets) ∷ pdus

abbrev pub may_give : Outgoing → Bool
may_give old = not (length old.queue == 0) && nat_lt old.outstanding old.share

abbrev pub after_next : Outgoing → Outgoing
after_next old = record old { queue = without_next old.queue; outstanding = old.outstanding + 1 }

abbrev pub with_completed : Outgoing → ℕ → Outgoing
with_completed old count = record old { outstanding = old.outstanding - count }

abbrev pub without_pdus : Outgoing → Outgoing
without_pdus old = record old { queue = [] }

-- The octets of an ACL packet to the controller.
abbrev pub acl_octets : ℕ → Fragment → Octets
acl_octets handle fragment =
    ACL ∷ two_octets (handle + 2 ^ 12 * flag_of fragment) ++ two_octets (length (data_of fragment))
    ++ data_of fragment
