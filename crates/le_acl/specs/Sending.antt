-- The state of a sender (code only).
use Rattle.std.specs.Prelude.{◌≡◌, ℕ, zero, suc, ◌+◌, ◌<◌, ◌≤◌, Bool, true, false, List, [], ◌∷◌, length, drop, map, Option, Some, None}
use Rattle.octet_io.specs.Number.{Octets}
use Rattle.le_acl.specs.Pdus.{Queued}
use Rattle.le_acl.specs.Fragment.{Fragment, Beginning, Continuation}
use Rattle.le_acl.specs.Packets.{Pdu, pieces, frame_octets, fragments_of}
use Rattle.le_acl.specs.Outgoing.{Outgoing, none_queued}
use Rattle.le_acl.specs.declared.pdus.TheConstants.{MAX_PDUS}
use Rattle.le_acl.specs.declared.sender.TheConstants.{MIN_ACL_LEN, MAX_ACL_LEN}

-- The outgoing data, without the borrowed buffer.
pub record Sending : Type 0 where
  pub outgoing : Outgoing
  pub room : Option Octets

abbrev pub idle : ℕ → ℕ → Sending
idle share size = record { outgoing = none_queued share size; room = None }

abbrev pub fragment_at : ℕ → Octets → Fragment
fragment_at zero octets = Beginning octets
fragment_at (suc gone) octets = Continuation octets

-- The fragments of a frame from an octet on.
abbrev pub fragments_from : ℕ → ℕ → Pdu → List Fragment
fragments_from size zero pdu = fragments_of size pdu
fragments_from size (suc gone) pdu =
    map Continuation (pieces size (drop (suc gone) (frame_octets pdu)))

abbrev pub queue_of : ℕ → ℕ → List Pdu → List (List Fragment)
queue_of size gone [] = []
queue_of size gone (pdu ∷ pdus) = fragments_from size gone pdu ∷ map (fragments_of size) pdus

abbrev pub lent_room : Bool → Octets → Option Octets
lent_room true room = Some room
lent_room false room = None

abbrev pub sending_of : Queued → ℕ → ℕ → ℕ → ℕ → Bool → Sending
sending_of queued gone outstanding share size lent = record {
  outgoing =
      record {
        queue = queue_of size gone queued.pdus;
        outstanding = outstanding;
        share = share;
        size = size;
      };
  room = lent_room lent queued.room;
}

-- Some fragments of the first PDU may be sent, but not all.
abbrev pub IsWithin : ℕ → ℕ → List Pdu → Type 0
IsWithin size gone [] = gone ≡ 0
IsWithin size gone (pdu ∷ pdus) = (gone < 4 + length pdu.1) × (0 < gone → size ≤ gone)

pub record IsSending (queued : Queued) (gone size : ℕ) (lent : Bool) : Type 0 where
  pub size_least : MIN_ACL_LEN ≤ size
  pub size_most : size ≤ MAX_ACL_LEN
  pub within : IsWithin size gone queued.pdus
  pub has_room : lent ≡ true → length queued.pdus < MAX_PDUS

abbrev pub IsOfFirst : ℕ → List Pdu → Type 0
IsOfFirst count [] = ⊥
IsOfFirst count (pdu ∷ pdus) = count ≡ length (frame_octets pdu)
