-- Peers that are the same to a look-up are equal.
use Rattle.std.proofs.Common.{◌≡◌, true, ◌==◌, refl}
use Rattle.std.specs.Str.{bytes_eq}
use Rattle.std.proofs.lemmas.Bool.Decides.{Decides-eqb, Decides-and}
use Rattle.std.proofs.lemmas.Slice.Eq.{bytes_eq-Decides}
use Rattle.le_hci.specs.declared.peer.Peer.{Peer}
use Rattle.le_security.specs.Entry.{same_peer}

pub equal_peers : (one other : Peer) → same_peer one other ≡ true → one ≡ other
equal_peers one other same =
    let parts =
    (Decides-and (one.kind == other.kind) (bytes_eq one.address other.address) (Decides-eqb one.kind other.kind)
    (bytes_eq-Decides one.address other.address)).0 same in
    λ i. record { kind = parts.0 i; address = parts.1 i }

-- and equal ones are the same
pub same_as_itself : (peer : Peer) → same_peer peer peer ≡ true
same_as_itself peer =
    (Decides-and (peer.kind == peer.kind) (bytes_eq peer.address peer.address) (Decides-eqb peer.kind peer.kind) (bytes_eq-Decides peer.address peer.address)).1
    (refl, refl)
