-- The Long Term Key requests that an entry answers (Core 5.0, Vol 2 Part E, 7.7.65.5, and this
-- profile's own).
use Rattle.std.specs.Prelude.{ℕ, Bool, ◌==◌, ◌&&◌}
use Rattle.std.specs.Str.{bytes_eq}
use Rattle.octet_io.specs.Number.{Octets}
use Rattle.le_hci.specs.declared.peer.Peer.{Peer}
use Rattle.le_security.specs.declared.entry.Entry.{Entry}

-- A peer is identified by address type and address. (P-KEY-1)
abbrev pub same_peer : Peer → Peer → Bool
same_peer one other = (one.kind == other.kind) && bytes_eq one.address other.address

abbrev pub is_for : Peer → Octets → ℕ → Entry → Bool
is_for peer random_number diversifier entry =
    same_peer entry.peer peer
    && (bytes_eq entry.random_number random_number && (entry.diversifier == diversifier))
