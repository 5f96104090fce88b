-- The links of connections, by their notices (this profile's own).
use Rattle.std.specs.Prelude.{ℕ, Bool, false, ◌==◌, ◌&&◌, not, if◌then◌else◌, List, [], ◌∷◌, ◌++◌, filter, find, map, Option}
use Rattle.std.specs.Option.{option_map}
use Rattle.device_session.specs.declared.links.Link.{Link}
use Rattle.le_hci.specs.declared.peer.Peer.{Peer}

abbrev pub without_link : ℕ → List Link → List Link
without_link handle links = filter (λ (link : Link). not (link.handle == handle)) links

-- A new connection has no key.
abbrev pub with_link : ℕ → Peer → List Link → List Link
with_link handle peer links =
    without_link handle links ++ record { handle = handle; peer = peer; has_key = false } ∷ []

abbrev pub key_noted : ℕ → Bool → Link → Link
key_noted handle has_key link =
    if link.handle == handle then record link { has_key = has_key } else link

abbrev pub with_key : ℕ → Bool → List Link → List Link
with_key handle has_key links = map (key_noted handle has_key) links

-- The peer of a connection whose link has a key.
abbrev pub keyed_peer : List Link → ℕ → Option Peer
keyed_peer links handle =
    option_map (λ (link : Link). link.peer)
    (find (λ (link : Link). (link.handle == handle) && link.has_key) links)
