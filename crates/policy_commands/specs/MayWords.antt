-- The words of `may`: a peer, a right and a handle (this profile's own).
use Rattle.std.specs.Prelude.{ℕ, if◌then◌else◌, List, take, drop, codes, Option, Some, None, Result, Ok, Err}
use Rattle.std.specs.Str.{bytes_eq}
use Rattle.octet_io.specs.Number.{Octets}
use Rattle.le_hci.specs.declared.peer.Peer.{Peer}
use Rattle.le_hci.specs.declared.peer.TheConstants.{PUBLIC_ADDRESS, RANDOM_ADDRESS}
use Rattle.le_security.specs.Address.{address_of}
use Rattle.le_security.specs.Keys.{is_known}
use Rattle.le_security.specs.declared.entry.Entry.{Entry}
use Rattle.policy_rights.specs.declared.rights.Right.{Right}
use Rattle.policy_commands.specs.declared.may_words.Wrong.{Wrong}

-- A right has the word for its property, or its own.
abbrev pub right_of : Octets → Option Right
right_of word =
    if bytes_eq word (codes "read") then Some Right.Read
    else if bytes_eq word (codes "write") then Some Right.Write
    else if bytes_eq word (codes "command") then Some Right.Command
    else if bytes_eq word (codes "notify") then Some Right.Notify
    else if bytes_eq word (codes "indicate") then Some Right.Indicate
    else if bytes_eq word (codes "subscribe") then Some Right.Subscribe
    else None

-- An address may have its type before it.
abbrev pub kind_in : Octets → Option ℕ
kind_in word =
    if bytes_eq (take 7 word) (codes "public ") then Some PUBLIC_ADDRESS
    else if bytes_eq (take 7 word) (codes "random ") then Some RANDOM_ADDRESS
    else None

abbrev pub address_in : Octets → Option ℕ → Octets
address_in word None = word
address_in word (Some kind) = drop 7 word

abbrev pub known_peer : List Entry → Peer → Result Peer Wrong
known_peer keys peer = if is_known keys peer then Ok peer else Err Wrong.NoKey

abbrev pub peer_with : ℕ → Octets → Peer
peer_with kind address = record { kind = kind; address = address }

-- An address without its type is that of the only peer with it.
abbrev pub only_peer : List Entry → Octets → Result Peer Wrong
only_peer keys address =
    if is_known keys (peer_with RANDOM_ADDRESS address)
    then (if is_known keys (peer_with PUBLIC_ADDRESS address) then Err Wrong.TwoPeers
    else Ok (peer_with RANDOM_ADDRESS address))
    else known_peer keys (peer_with PUBLIC_ADDRESS address)

abbrev pub peer_by : List Entry → Option ℕ → Option Octets → Result Peer Wrong
peer_by keys kind None = Err Wrong.Peer
peer_by keys None (Some address) = only_peer keys address
peer_by keys (Some kind) (Some address) = known_peer keys (peer_with kind address)

abbrev pub named_peer : List Entry → Octets → Result Peer Wrong
named_peer keys word = peer_by keys (kind_in word) (address_of (address_in word (kind_in word)))

abbrev pub or_stranger : Result Peer Wrong → Result (Option Peer) Wrong
or_stranger (Ok peer) = Ok (Some peer)
or_stranger (Err wrong) = Err wrong

-- A peer that has a key, or a stranger.
abbrev pub peer_named : List Entry → Octets → Result (Option Peer) Wrong
peer_named keys word =
    if bytes_eq word (codes "stranger") then Ok None else or_stranger (named_peer keys word)
