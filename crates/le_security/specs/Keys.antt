-- The provisioned keys in file order and their lookup (this profile's own).
use Rattle.std.specs.Prelude.{ℕ, ◌≤◌, Bool, List, length, slice_get, Option}
use Rattle.std.specs.List.{find, list_any, count_by}
use Rattle.std.specs.Option.{option_map}
use Rattle.octet_io.specs.Number.{Octets}
use Rattle.att_policy.specs.declared.standing.KeyFacts.{KeyFacts}
use Rattle.le_hci.specs.declared.peer.Peer.{Peer}
use Rattle.le_security.specs.declared.entry.Entry.{Entry}
use Rattle.le_security.specs.declared.entry.Key.{Key}
use Rattle.le_security.specs.Entry.{same_peer, is_for}
use Rattle.le_security.specs.declared.entry_file.TheConstants.{MAX_ENTRIES}

-- At most `MAX_ENTRIES` entries, and at most one for each request.
pub record AreProvisioned (entries : List Entry) : Type 0 where
  pub within : length entries ≤ MAX_ENTRIES
  pub once : (peer : Peer) (random_number : Octets) (diversifier : ℕ)
      → count_by (is_for peer random_number diversifier) entries ≤ 1

abbrev pub has_answer : List Entry → Entry → Bool
has_answer entries entry =
    list_any (is_for entry.peer entry.random_number entry.diversifier) entries

abbrev pub is_known : List Entry → Peer → Bool
is_known entries peer = list_any (λ (entry : Entry). same_peer entry.peer peer) entries

-- The key for a request. (P-KEY-2)
abbrev pub key_asked_for : List Entry → Peer → Octets → ℕ → Option Key
key_asked_for entries peer random_number diversifier =
    option_map (λ (entry : Entry). entry.key) (find (is_for peer random_number diversifier) entries)

abbrev pub peer_at : List Entry → ℕ → Option Peer
peer_at entries at = option_map (λ (entry : Entry). entry.peer) (slice_get entries at)

abbrev pub facts_at : List Entry → ℕ → Option KeyFacts
facts_at entries at =
    option_map (λ (entry : Entry). entry.key.facts) (slice_get entries at)
