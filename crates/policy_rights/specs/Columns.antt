-- The kinds of keys in a key file (this profile's own).
use Rattle.std.specs.Prelude.{Bool, true, false, ◌==◌, ◌&&◌, if◌then◌else◌, List, [], ◌∷◌, ◌++◌, Option, Some, None}
use Rattle.std.specs.List.{list_any}
use Rattle.std.specs.Bool.{beq}
use Rattle.att_policy.specs.declared.standing.KeyFacts.{KeyFacts}
use Rattle.le_hci.specs.declared.peer.Peer.{Peer}
use Rattle.le_security.specs.Entry.{same_peer}
use Rattle.le_security.specs.declared.entry.Entry.{Entry}

abbrev pub same_facts : KeyFacts → KeyFacts → Bool
same_facts one other =
    (one.size == other.size) && (beq one.authenticated other.authenticated
    && beq one.secure other.secure)

abbrev pub same_column : Option KeyFacts → Option KeyFacts → Bool
same_column None None = true
same_column None (Some other) = false
same_column (Some one) None = false
same_column (Some one) (Some other) = same_facts one other

-- One column for keys with the same facts, in the order of the first of them.
abbrev pub with_column : List (Option KeyFacts) → Option KeyFacts → List (Option KeyFacts)
with_column columns key =
    if list_any (same_column key) columns then columns else columns ++ key ∷ []

abbrev pub with_columns : List (Option KeyFacts) → List Entry → List (Option KeyFacts)
with_columns columns [] = columns
with_columns columns (entry ∷ rest) =
    with_columns (with_column columns (Some entry.key.facts)) rest

-- No key comes first.
abbrev pub columns_among : List Entry → List (Option KeyFacts)
columns_among keys = with_columns (None ∷ []) keys

-- The peer has a key of the kind of a column.
abbrev pub is_key_of : Peer → Option KeyFacts → Entry → Bool
is_key_of peer column entry =
    same_peer entry.peer peer && same_column (Some entry.key.facts) column

abbrev pub has_key : List Entry → Peer → Option KeyFacts → Bool
has_key keys peer column = list_any (is_key_of peer column) keys

-- The peers with a key of the kind of a column, each once, in the order of their first keys.
abbrev pub with_new_peer : List Peer → Peer → List Peer
with_new_peer peers peer = if list_any (same_peer peer) peers then peers else peers ++ peer ∷ []

abbrev pub with_peer_of : Option KeyFacts → List Peer → Entry → List Peer
with_peer_of column peers entry =
    if same_column (Some entry.key.facts) column then with_new_peer peers entry.peer else peers

abbrev pub with_peers_of : Option KeyFacts → List Peer → List Entry → List Peer
with_peers_of column peers [] = peers
with_peers_of column peers (entry ∷ rest) =
    with_peers_of column (with_peer_of column peers entry) rest

abbrev pub peers_of_kind : List Entry → Option KeyFacts → List Peer
peers_of_kind keys column = with_peers_of column [] keys
