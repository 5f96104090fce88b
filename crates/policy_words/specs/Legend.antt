-- The keys behind the columns (this profile's own).
use Rattle.std.specs.Prelude.{ℕ, ◌==◌, ◌&&◌, Bool, true, false, not, if◌then◌else◌, List, [], ◌∷◌, ◌++◌, codes, Option, Some, None}
use Rattle.std.specs.Fmt.{decimal}
use Rattle.std.specs.List.{flat_map, list_any}
use Rattle.octet_io.specs.Number.{Octets}
use Rattle.att_policy.specs.declared.standing.KeyFacts.{KeyFacts}
use Rattle.gatt_subs.specs.RowsText.{address_text}
use Rattle.le_hci.specs.declared.peer.Peer.{Peer}
use Rattle.le_security.specs.declared.entry.Entry.{Entry}
use Rattle.policy_rights.specs.Columns.{has_key, peers_of_kind}
use Rattle.policy_words.specs.declared.columns.Column.{Column}

abbrev pub words_if : Bool → Octets → Octets
words_if true words = words
words_if false words = []

unfoldable pub flags_text : KeyFacts → Octets
flags_text key =
    words_if key.authenticated (codes ", authenticated")
    ++ words_if key.secure (codes ", secure connections")

unfoldable pub strength_text : KeyFacts → Octets
strength_text key = codes "key of " ++ decimal key.size ++ flags_text key

abbrev pub key_text : Option KeyFacts → Octets
key_text None = codes "no key: everybody, and each peer until its link is encrypted"
key_text (Some key) = strength_text key

abbrev pub address_type_word : ℕ → Octets
address_type_word kind = if kind == 0 then codes "public " else codes "random "

abbrev pub peer_words : Peer → Octets
peer_words peer = address_type_word peer.kind ++ address_text peer.address

-- The peer has a key of a kind of the column with this name.
abbrev pub is_kind_of_peer : List Entry → Peer → ℕ → Column → Bool
is_kind_of_peer keys peer name kind = (kind.name == name) && has_key keys peer kind.key

abbrev pub has_key_in : List Entry → List Column → Peer → ℕ → Bool
has_key_in keys kinds peer name = list_any (is_kind_of_peer keys peer name) kinds

-- The other columns with a key of the peer.
abbrev pub also_text : List Entry → List Column → Peer → ℕ → Column → Octets
also_text keys kinds peer name other =
    if not (other.name == name) && has_key_in keys kinds peer other.name
    then codes " (also " ++ other.name ∷ 41 ∷ [] else []

unfoldable pub peer_line : List Entry → List Column → List Column → ℕ → Peer → Octets
peer_line keys columns kinds name peer =
    codes "     " ++ peer_words peer ++ flat_map (also_text keys kinds peer name) columns
    ++ 10 ∷ []

-- A kind of key with the name of its column, and each peer with such a key once.
unfoldable pub kind_lines : List Entry → List Column → List Column → Column → Octets
kind_lines keys columns kinds kind =
    kind.name ∷ codes "  " ++ key_text kind.key ++ 10 ∷ []
    ++ flat_map (peer_line keys columns kinds kind.name) (peers_of_kind keys kind.key)

abbrev pub signs_text : Octets
signs_text =
    codes "r read  w write  c write without response  s subscribe" ++ 10
    ∷ codes "n be notified  i be indicated (if it has subscribed, whenever that was)" ++ 10
    ∷ codes "( ) only while the application authorizes the connection  . nothing" ++ 10 ∷ 10 ∷ []

-- The columns, and all kinds of keys with the names of their columns.
unfoldable pub legend_text : List Entry → List Column → List Column → Octets
legend_text keys columns kinds = signs_text ++ flat_map (kind_lines keys columns kinds) kinds
