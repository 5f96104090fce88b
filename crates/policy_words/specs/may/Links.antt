-- The links that a peer may have (this profile's own).
use Rattle.std.specs.Prelude.{Bool, true, false, filter, List, [], ◌∷◌, Option, Some, None}
use Rattle.att_policy.specs.declared.standing.KeyFacts.{KeyFacts}
use Rattle.att_policy.specs.declared.standing.Standing.{Standing}
use Rattle.le_hci.specs.declared.peer.Peer.{Peer}
use Rattle.le_security.specs.Keys.{is_known}
use Rattle.le_security.specs.declared.entry.Entry.{Entry}
use Rattle.policy_rights.specs.Columns.{columns_among, has_key}
use Rattle.policy_rights.specs.Rights.{standing_with_key}

-- A stranger has no key.
abbrev pub keyed_links : List Entry → Option Peer → List (Option KeyFacts)
keyed_links keys None = []
keyed_links keys (Some peer) = filter (has_key keys peer) (columns_among keys)

-- A link is not encrypted, or encrypted by a kind of key that the peer has.
abbrev pub links_of : List Entry → Option Peer → Bool → List (Option KeyFacts)
links_of keys peer true = None ∷ []
links_of keys peer false = None ∷ keyed_links keys peer

abbrev pub has_any_key : List Entry → Option Peer → Bool
has_any_key keys None = false
has_any_key keys (Some peer) = is_known keys peer

-- A peer with a key has it also while its link is not encrypted.
abbrev pub standing_on : Bool → Bool → Option KeyFacts → Standing
standing_on is_known is_authorized link =
    record (standing_with_key link is_authorized) { key_known = is_known }
