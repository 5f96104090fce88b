-- The keys of a file, one after the other.
use Rattle.std.proofs.Common.{◌≡◌, ℕ, ◌+◌, ◌<◌, Bool, false, ◌||◌, List, [], ◌∷◌, drop, length, arith, ◌∙◌, ap, sym, refl}
use Rattle.std.specs.Prelude.{slice_get, Option, None, Some}
use Rattle.std.specs.List.{list_any}
use Rattle.std.specs.Option.{option_map, option_map_or}
use Rattle.std.proofs.lemmas.List.{at_drop_more}
use Rattle.std.proofs.lemmas.Option.{slice_get-get_or}
use Rattle.att_policy.specs.declared.standing.KeyFacts.{KeyFacts}
use Rattle.le_hci.specs.declared.peer.Peer.{Peer}
use Rattle.le_security.specs.declared.entry.Entry.{Entry}
use Rattle.le_security.specs.Keys.{facts_at}
use Rattle.policy_rights.specs.Columns.{with_column, with_columns, with_peer_of, with_peers_of}

-- the column of the next one is added
pub next_column : (columns : List (Option KeyFacts)) (keys : List Entry) (at : ℕ) → at < length keys
    → with_columns columns (drop at keys) ≡ with_columns (with_column columns (facts_at keys at)) (drop (at + 1) keys)
next_column columns [] at within = absurd (omega arith)
next_column columns (key ∷ keys) at within =
    at_drop_more (λ (left : List Entry). with_columns columns left) (key ∷ keys) at key within
    ∙ ap (λ (found : Option Entry).
    with_columns (with_column columns (option_map (λ (entry : Entry). entry.key.facts) found)) (drop (at + 1) (key ∷ keys)))
    (sym (slice_get-get_or (key ∷ keys) at key within))

-- the peer of the next one is added
pub next_peer : (column : Option KeyFacts) (peers : List Peer) (keys : List Entry) (at : ℕ) → at < length keys
    → with_peers_of column peers (drop at keys)
    ≡ with_peers_of column (option_map_or (with_peer_of column peers) (slice_get keys at) peers) (drop (at + 1) keys)
next_peer column peers [] at within = absurd (omega arith)
next_peer column peers (key ∷ keys) at within =
    at_drop_more (λ (left : List Entry). with_peers_of column peers left) (key ∷ keys) at key within
    ∙ ap (λ (found : Option Entry). with_peers_of column (option_map_or (with_peer_of column peers) found peers) (drop (at + 1) (key ∷ keys)))
    (sym (slice_get-get_or (key ∷ keys) at key within))

-- the next one is tested
pub next_test : (test : Entry → Bool) (keys : List Entry) (at : ℕ) → at < length keys
    → list_any test (drop at keys) ≡ option_map_or test (slice_get keys at) false || list_any test (drop (at + 1) keys)
next_test test [] at within = absurd (omega arith)
next_test test (key ∷ keys) at within =
    at_drop_more (λ (left : List Entry). list_any test left) (key ∷ keys) at key within
    ∙ ap (λ (found : Option Entry). option_map_or test found false || list_any test (drop (at + 1) (key ∷ keys)))
    (sym (slice_get-get_or (key ∷ keys) at key within))

-- what is said of a peer is said of its entry
pub of_peer : {Y : Type 0} (list_of : Peer → List Y) (found : Option Entry)
    → option_map_or list_of (option_map (λ (entry : Entry). entry.peer) found) []
    ≡ option_map_or (λ (entry : Entry). list_of entry.peer) found []
of_peer list_of None = refl
of_peer list_of (Some entry) = refl
