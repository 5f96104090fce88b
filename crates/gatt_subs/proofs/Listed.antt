-- Rows as a list, by the bond of each peer.
use Rattle.std.proofs.Common.{◌≡◌, true, false, ◌||◌, if◌then◌else◌, List, [], ◌∷◌, length, map, slice_get, Option, Some, None, refl, sym, ap, subst, ◌∙◌, arith}
use Rattle.std.specs.Prelude.{nat_lt}
use Rattle.std.specs.Option.{option_and_then, unwrap_or}
use Rattle.std.proofs.lemmas.Grind.{common_steps}
use Rattle.std.proofs.lemmas.Bool.{false≢true, or_parts}
use Rattle.le_hci.specs.declared.peer.Peer.{Peer}
use Rattle.le_security.specs.declared.entry.Entry.{Entry}
use Rattle.le_security.specs.Entry.{same_peer}
use Rattle.le_security.specs.Keys.{is_known}
use Rattle.le_security.proofs.Peers.{equal_peers, same_as_itself}
use Rattle.gatt_subs.proofs.Fitted.{has_in_order, has_peers_of}
use Rattle.gatt_subs.specs.declared.bond.Bond.{Bond}
use Rattle.gatt_subs.specs.Fit.{IsListed, peers_of, peers_with, rows_listed, with_peer}
use Rattle.gatt_subs.specs.InOrder.{in_order}
use Rattle.gatt_subs.specs.RowEntry.{rank_of}
use Rattle.gatt_subs.specs.Rows.{Subscriptions, bond_of, peer_place}
use Rattle.gatt_subs.specs.Unfitted.{has_peer}

-- no peer stands twice
abbrev IsEachOnce : List Peer → Type 0
IsEachOnce [] = Unit
IsEachOnce (peer ∷ peers) = (has_peer peers peer ≡ false) × IsEachOnce peers

swap-apart : (one other : Peer) → same_peer one other ≡ false → same_peer other one ≡ false
swap-apart one other apart =
    elim (same_peer other one) as (λ same. same_peer other one ≡ same → same ≡ false) [
      | true ↦ λ same.
          absurd (false≢true (sym apart ∙ subst (λ (peer : Peer). same_peer peer other ≡ true) (equal_peers other one same) (same_as_itself other)))
      | false ↦ λ apart. refl
    ] refl

once-in-order : (peers : List Peer) (peer : Peer) → IsEachOnce peers → has_peer peers peer ≡ false → IsEachOnce (in_order rank_of peer peers)
once-in-order [] peer once lacks = (refl, tt)
once-in-order (first ∷ peers) peer once lacks =
    let apart = or_parts (same_peer first peer) (has_peer peers peer) lacks in
    elim (nat_lt (rank_of peer) (rank_of first)) as (λ before. IsEachOnce (if before then peer ∷ first ∷ peers else first ∷ in_order rank_of peer peers)) [
      | true ↦ (lacks, once)
      | false ↦ (
        has_in_order peers peer first ∙ ap (λ same. same || has_peer peers first) (swap-apart first peer apart.0) ∙ once.0,
        once-in-order peers peer once.1 apart.1,
      )
    ]

once-with_peer : (peers : List Peer) (peer : Peer) → IsEachOnce peers → IsEachOnce (with_peer peers peer)
once-with_peer peers peer once =
    elim (has_peer peers peer) as (λ has. has_peer peers peer ≡ has → IsEachOnce (if has then peers else in_order rank_of peer peers)) [
      | true ↦ λ has. once
      | false ↦ λ lacks. once-in-order peers peer once lacks
    ] refl

once-peers_with : (keys : List Entry) (peers : List Peer) → IsEachOnce peers → IsEachOnce (peers_with peers keys)
once-peers_with [] peers once = once
once-peers_with (key ∷ keys) peers once = once-peers_with keys (with_peer peers key.peer) (once-with_peer peers key.peer once)

-- the bonds are a list, where each peer's is this
abbrev HasBonds : (Peer → Bond) → List Peer → List Bond → Type 0
HasBonds bond peers bonds = (peer : Peer) → has_peer peers peer ≡ true → option_and_then (slice_get bonds) (peer_place peers peer) ≡ Some (bond peer)

place-first : (first : Peer) (peers : List Peer) (bond : Bond) (bonds : List Bond) → same_peer first first ≡ true
    → option_and_then (slice_get (bond ∷ bonds)) (peer_place (first ∷ peers) first) ≡ Some bond
place-first first peers bond bonds same = grind (arith, common_steps)

place-later : (first : Peer) (peers : List Peer) (peer : Peer) (bond : Bond) (bonds : List Bond) → same_peer first peer ≡ false
    → option_and_then (slice_get (bond ∷ bonds)) (peer_place (first ∷ peers) peer) ≡ option_and_then (slice_get bonds) (peer_place peers peer)
place-later first peers peer bond bonds apart = grind (arith, common_steps)

-- one that stands behind the first is another
later-apart : (first : Peer) (peers : List Peer) (peer : Peer) → has_peer peers first ≡ false → has_peer peers peer ≡ true → same_peer first peer ≡ false
later-apart first peers peer lacks has =
    elim (same_peer first peer) as (λ same. same_peer first peer ≡ same → same ≡ false) [
      | true ↦ λ same. absurd (false≢true (sym lacks ∙ ap (has_peer peers) (equal_peers first peer same) ∙ has))
      | false ↦ λ apart. refl
    ] refl

some-is : (one other : Bond) → ◌≡◌ {A = Option Bond} (Some one) (Some other) → one ≡ other
some-is one other same = ap (λ (found : Option Bond). unwrap_or found one) same

bonds-listed : (bond : Peer → Bond) (peers : List Peer) (bonds : List Bond) → IsEachOnce peers → length bonds ≡ length peers
    → HasBonds bond peers bonds → bonds ≡ map bond peers
bonds-listed bond [] [] once count has = refl
bonds-listed bond [] (one ∷ bonds) once count has = absurd (omega (arith, count))
bonds-listed bond (first ∷ peers) [] once count has = absurd (omega (arith, count))
bonds-listed bond (first ∷ peers) (one ∷ bonds) once count has =
    let here : one ≡ bond first =
    some-is one (bond first)
    (sym (place-first first peers one bonds (same_as_itself first))
    ∙ has first (ap (λ same. same || has_peer peers first) (same_as_itself first))) in
    let later : HasBonds bond peers bonds =
    λ peer there.
    let apart : same_peer first peer ≡ false = later-apart first peers peer once.0 there in
    sym (place-later first peers peer one bonds apart) ∙ has peer (ap (λ same. same || has_peer peers peer) apart ∙ there)
    in
    (λ i. here i ∷ bonds-listed bond peers bonds once.1 (omega (arith, count)) later i)

-- fitted rows are a list, where each peer of the keys has this bond
pub rows_are_listed : (keys : List Entry) (rows : Subscriptions) (bond : Peer → Bond) → IsListed keys rows
    → ((peer : Peer) → bond_of rows peer ≡ (if is_known keys peer then Some (bond peer) else None)) → rows ≡ rows_listed keys bond
rows_are_listed keys rows bond listed known =
    let has : HasBonds bond (peers_of keys) rows.bonds =
    λ peer there.
    ap (λ (peers : List Peer). option_and_then (slice_get rows.bonds) (peer_place peers peer)) (sym listed.peers) ∙ known peer
    ∙ ap (λ known. if known then Some (bond peer) else None) (sym (has_peers_of keys peer) ∙ there)
    in
    let bonds : rows.bonds ≡ map bond (peers_of keys) =
    bonds-listed bond (peers_of keys) rows.bonds (once-peers_with keys [] tt) (listed.count ∙ ap length listed.peers) has in
    (λ i. record { peers = listed.peers i; bonds = bonds i; unfitted = listed.unfitted i })
