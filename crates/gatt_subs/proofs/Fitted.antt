-- Bonds by their peers, after rows are fitted, and after a table is replaced.
use Rattle.std.proofs.Common.{◌≡◌, ℕ, zero, suc, ◌<◌, Bool, true, false, ◌||◌, if◌then◌else◌, List, [], ◌∷◌, length, get_or, map, slice_get, Option, Some, None, refl, sym, ap, subst, ◌∙◌, arith}
use Rattle.std.specs.Prelude.{Result, Ok, Err, OnOk, nat_lt}
use Rattle.std.specs.Option.{option_and_then, option_map}
use Rattle.std.proofs.lemmas.Grind.{common_steps}
use Rattle.std.proofs.lemmas.List.Quantifiers.{position-Some}
use Rattle.std.proofs.lemmas.Option.{slice_get-get_or}
use Rattle.att_table.specs.Table.{Contents}
use Rattle.le_hci.specs.declared.peer.Peer.{Peer}
use Rattle.le_security.specs.declared.entry.Entry.{Entry}
use Rattle.le_security.specs.Entry.{same_peer}
use Rattle.le_security.specs.Keys.{is_known}
use Rattle.le_security.proofs.Peers.{equal_peers}
use Rattle.gatt_subs.specs.declared.bond.Bond.{Bond}
use Rattle.gatt_subs.specs.InOrder.{in_order}
use Rattle.gatt_subs.specs.RowEntry.{rank_of}
use Rattle.gatt_subs.specs.Fit.{fitted_bond, fitted_rows, peers_of, peers_with, with_peer, HasFittedBonds}
use Rattle.gatt_subs.specs.Rows.{Subscriptions, bond_of, peer_place}
use Rattle.gatt_subs.specs.Unfitted.{WrittenRows, has_peer, nothing_written}
use Rattle.octet_io.proofs.Choices.{or_with_false, or_with_true}

-- a peer that is put in its place is there
pub has_in_order : (peers : List Peer) (peer other : Peer) → has_peer (in_order rank_of peer peers) other ≡ (same_peer peer other || has_peer peers other)
has_in_order [] peer other = refl
has_in_order (first ∷ peers) peer other =
    elim (nat_lt (rank_of peer) (rank_of first)) as (λ before. has_peer (if before then peer ∷ first ∷ peers else first ∷ in_order rank_of peer peers) other
    ≡ (same_peer peer other || has_peer (first ∷ peers) other)) [
      | true ↦ refl
      | false ↦
          ap (λ later. same_peer first other || later) (has_in_order peers peer other)
          ∙ swapped (same_peer first other) (same_peer peer other) (has_peer peers other)
    ]
  where
    swapped : (x y z : Bool) → (x || (y || z)) ≡ (y || (x || z))
    swapped true true z = refl
    swapped true false z = refl
    swapped false y z = refl

has-with_peer : (peers : List Peer) (peer other : Peer) → has_peer (with_peer peers peer) other ≡ (same_peer peer other || has_peer peers other)
has-with_peer peers peer other =
    elim (has_peer peers peer) as (λ has. has_peer peers peer ≡ has → has_peer (if has then peers else in_order rank_of peer peers) other
    ≡ (same_peer peer other || has_peer peers other)) [
      | true ↦ λ has.
          elim (same_peer peer other) as (λ same. same_peer peer other ≡ same → has_peer peers other ≡ (same || has_peer peers other)) [
            | true ↦ λ same. sym (ap (has_peer peers) (equal_peers peer other same)) ∙ has
            | false ↦ λ apart. refl
          ] refl
      | false ↦ λ lacks. has_in_order peers peer other
    ] refl

has-peers_with : (peers : List Peer) (keys : List Entry) (other : Peer) → has_peer (peers_with peers keys) other ≡ (is_known keys other || has_peer peers other)
has-peers_with peers [] other = refl
has-peers_with peers (key ∷ keys) other =
    has-peers_with (with_peer peers key.peer) keys other
    ∙ ap (λ has. is_known keys other || has) (has-with_peer peers key.peer other)
    ∙ joined (is_known keys other) (same_peer key.peer other) (has_peer peers other)
  where
    joined : (x y z : Bool) → (x || (y || z)) ≡ ((y || x) || z)
    joined true true z = refl
    joined true false z = refl
    joined false true z = refl
    joined false false z = refl

pub has_peers_of : (keys : List Entry) (other : Peer) → has_peer (peers_of keys) other ≡ is_known keys other
has_peers_of keys other = has-peers_with [] keys other ∙ or_with_false (is_known keys other)

-- a peer that is among others has a place there
place_missing : (peers : List Peer) (peer : Peer) → peer_place peers peer ≡ None → has_peer peers peer ≡ false
place_missing [] peer missing = refl
place_missing (first ∷ peers) peer missing = grind (arith, common_steps, place_missing peers peer)

has_there : (peers : List Peer) (peer : Peer) (place : ℕ) → place < length peers → same_peer (get_or peers place peer) peer ≡ true → has_peer peers peer ≡ true
has_there [] peer place within same = absurd (omega arith)
has_there (first ∷ peers) peer zero within same = ap (λ here. here || has_peer peers peer) same
has_there (first ∷ peers) peer (suc place) within same =
    ap (λ later. same_peer first peer || later) (has_there peers peer place (omega arith) same) ∙ or_with_true (same_peer first peer)

mapped_there : (f : Peer → Bond) (peers : List Peer) (place : ℕ) (peer : Peer) → slice_get peers place ≡ Some peer → slice_get (map f peers) place
    ≡ Some (f peer)
mapped_there f [] place peer there = cc there
mapped_there f (first ∷ peers) zero peer there = ap (option_map f) there
mapped_there f (first ∷ peers) (suc place) peer there = mapped_there f peers place peer there

-- the bond of a peer, where each has the one that is made of it
pub bond_made : (f : Peer → Bond) (peers : List Peer) (unfitted : WrittenRows) (peer : Peer)
    → bond_of (record { peers = peers; bonds = map f peers; unfitted = unfitted }) peer ≡ (if has_peer peers peer then Some (f peer) else None)
bond_made f peers unfitted peer =
    elim (peer_place peers peer) as (λ found. peer_place peers peer ≡ found → option_and_then (slice_get (map f peers)) found
    ≡ (if has_peer peers peer then Some (f peer) else None)) [
      | None ↦ λ missing. sym (ap (λ has. if has then Some (f peer) else None) (place_missing peers peer missing))
      | Some place ↦ λ found.
          let at = position-Some (λ (other : Peer). same_peer other peer) peers place peer found in
          let own : get_or peers place peer ≡ peer = equal_peers (get_or peers place peer) peer at.1 in
          mapped_there f peers place peer (slice_get-get_or peers place peer at.0 ∙ ap (λ (peer : Peer). Some peer) own)
          ∙ sym (ap (λ has. if has then Some (f peer) else None) (has_there peers peer place at.0 at.1))
    ] refl

pub fitted_bonds_each : {T E : Type 0} (result : Result T E) (keys : List Entry) (table : Contents) (old new : Subscriptions)
    → OnOk result (new ≡ fitted_rows keys table old) → OnOk result (HasFittedBonds keys table old new)
fitted_bonds_each (Err e) keys table old new is = tt
fitted_bonds_each (Ok x) keys table old new is = λ peer.
    ap (λ (rows : Subscriptions). bond_of rows peer) is
    ∙ bond_made (fitted_bond table old) (peers_of keys) nothing_written peer
    ∙ ap (λ has. if has then Some (fitted_bond table old peer) else None) (has_peers_of keys peer)

-- what is kept of each bond
changed_each : (f : Bond → Bond) (bonds : List Bond) (place : ℕ) → slice_get (map f bonds) place ≡ option_map f (slice_get bonds place)
changed_each f [] place = refl
changed_each f (bond ∷ bonds) zero = refl
changed_each f (bond ∷ bonds) (suc place) = changed_each f bonds place

pub kept_each : (f : Bond → Bond) (old : Subscriptions) (peers : List Peer) (bonds kept : List Bond) (unfitted : WrittenRows) (peer : Peer)
    → record { peers = peers; bonds = bonds; unfitted = unfitted } ≡ old → kept ≡ map f bonds
    → bond_of (record { peers = peers; bonds = kept; unfitted = unfitted }) peer ≡ option_map f (bond_of old peer)
kept_each f old peers bonds kept unfitted peer is all =
    subst (λ (rows : Subscriptions). bond_of (record { peers = peers; bonds = kept; unfitted = unfitted }) peer ≡ option_map f (bond_of rows peer)) is
    (ap (λ (bonds : List Bond). option_and_then (slice_get bonds) (peer_place peers peer)) all ∙ by (peer_place peers peer))
  where
    by : (found : Option ℕ) → option_and_then (slice_get (map f bonds)) found ≡ option_map f (option_and_then (slice_get bonds) found)
    by None = refl
    by (Some place) = changed_each f bonds place
