-- Peers that are put in their places ascend.
use Rattle.std.proofs.Common.{◌≡◌, ℕ, ◌≤◌, true, false, nat_lt, if◌then◌else◌, List, [], ◌∷◌, refl, sym, subst, arith}
use Rattle.std.specs.Prelude.{Result, Ok, Err, OnOk}
use Rattle.std.specs.List.{All}
use Rattle.std.proofs.lemmas.Bool.Decides.{nat_tests}
use Rattle.std.proofs.lemmas.List.Elements.{All-nil, All-cons, All-head, All-tail}
use Rattle.att_table.specs.Table.{Contents}
use Rattle.le_hci.specs.declared.peer.Peer.{Peer}
use Rattle.le_security.specs.declared.entry.Entry.{Entry}
use Rattle.gatt_subs.specs.InOrder.{in_order, Ascends}
use Rattle.gatt_subs.specs.RowEntry.{rank_of}
use Rattle.gatt_subs.specs.Fit.{fitted_rows, peers_with, with_peer}
use Rattle.gatt_subs.specs.Rows.{Subscriptions}
use Rattle.gatt_subs.specs.Unfitted.{has_peer}

All-in_order : {X : Type 0} (order : X → ℕ) (P : X → Type 0) (x : X) (xs : List X) → P x → All P xs → All P (in_order order x xs)
All-in_order order P x [] p all = All-cons P x [] p (All-nil P)
All-in_order order P x (y ∷ ys) p all =
    elim (nat_lt (order x) (order y)) as (λ before. All P (if before then x ∷ y ∷ ys else y ∷ in_order order x ys)) [
      | true ↦ All-cons P x (y ∷ ys) p all
      | false ↦ All-cons P y (in_order order x ys) (All-head P y ys all) (All-in_order order P x ys p (All-tail P y ys all))
    ]

All-lower : {X : Type 0} (order : X → ℕ) (least less : ℕ) (xs : List X) → less ≤ least → All (λ y. least ≤ order y) xs → All (λ y. less ≤ order y) xs
All-lower order least less [] le all = All-nil (λ y. less ≤ order y)
All-lower order least less (y ∷ ys) le all =
    let here : least ≤ order y = All-head (λ y. least ≤ order y) y ys all in
    All-cons (λ y. less ≤ order y) y ys (omega arith) (All-lower order least less ys le (All-tail (λ y. least ≤ order y) y ys all))

ascends-in_order : {X : Type 0} (order : X → ℕ) (x : X) (xs : List X) → Ascends order xs → Ascends order (in_order order x xs)
ascends-in_order order x [] ascends = (All-nil (λ y. order x ≤ order y), tt)
ascends-in_order order x (y ∷ ys) ascends =
    elim (nat_lt (order x) (order y)) as
    (λ before. nat_lt (order x) (order y) ≡ before → Ascends order (if before then x ∷ y ∷ ys else y ∷ in_order order x ys)) [
      | true ↦ λ before.
          let le : order x ≤ order y = grind (arith, nat_tests) in
          (All-cons (λ z. order x ≤ order z) y ys le (All-lower order (order y) (order x) ys le ascends.0), ascends)
      | false ↦ λ behind.
          let le : order y ≤ order x = grind (arith, nat_tests) in
          (All-in_order order (λ z. order y ≤ order z) x ys le ascends.0, ascends-in_order order x ys ascends.1)
    ] refl

ascends-with_peer : (peers : List Peer) (peer : Peer) → Ascends rank_of peers → Ascends rank_of (with_peer peers peer)
ascends-with_peer peers peer ascends =
    elim (has_peer peers peer) as (λ has. Ascends rank_of (if has then peers else in_order rank_of peer peers)) [
      | true ↦ ascends
      | false ↦ ascends-in_order rank_of peer peers ascends
    ]

ascends-peers_with : (peers : List Peer) (keys : List Entry) → Ascends rank_of peers → Ascends rank_of (peers_with peers keys)
ascends-peers_with peers [] ascends = ascends
ascends-peers_with peers (key ∷ keys) ascends = ascends-peers_with (with_peer peers key.peer) keys (ascends-with_peer peers key.peer ascends)

pub fitted_peers_ascend : {T E : Type 0} (result : Result T E) (keys : List Entry) (table : Contents) (old new : Subscriptions)
    → OnOk result (new ≡ fitted_rows keys table old) → OnOk result (Ascends rank_of new.peers)
fitted_peers_ascend (Err e) keys table old new is = tt
fitted_peers_ascend (Ok x) keys table old new is =
    subst (λ (rows : Subscriptions). Ascends rank_of rows.peers) (sym is) (ascends-peers_with [] keys tt)
