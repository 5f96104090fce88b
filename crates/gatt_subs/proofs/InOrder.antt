-- Lists that are kept in an order.
use Rattle.std.proofs.Common.{◌≡◌, ℕ, suc, ◌+◌, ◌≤◌, ◌==◌, Bool, true, false, not, nat_lt, if◌then◌else◌, List, [], ◌∷◌, length, drop, Option, Some, None, refl, ap, sym, ◌∙◌, arith}
use Rattle.std.specs.List.{insert, position, position_or_len}
use Rattle.std.specs.Option.{unwrap_or}
use Rattle.std.specs.Prelude.{slice_get}
use Rattle.std.proofs.lemmas.List.{at_drop_more}
use Rattle.std.proofs.lemmas.Option.{slice_get_within, get_or_from_slice_get}
use Rattle.std.proofs.lemmas.List.Sums.{prefix_len-le-length}
use Rattle.std.proofs.lemmas.Bool.Decides.{nat_tests}
use Rattle.att_numbers.specs.Types.{Handle, Row}
use Rattle.le_hci.specs.declared.peer.Peer.{Peer}
use Rattle.gatt_subs.specs.declared.row_entry.RowEntry.{RowEntry}
use Rattle.gatt_subs.specs.InOrder.{in_order}
use Rattle.gatt_subs.specs.RowEntry.{order_of}
use Rattle.gatt_subs.specs.RowsText.{entries_with}

-- the place that is found, or else the end
place_or_end : {X : Type 0} (test : X → Bool) (xs : List X) → unwrap_or (position test xs) (length xs) ≡ position_or_len test xs
place_or_end test xs =
    let within = prefix_len-le-length (λ x. not (test x)) xs in
    elim (nat_lt (position_or_len test xs) (length xs)) as (λ found. nat_lt (position_or_len test xs) (length xs) ≡ found
    → unwrap_or (if found then Some (position_or_len test xs) else None) (length xs) ≡ position_or_len test xs) [
      | true ↦ λ found. refl
      | false ↦ λ missing. grind (arith, nat_tests)
    ] refl

-- to insert at the first element that comes after it is to keep the order
inserted_at : {X : Type 0} (order : X → ℕ) (x : X) (xs : List X)
    → insert xs (position_or_len (λ other. nat_lt (order x) (order other)) xs) x ≡ in_order order x xs
inserted_at order x [] = refl
inserted_at {X} order x (y ∷ ys) =
    elim (nat_lt (order x) (order y)) as
    (λ before. insert (y ∷ ys) (if not before then 1 + (position_or_len (λ other. nat_lt (order x) (order other)) ys) else 0) x
    ≡ (if before then x ∷ y ∷ ys else y ∷ in_order order x ys)) [
      | true ↦ refl
      | false ↦
          let place = position_or_len (λ other. nat_lt (order x) (order other)) ys in
          let behind : 1 + place ≡ suc place = omega arith in
          ap (λ (k : ℕ). insert (y ∷ ys) k x) behind ∙ ap (λ (rest : List X). y ∷ rest) (inserted_at order x ys)
    ]

pub inserted_in_order : {X : Type 0} (order : X → ℕ) (x : X) (xs : List X)
    → insert xs (unwrap_or (position (λ other. nat_lt (order x) (order other)) xs) (length xs)) x ≡ in_order order x xs
inserted_in_order order x xs =
    ap (λ place. insert xs place x) (place_or_end (λ other. nat_lt (order x) (order other)) xs) ∙ inserted_at order x xs

-- the same, step by step
pub inserted_where_found : {X : Type 0} (order : X → ℕ) (x : X) (xs seen : List X) (key end place : ℕ) (found : Option ℕ)
    → seen ≡ xs → key ≡ order x → found ≡ position (λ other. nat_lt key (order other)) seen → end ≡ length xs → place ≡ unwrap_or found end
    → insert xs place x ≡ in_order order x xs
inserted_where_found order x xs seen key end place found whole same first last at =
    rw (at, last, first, same, whole) (inserted_in_order order x xs)

pub place_or_end_within : {X : Type 0} (test : X → Bool) (xs : List X) → unwrap_or (position test xs) (length xs) ≤ length xs
place_or_end_within test xs = omega (arith, place_or_end test xs, prefix_len-le-length (λ x. not (test x)) xs)

pub ruleset inserts = (place_or_end_within)

-- a step of the loop over the entries of a row
pub entries_next : (entries : List RowEntry) (peer : Peer) (row : Row) (place : ℕ) (entry : Handle × ℕ) → slice_get row place ≡ Some entry
    → entries_with (if entry.1 == 0 then entries else in_order order_of (record { peer = peer; handle = entry.0; bits = entry.1 }) entries) peer
    (drop (place + 1) row)
    ≡ entries_with entries peer (drop place row)
entries_next entries peer row place entry at =
    ap (λ (of : Handle × ℕ). entries_with entries peer (of ∷ drop (place + 1) row)) (sym (get_or_from_slice_get row place entry entry at))
    ∙ sym (at_drop_more (λ (left : Row). entries_with entries peer left) row place entry (slice_get_within row place entry at))
