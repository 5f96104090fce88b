-- What a change of one peer's bond leaves.
use Rattle.std.proofs.Common.{◌≡◌, ◌≢◌, ℕ, zero, suc, ◌<◌, true, List, [], ◌∷◌, length, get_or, set, slice_get, Option, Some, None, refl, sym, ap, ◌∙◌, subst, arith, ◌⊎◌, inl}
use Rattle.std.specs.Option.{option_and_then, option_map, option_map_or}
use Rattle.std.proofs.lemmas.Grind.{common_steps}
use Rattle.std.proofs.lemmas.Bool.{false≢true}
use Rattle.std.proofs.lemmas.List.Quantifiers.{position-Some}
use Rattle.std.proofs.lemmas.Option.{slice_get-get_or}
use Rattle.att_numbers.specs.Types.{Row}
use Rattle.le_hci.specs.declared.peer.Peer.{Peer}
use Rattle.le_security.specs.Entry.{same_peer}
use Rattle.le_security.proofs.Peers.{equal_peers, same_as_itself}
use Rattle.gatt_subs.specs.declared.bond.Bond.{Bond}
use Rattle.gatt_subs.specs.Unfitted.{WrittenRows}
use Rattle.gatt_subs.specs.Rows.{Subscriptions, peer_place, bond_of, bonds_with, with_bond, with_row, ChangesBond}

-- an element that is set, read where it is and elsewhere
get-set_same : {X : Type 0} (xs : List X) (i : ℕ) (x : X) → i < length xs → slice_get (set xs i x) i ≡ Some x
get-set_same xs i x within = grind (arith, common_steps, slice_get-get_or (set xs i x) i x)

get-set_other : {X : Type 0} (xs : List X) (i j : ℕ) (x : X) → i ≢ j → slice_get (set xs i x) j ≡ slice_get xs j
get-set_other [] i j x apart = refl
get-set_other (y ∷ ys) zero zero x apart = absurd (apart refl)
get-set_other (y ∷ ys) zero (suc j) x apart = refl
get-set_other (y ∷ ys) (suc i) zero x apart = refl
get-set_other (y ∷ ys) (suc i) (suc j) x apart = get-set_other ys i j x (λ same. apart (ap (λ (k : ℕ). suc k) same))

-- to set the bond at a place to what it is changed to
pub set_to_change : (bonds : List Bond) (place : ℕ) (change : Bond → Bond) (d new : Bond)
    → place < length bonds → new ≡ change (get_or bonds place d) → set bonds place new ≡ bonds_with bonds place change
set_to_change bonds place change d new within is =
    ap (λ (bond : Bond). set bonds place bond) is
    ∙ sym (ap (λ (found : Option Bond). option_map_or (λ (bond : Bond). set bonds place (change bond)) found bonds) (slice_get-get_or bonds place d within))

-- the bond at the place is changed, and the others stay
changed_there : (bonds : List Bond) (place : ℕ) (change : Bond → Bond) → place < length bonds
    → slice_get (bonds_with bonds place change) place ≡ option_map change (slice_get bonds place)
changed_there [] place change within = absurd (omega arith)
changed_there (bond ∷ bonds) place change within =
    let is = slice_get-get_or (bond ∷ bonds) place bond within in
    rw is (get-set_same (bond ∷ bonds) place (change (get_or (bond ∷ bonds) place bond)) within)

unchanged_elsewhere : (bonds : List Bond) (place other : ℕ) (change : Bond → Bond) → place ≢ other
    → slice_get (bonds_with bonds place change) other ≡ slice_get bonds other
unchanged_elsewhere bonds place other change apart =
    elim (slice_get bonds place) as (λ found. slice_get (option_map_or (λ (bond : Bond). set bonds place (change bond)) found bonds) other
    ≡ slice_get bonds other) [
      | None ↦ refl
      | Some bond ↦ get-set_other bonds place other (change bond) apart
    ]

-- and there are as many as before
count_set : {X : Type 0} (xs : List X) (place : ℕ) (x : X) → length (set xs place x) ≡ length xs
count_set [] place x = refl
count_set (y ∷ ys) zero x = refl
count_set (y ∷ ys) (suc place) x = ap (λ (k : ℕ). suc k) (count_set ys place x)

count_changed : (bonds : List Bond) (place : ℕ) (change : Bond → Bond) → length (bonds_with bonds place change) ≡ length bonds
count_changed bonds place change =
    elim (slice_get bonds place) as (λ found. length (option_map_or (λ (bond : Bond). set bonds place (change bond)) found bonds) ≡ length bonds) [
      | None ↦ refl
      | Some bond ↦ count_set bonds place (change bond)
    ]

-- two peers at one place are the same
same_at : (peers : List Peer) (one other : Peer) (place : ℕ) → peer_place peers one ≡ Some place → peer_place peers other ≡ Some place
    → same_peer one other ≡ true
same_at peers one other place first second =
    let there = get_or peers place one in
    let found = position-Some (λ (peer : Peer). same_peer peer one) peers place one first in
    let found' = position-Some (λ (peer : Peer). same_peer peer other) peers place one second in
    let is : there ≡ one = equal_peers there one found.1 in
    let is' : there ≡ other = equal_peers there other found'.1 in
    subst (λ (peer : Peer). same_peer one peer ≡ true) (sym is ∙ is') (same_as_itself one)

-- what becomes of a peer's bond, and of any other, where the bond at the place of the peer is changed
pub changes_bond : (old : Subscriptions) (peers : List Peer) (bonds : List Bond) (unfitted : WrittenRows) (peer : Peer) (place : ℕ) (change : Bond → Bond)
    → record { peers = peers; bonds = bonds; unfitted = unfitted } ≡ old → length bonds ≡ length peers → peer_place peers peer ≡ Some place
    → ChangesBond change peer old (record { peers = peers; bonds = bonds_with bonds place change; unfitted = unfitted })
changes_bond old peers bonds unfitted peer place change is same at =
    let within = (position-Some (λ (other : Peer). same_peer other peer) peers place peer at).0 in
    let new : Subscriptions = record { peers = peers; bonds = bonds_with bonds place change; unfitted = unfitted } in
    subst (λ (old : Subscriptions). ChangesBond change peer old new) is (record {
      bond = rw at (changed_there bonds place change (omega arith));
      others = λ other apart.
          elim (peer_place peers other) as (λ found. peer_place peers other ≡ found
          → option_and_then (slice_get (bonds_with bonds place change)) found ≡ option_and_then (slice_get bonds) found) [
            | None ↦ λ missing. refl
            | Some elsewhere ↦ λ found.
                unchanged_elsewhere bonds place elsewhere change (λ same.
                false≢true (sym apart ∙ same_at peers peer other place at (found ∙ ap (λ (k : ℕ). Some k) (sym same))))
          ] refl;
      unfitted = refl;
      peers = refl;
      count = count_changed bonds place change;
    })

-- nothing changes where a peer has none
pub changes_no_bond : (old : Subscriptions) (peers : List Peer) (bonds : List Bond) (unfitted : WrittenRows) (peer : Peer) (change : Bond → Bond)
    → record { peers = peers; bonds = bonds; unfitted = unfitted } ≡ old → peer_place peers peer ≡ None → ChangesBond change peer old old
changes_no_bond old peers bonds unfitted peer change is missing =
    subst (λ (old : Subscriptions). ChangesBond change peer old old) is (record {
      bond = rw missing refl;
      others = λ other apart. refl;
      unfitted = refl;
      peers = refl;
      count = refl;
    })

-- a row that is lent
pub lent_row : (old : Subscriptions) (peers : List Peer) (bonds : List Bond) (unfitted : WrittenRows) (peer : Peer) (place : ℕ) (bond d : Bond) (row : Row)
    → record { peers = peers; bonds = bonds; unfitted = unfitted } ≡ old → length bonds ≡ length peers → peer_place peers peer ≡ Some place
    → bond ≡ get_or bonds place d
    → record { peers = peers; bonds = set bonds place (record { row = row; owed = bond.owed }); unfitted = unfitted } ≡ with_bond old peer (with_row row)
lent_row old peers bonds unfitted peer place bond d row is same at there =
    let within = (position-Some (λ (other : Peer). same_peer other peer) peers place peer at).0 in
    let set_is = set_to_change bonds place (with_row row) d (record { row = row; owed = bond.owed }) (omega arith) (ap (with_row row) there) in
    let held : Subscriptions = record { peers = peers; bonds = bonds; unfitted = unfitted } in
    (λ i. record { peers = peers; bonds = set_is i; unfitted = unfitted })
    ∙ sym (ap (λ (found : Option ℕ). option_map_or (λ place. record held { bonds = bonds_with bonds place (with_row row) }) found held) at)
    ∙ ap (λ (rows : Subscriptions). with_bond rows peer (with_row row)) is

pub row_there : (old : Subscriptions) (peers : List Peer) (bonds : List Bond) (unfitted : WrittenRows) (peer : Peer) (place : ℕ) (bond d : Bond)
    → record { peers = peers; bonds = bonds; unfitted = unfitted } ≡ old → length bonds ≡ length peers → peer_place peers peer ≡ Some place
    → bond ≡ get_or bonds place d → bond_of old peer ≡ Some bond
row_there old peers bonds unfitted peer place bond d is same at there =
    let within = (position-Some (λ (other : Peer). same_peer other peer) peers place peer at).0 in
    subst (λ (rows : Subscriptions). bond_of rows peer ≡ Some bond) is
    (rw at (slice_get-get_or bonds place d (omega arith) ∙ ap (λ (bond : Bond). Some bond) (sym there)))

-- what a lender ends as, by what is last written
pub ends_alike : {N A B C : Type 0} (name : N) (one other : A → B) → ((x : A) → one x ≡ other x)
    → ◌≡◌ {A = (N × (A → B)) ⊎ C} (inl (name, one)) (inl (name, other))
ends_alike name one other same = λ i. inl (name, λ x. same x i)

-- the law of a row that is lent: what is written through it changes the bond of its peer, and no other
pub row_changes : (old : Subscriptions) (peers : List Peer) (bonds : List Bond) (unfitted : WrittenRows) (peer : Peer) (row : Row)
    → record { peers = peers; bonds = bonds; unfitted = unfitted } ≡ old → length bonds ≡ length peers
    → ChangesBond (with_row row) peer old (with_bond old peer (with_row row))
row_changes old peers bonds unfitted peer row is same =
    let held : Subscriptions = record { peers = peers; bonds = bonds; unfitted = unfitted } in
    subst (λ (old : Subscriptions). ChangesBond (with_row row) peer old (with_bond old peer (with_row row))) is
    (elim (peer_place peers peer) as (λ found. peer_place peers peer ≡ found
    → ChangesBond (with_row row) peer held (option_map_or (λ place. record held { bonds = bonds_with bonds place (with_row row) }) found held)) [
      | None ↦ λ missing. changes_no_bond held peers bonds unfitted peer (with_row row) refl missing
      | Some place ↦ λ at. changes_bond held peers bonds unfitted peer place (with_row row) refl same at
    ] refl)
