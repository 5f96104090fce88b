-- Lists that are added one after the other.
use Rattle.std.proofs.Common.{◌≡◌, ◌+◌, ◌<◌, ◌≤◌, ℕ, List, [], ◌∷◌, arith, ◌++◌, drop, length, get_or, sym, ap, ◌∙◌, append_assoc}
use Rattle.std.specs.Prelude.{slice_get, Option}
use Rattle.std.specs.List.{flat_map}
use Rattle.std.specs.Option.{option_map_or}
use Rattle.std.proofs.lemmas.List.{append-nil, at_drop_more, drop_all, drop_more}
use Rattle.std.proofs.lemmas.Option.{slice_get-get_or}

-- of the lists of some items one more is added, and all are
pub one_added : {X Y : Type 0} (list_of : X → List Y) (all : List X) (old now new : List Y) (index : ℕ) (item default : X) → index < length all
    → item ≡ get_or all index default → now ++ flat_map list_of (drop index all) ≡ old ++ flat_map list_of all → new ≡ now ++ list_of item
    → new ++ flat_map list_of (drop (index + 1) all) ≡ old ++ flat_map list_of all
one_added {X} {Y} list_of all old now new index item default below same so_far added =
    let next : drop index all ≡ item ∷ drop (index + 1) all =
    drop_more all index default below ∙ ap (λ (first : X). first ∷ drop (index + 1) all) (sym same) in
    ap (λ (front : List Y). front ++ flat_map list_of (drop (index + 1) all)) added
    ∙ append_assoc now (list_of item) (flat_map list_of (drop (index + 1) all))
    ∙ ap (λ (left : List X). now ++ flat_map list_of left) (sym next) ∙ so_far

pub all_added : {X Y : Type 0} (list_of : X → List Y) (all : List X) (old now : List Y) (index : ℕ) → length all ≤ index
    → now ++ flat_map list_of (drop index all) ≡ old ++ flat_map list_of all → now ≡ old ++ flat_map list_of all
all_added {X} {Y} list_of all old now index within so_far =
    sym (append-nil now) ∙ ap (λ (left : List X). now ++ flat_map list_of left) (sym (drop_all index all within)) ∙ so_far

-- the list of the next one is added
pub next_added : {X Y : Type 0} (list_of : X → List Y) (items : List X) (old now new : List Y) (at : ℕ) → at < length items
    → now ++ flat_map list_of (drop at items) ≡ old ++ flat_map list_of items → new ≡ now ++ option_map_or list_of (slice_get items at) []
    → new ++ flat_map list_of (drop (at + 1) items) ≡ old ++ flat_map list_of items
next_added list_of [] old now new at within so_far added = absurd (omega (arith, within))
next_added {X} {Y} list_of (item ∷ items) old now new at within so_far added =
    let all : List X = item ∷ items in
    ap (λ (front : List Y). front ++ flat_map list_of (drop (at + 1) all))
    (added ∙ ap (λ (found : Option X). now ++ option_map_or list_of found []) (slice_get-get_or all at item within))
    ∙ append_assoc now (list_of (get_or all at item)) (flat_map list_of (drop (at + 1) all))
    ∙ sym (at_drop_more (λ (left : List X). now ++ flat_map list_of left) all at item within) ∙ so_far
