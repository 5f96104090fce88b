-- Texts that are added one after the other.
use Rattle.std.proofs.Common.{◌≡◌, ◌+◌, ℕ, List, ◌∷◌, ◌++◌, drop, Some, sym, ap, ◌∙◌, append_assoc}
use Rattle.std.specs.Prelude.{slice_get}
use Rattle.std.specs.List.{flat_map}
use Rattle.std.proofs.lemmas.List.{drop_more}
use Rattle.std.proofs.lemmas.Option.{get_or_from_slice_get, slice_get_within}

pub one_added : {X Y : Type 0} (list_of : X → List Y) (all : List X) (old now new : List Y) (index : ℕ) (item : X) → slice_get all index ≡ Some item
    → now ++ flat_map list_of (drop index all) ≡ old ++ flat_map list_of all → new ≡ now ++ list_of item
    → new ++ flat_map list_of (drop (index + 1) all) ≡ old ++ flat_map list_of all
one_added {X} {Y} list_of all old now new index item here so_far added =
    let next : drop index all ≡ item ∷ drop (index + 1) all =
    drop_more all index item (slice_get_within all index item here)
    ∙ ap (λ (first : X). first ∷ drop (index + 1) all) (get_or_from_slice_get all index item item here) in
    ap (λ (front : List Y). front ++ flat_map list_of (drop (index + 1) all)) added
    ∙ append_assoc now (list_of item) (flat_map list_of (drop (index + 1) all))
    ∙ ap (λ (left : List X). now ++ flat_map list_of left) (sym next) ∙ so_far
