-- Items of a list that pass a test, taken one after the other.
use Rattle.std.proofs.Common.{◌≡◌, ◌+◌, ◌<◌, ◌≤◌, ℕ, Bool, true, false, List, [], ◌∷◌, ◌++◌, drop, length, get_or, refl, sym, ap, ◌∙◌, append_assoc}
use Rattle.std.specs.Prelude.{Option}
use Rattle.std.specs.List.{filter}
use Rattle.std.proofs.lemmas.List.{append-nil, drop_all, drop_more}
use Rattle.std.proofs.lemmas.List.Elements.{filter-append}
use Rattle.att_policy.specs.declared.standing.KeyFacts.{KeyFacts}
use Rattle.policy_expectations.specs.Lines.{kind_if}

-- one item is added if it passes
pub one_filtered : {X : Type 0} (test : X → Bool) (all now new : List X) (index : ℕ) (item default : X) → index < length all
    → item ≡ get_or all index default → now ++ filter test (drop index all) ≡ filter test all → new ≡ now ++ filter test (item ∷ [])
    → new ++ filter test (drop (index + 1) all) ≡ filter test all
one_filtered {X} test all now new index item default below same so_far added =
    let next : drop index all ≡ item ∷ drop (index + 1) all =
    drop_more all index default below ∙ ap (λ (first : X). first ∷ drop (index + 1) all) (sym same) in
    ap (λ (front : List X). front ++ filter test (drop (index + 1) all)) added
    ∙ append_assoc now (filter test (item ∷ [])) (filter test (drop (index + 1) all))
    ∙ ap (λ (rest : List X). now ++ rest) (sym (filter-append test (item ∷ []) (drop (index + 1) all)))
    ∙ ap (λ (left : List X). now ++ filter test left) (sym next) ∙ so_far

pub all_filtered : {X : Type 0} (test : X → Bool) (all now : List X) (index : ℕ) → length all ≤ index
    → now ++ filter test (drop index all) ≡ filter test all → now ≡ filter test all
all_filtered {X} test all now index within so_far =
    sym (append-nil now) ∙ ap (λ (left : List X). now ++ filter test left) (sym (drop_all index all within)) ∙ so_far

kind_passes : (test : Option KeyFacts → Bool) (key : Option KeyFacts) (passes : Bool) → test key ≡ passes → kind_if passes key ≡ filter test (key ∷ [])
kind_passes test key true passed = rw passed refl
kind_passes test key false failed = rw failed refl

pub kind_filtered : (test : Option KeyFacts → Bool) (key : Option KeyFacts) (passes : Bool) → passes ≡ test key
    → kind_if passes key ≡ filter test (key ∷ [])
kind_filtered test key passes same = kind_passes test key passes (sym same)
