-- What is still to be handed out of a list, by the element at a place.
use Rattle.std.proofs.Common.{◌≡◌, ℕ, zero, suc, ◌+◌, ◌<◌, List, [], ◌∷◌, drop, length, slice_get, Some, None, refl, sym, ap, ◌∙◌}
use Rattle.std.proofs.lemmas.List.{drop_more}
use Rattle.std.proofs.lemmas.Option.{slice_get-get_or, slice_get_within}
use Rattle.std.specs.Option.{unwrap_or}

pub none_left : {A : Type 0} (xs : List A) (place : ℕ) → slice_get xs place ≡ None → drop place xs ≡ []
none_left [] zero none = refl
none_left [] (suc place) none = refl
none_left (x ∷ xs) zero none = cc none
none_left (x ∷ xs) (suc place) none = none_left xs place none

pub one_left : {A : Type 0} (xs : List A) (place : ℕ) (x : A) → slice_get xs place ≡ Some x → drop place xs ≡ x ∷ drop (place + 1) xs
one_left xs place x there =
    let within : place < length xs = slice_get_within xs place x there in
    drop_more xs place x within
    ∙ ap (λ first. first ∷ drop (place + 1) xs) (ap (λ found. unwrap_or found x) (sym (slice_get-get_or xs place x within) ∙ there))
