-- What is left of a list, and what a test finds in it.
use Rattle.std.proofs.Common.{◌≡◌, ◌<◌, ◌≤◌, ℕ, ◌+◌, ◌-◌, ◌*◌, Bool, true, false, List, [], ◌∷◌, length, take, drop, get_or, suc, refl, sym, ap, ◌∙◌, arith, length-drop}
use Rattle.std.specs.Prelude.{filter}
use Rattle.std.specs.List.{list_any}
use Rattle.std.proofs.Math.Nat.{mul-suc}
use Rattle.std.proofs.Math.Seq.{drop-cons}
use Rattle.std.proofs.lemmas.List.{take_all}

pub drop_next : {A : Type 0} (xs : List A) (i : ℕ) (d : A) → i < length xs → drop i xs ≡ get_or xs i d ∷ drop (i + 1) xs
drop_next xs i d below =
    let next : suc i ≡ i + 1 = omega arith in
    drop-cons xs i d below ∙ ap (λ n. get_or xs i d ∷ drop n xs) next

-- the room for what is left is the room for the next one and for what is left then
pub room_next : {A : Type 0} (xs : List A) (i place size held : ℕ) → i < length xs → place + size * length (drop i xs) ≡ held
    → place + size + size * length (drop (i + 1) xs) ≡ held
room_next xs i place size held below room =
    let here = length-drop i xs in
    let later = length-drop (i + 1) xs in
    let one_less : length (drop i xs) ≡ suc (length (drop (i + 1) xs)) = omega (arith, here, later, below) in
    let product = ap (λ n. size * n) one_less in
    let next = mul-suc size (length (drop (i + 1) xs)) in
    omega (arith, room, product, next)

-- and where nothing is left, all stands before the place
pub room_end : {A : Type 0} (octets : List ℕ) (xs : List A) (place size : ℕ) → xs ≡ [] → place + size * length xs ≡ length octets → take place octets ≡ octets
room_end {A = A} octets xs place size none room =
    let product = ap (λ (left : List A). size * length left) none in
    take_all place octets (omega (arith, room, product))

pub first_and_rest : {A : Type 0} (xs : List A) (d : A) → 1 ≤ length xs → xs ≡ get_or xs 0 d ∷ take (length xs - 1) (drop 1 xs)
first_and_rest [] d some = absurd (omega (arith, some))
first_and_rest (x ∷ xs) d some =
    let all : length xs ≤ length (x ∷ xs) - 1 = omega arith in
    ap (λ rest. x ∷ rest) (sym (take_all (length (x ∷ xs) - 1) xs all))

pub filter_taken : (p : ℕ → Bool) (x : ℕ) (xs : List ℕ) → p x ≡ true → filter p (x ∷ xs) ≡ x ∷ filter p xs
filter_taken p x xs is = rw is refl

pub filter_passed : (p : ℕ → Bool) (x : ℕ) (xs : List ℕ) → p x ≡ false → filter p (x ∷ xs) ≡ filter p xs
filter_passed p x xs is = rw is refl

pub any_here : (p : ℕ → Bool) (x : ℕ) (xs : List ℕ) → p x ≡ true → list_any p (x ∷ xs) ≡ true
any_here p x xs is = rw is refl

pub any_later : (p : ℕ → Bool) (x : ℕ) (xs : List ℕ) → p x ≡ false → list_any p (x ∷ xs) ≡ list_any p xs
any_later p x xs is = rw is refl

-- where nothing passes the test, the list of what does is empty, and else it is not
none-at : (p : ℕ → Bool) (x : ℕ) (xs : List ℕ) (test : Bool) → p x ≡ test → (list_any p xs ≡ false → filter p xs ≡ [])
    → list_any p (x ∷ xs) ≡ false → filter p (x ∷ xs) ≡ []
none-at p x xs true is rest none = let here = any_here p x xs is in absurd (cc (here, none))
none-at p x xs false is rest none = filter_passed p x xs is ∙ rest (sym (any_later p x xs is) ∙ none)

pub filter_none : (p : ℕ → Bool) (xs : List ℕ) → list_any p xs ≡ false → filter p xs ≡ []
filter_none p [] none = refl
filter_none p (x ∷ xs) none = none-at p x xs (p x) refl (filter_none p xs) none

some-at : (p : ℕ → Bool) (x : ℕ) (xs : List ℕ) (test : Bool) → p x ≡ test → (list_any p xs ≡ true → filter p xs ≡ [] → ⊥)
    → list_any p (x ∷ xs) ≡ true → filter p (x ∷ xs) ≡ [] → ⊥
some-at p x xs true is rest some empty = let taken = filter_taken p x xs is in cc (taken, empty)
some-at p x xs false is rest some empty = rest (sym (any_later p x xs is) ∙ some) (sym (filter_passed p x xs is) ∙ empty)

pub filter_some : (p : ℕ → Bool) (xs : List ℕ) → list_any p xs ≡ true → filter p xs ≡ [] → ⊥
filter_some p [] some empty = cc some
filter_some p (x ∷ xs) some empty = some-at p x xs (p x) refl (filter_some p xs) some empty
