-- The handles of entries, each once.
use Rattle.std.proofs.Common.{◌≡◌, ℕ, ◌+◌, ◌<◌, Bool, true, false, ◌==◌, ◌&&◌, not, List, [], ◌∷◌, ◌++◌, length, map, drop, get_or, refl, ap, arith}
use Rattle.std.proofs.lemmas.Bool.Decides.{nat_tests}
use Rattle.std.proofs.lemmas.Grind.{common_steps}
use Rattle.std.specs.List.{filter, list_any}
use Rattle.att_writes.specs.declared.queue.Place.{Place}
use Rattle.att_writes.specs.Queue.{once_each}
use Rattle.att_writes.proofs.Laid.{no_place, drop_next}

-- a handle is not among these
abbrev pub is_new : List ℕ → ℕ → Bool
is_new touched handle = not (list_any (λ other. other == handle) touched)

-- what is touched, and what the handles that are left add to it
abbrev pub with_new : List ℕ → List ℕ → List ℕ
with_new touched handles = touched ++ filter (is_new touched) (once_each handles)

one_both : (p q r : ℕ → Bool) (x : ℕ) (xs : List ℕ) (first second one : Bool) → q x ≡ first → p x ≡ second → r x ≡ one → (q x && p x) ≡ r x
    → filter p (filter q xs) ≡ filter r xs → filter p (filter q (x ∷ xs)) ≡ filter r (x ∷ xs)
one_both p q r x xs first second one is_first is_second is_one both rest = grind arith

filter_both : (p q r : ℕ → Bool) (xs : List ℕ) → ((x : ℕ) → (q x && p x) ≡ r x) → filter p (filter q xs) ≡ filter r xs
filter_both p q r [] both = refl
filter_both p q r (x ∷ xs) both = one_both p q r x xs (q x) (p x) (r x) refl refl refl (both x) (filter_both p q r xs both)

pub all_new : (handles : List ℕ) → filter (is_new []) handles ≡ handles
all_new [] = refl
all_new (handle ∷ handles) = ap (λ rest. handle ∷ rest) (all_new handles)

-- a handle that is not there is added, and one that is there adds nothing
new_handle : (touched : List ℕ) (handle other : ℕ) → not (other == handle) && is_new touched other ≡ is_new (touched ++ handle ∷ []) other
new_handle touched handle other = grind (arith, nat_tests, common_steps)

one_old : (touched : List ℕ) (handle other : ℕ) (same : Bool) → (other == handle) ≡ same → is_new touched handle ≡ false → not same && is_new touched other
    ≡ is_new touched other
one_old touched handle other true same is = let equal : other ≡ handle = grind (arith, nat_tests) in cc (equal, is)
one_old touched handle other false same is = refl

old_handle : (touched : List ℕ) (handle other : ℕ) → is_new touched handle ≡ false → not (other == handle) && is_new touched other ≡ is_new touched other
old_handle touched handle other is = one_old touched handle other (other == handle) refl is

pub added : (touched : List ℕ) (handle : ℕ) (rest : List ℕ) → is_new touched handle ≡ true → with_new (touched ++ handle ∷ []) rest
    ≡ with_new touched (handle ∷ rest)
added touched handle rest is =
    let both = filter_both (is_new touched) (λ other. not (other == handle)) (is_new (touched ++ handle ∷ [])) (once_each rest) (new_handle touched handle) in
    grind (arith, common_steps)

pub left_out : (touched : List ℕ) (handle : ℕ) (rest : List ℕ) → is_new touched handle ≡ false → with_new touched rest ≡ with_new touched (handle ∷ rest)
left_out touched handle rest is =
    let both = filter_both (is_new touched) (λ other. not (other == handle)) (is_new touched) (once_each rest) (λ other. old_handle touched handle other is) in
    grind (arith, common_steps)

abbrev pub handles_left : List Place → ℕ → List ℕ
handles_left places i = map (λ (place : Place). place.handle) (drop i places)

pub handles_next : (places : List Place) (i : ℕ) → i < length places → handles_left places i ≡ (get_or places i no_place).handle ∷ handles_left places (i + 1)
handles_next places i below = ap (λ left. map (λ (place : Place). place.handle) left) (drop_next places i no_place below)
