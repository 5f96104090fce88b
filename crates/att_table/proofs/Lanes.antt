-- The first of numbers that passes a test, where some are tested at once.
use Rattle.std.proofs.Common.{◌≡◌, ℕ, zero, suc, ◌+◌, ◌<◌, ◌≤◌, Bool, List, [], ◌∷◌, length, take, drop, Some, None, not, refl, ap, sym, ◌∙◌, arith, length-take, inl, inr}
use Rattle.std.specs.List.{position, position_or_len, prefix_len}
use Rattle.std.proofs.lemmas.Bool.Decides.{nat_tests}
use Rattle.std.proofs.lemmas.Bool.{cases_lt}
use Rattle.std.proofs.lemmas.Grind.{common_steps}

-- how many of the first n pass, where all those before the end of them do, and where not
taken_less : (passes : ℕ → Bool) (xs : List ℕ) (n : ℕ) → prefix_len passes xs < n → prefix_len passes (take n xs) ≡ prefix_len passes xs
taken_less passes xs zero less = absurd (omega arith)
taken_less passes [] (suc n) less = refl
taken_less passes (x ∷ xs) (suc n) less = grind (arith, common_steps, taken_less passes xs n)

taken_all : (passes : ℕ → Bool) (xs : List ℕ) (n : ℕ) → n ≤ prefix_len passes xs → prefix_len passes (take n xs) ≡ n
taken_all passes xs zero all = refl
taken_all passes [] (suc n) all = absurd (omega arith)
taken_all passes (x ∷ xs) (suc n) all = grind (arith, common_steps, taken_all passes xs n)

-- those that pass, behind some that do
dropped : (passes : ℕ → Bool) (xs : List ℕ) (at : ℕ) → at ≤ prefix_len passes xs → at + prefix_len passes (drop at xs) ≡ prefix_len passes xs
dropped passes xs zero past = omega arith
dropped passes [] (suc at) past = absurd (omega arith)
dropped passes (x ∷ xs) (suc at) past = grind (arith, common_steps, dropped passes xs at)

pub first_in_lanes : (test : ℕ → Bool) (xs : List ℕ) (at n before : ℕ) → at ≤ position_or_len test xs
    → before ≡ position_or_len test (take n (drop at xs)) → before < n → position_or_len test xs ≡ at + before
first_in_lanes test xs at n before past found within =
    let fails = λ (x : ℕ). not (test x) in
    elim (cases_lt (prefix_len fails (drop at xs)) n) [
      | inl less ↦ sym (dropped fails xs at past) ∙ ap (λ k. at + k) (sym (found ∙ taken_less fails (drop at xs) n less))
      | inr all ↦ absurd (omega (arith, found, within, taken_all fails (drop at xs) n all))
    ]

pub none_in_lanes : (test : ℕ → Bool) (xs : List ℕ) (at n before : ℕ) → at ≤ position_or_len test xs
    → before ≡ position_or_len test (take n (drop at xs)) → n ≤ before → at + n ≤ position_or_len test xs
none_in_lanes test xs at n before past found all =
    let fails = λ (x : ℕ). not (test x) in
    elim (cases_lt (prefix_len fails (drop at xs)) n) [
      | inl less ↦ absurd (omega (arith, found, all, less, taken_less fails (drop at xs) n less))
      | inr more ↦ omega (arith, more, dropped fails xs at past)
    ]

pub position_here : (test : ℕ → Bool) (xs : List ℕ) (place : ℕ) → position_or_len test xs ≡ place → place < length xs → position test xs ≡ Some place
position_here test xs place here within = grind (arith, nat_tests)

pub position_past : (test : ℕ → Bool) (xs : List ℕ) (n : ℕ) → n ≤ length xs → n ≤ position_or_len test xs → position test (take n xs) ≡ None
position_past test xs n few all =
    let same = taken_all (λ x. not (test x)) xs n all in
    grind (arith, nat_tests, same, length-take n xs)
