-- A session wakes for work, and in time.
use Rattle.std.proofs.Common.{◌≡◌, ◌⊎◌, inl, inr, ℕ, ◌-◌, Bool, true, false, List, [], ◌∷◌, ◌++◌, Option, Some, None, refl, ap, ◌∙◌, arith}
use Rattle.std.specs.Prelude.{◌||◌, fold, min, nat_le}
use Rattle.std.specs.List.{list_any}
use Rattle.std.specs.Option.{option_map}
use Rattle.std.proofs.lemmas.Bool.{le-leb, leb-false, leb-true}
use Rattle.std.proofs.lemmas.Option.{same_Some}
use Rattle.device_session.specs.declared.peer_clock.TheConstants.{LONGEST_WAIT}
use Rattle.device_session.specs.Strangers.{sooner_of}
use Rattle.device_session.specs.Timeout.{KeepsDeadline, KeepsLimits, WakesForWork, first_of, is_at_most, is_over}

-- limits that are over
abbrev over_in : ℕ → List (Option ℕ) → Bool
over_in time limits = list_any (is_over time) limits

or-true : (one : Bool) → one || true ≡ true
or-true true = refl
or-true false = refl

-- the sooner of two is over only if one of them is
one-over : (time : ℕ) (one other : Option ℕ) → is_over time (sooner_of one other) ≡ true → (is_over time one ≡ true) ⊎ (is_over time other ≡ true)
one-over time None other is = inr is
one-over time (Some one) None is = inl is
one-over time (Some one) (Some other) is = by (nat_le one time) refl
  where
    by : (test : Bool) → nat_le one time ≡ test → (nat_le one time ≡ true) ⊎ (nat_le other time ≡ true)
    by true below = inl below
    by false above = inr (le-leb other time (omega (arith, leb-false one time above, leb-true (min one other) time is)))

all-over : (time : ℕ) (first : Option ℕ) (limits : List (Option ℕ)) → is_over time (fold sooner_of first limits) ≡ true
    → (is_over time first ≡ true) ⊎ (over_in time limits ≡ true)
all-over time first [] is = inl is
all-over time first (limit ∷ limits) is = by (all-over time (sooner_of first limit) limits is)
  where
    by : (is_over time (sooner_of first limit) ≡ true) ⊎ (over_in time limits ≡ true)
        → (is_over time first ≡ true) ⊎ (is_over time limit || over_in time limits ≡ true)
    by (inr later) = inr (ap (λ later. is_over time limit || later) later ∙ or-true (is_over time limit))
    by (inl now) = either (one-over time first limit now)
      where
        either : (is_over time first ≡ true) ⊎ (is_over time limit ≡ true)
            → (is_over time first ≡ true) ⊎ (is_over time limit || over_in time limits ≡ true)
        either (inl one) = inl one
        either (inr other) = inr (ap (λ test. test || over_in time limits) other)

none-left : (time : ℕ) (first : Option ℕ) → option_map (λ due. min (due - time) LONGEST_WAIT) first ≡ Some 0 → is_over time first ≡ true
none-left time (Some due) is = le-leb due time (omega (arith, same_Some (min (due - time) LONGEST_WAIT) 0 is))
none-left time None is = cc is

none-of-own : (now : ℕ) (deadline : Option ℕ) → option_map (λ due. due - now) deadline ≡ Some 0 → is_over now deadline ≡ true
none-of-own now (Some due) is = le-leb due now (omega (arith, same_Some (due - now) 0 is))
none-of-own now None is = cc is

one-nothing : (one other : Option ℕ) → sooner_of one other ≡ Some 0 → (one ≡ Some 0) ⊎ (other ≡ Some 0)
one-nothing None other is = inr is
one-nothing (Some one) None is = inl is
one-nothing (Some one) (Some other) is = by (nat_le one other) refl
  where
    by : (test : Bool) → nat_le one other ≡ test → (Some one ≡ Some 0) ⊎ (Some other ≡ Some 0)
    by true below = inl (ap Some (omega (arith, leb-true one other below, same_Some (min one other) 0 is)))
    by false above = inr (ap Some (omega (arith, leb-false one other above, same_Some (min one other) 0 is)))

pub wakes_for_work : WakesForWork
wakes_for_work true limits time deadline now is = inl refl
wakes_for_work false limits time deadline now is =
    either (one-nothing (option_map (λ due. due - now) deadline) (option_map (λ due. min (due - time) LONGEST_WAIT) (first_of limits)) is)
  where
    either : (option_map (λ due. due - now) deadline ≡ Some 0) ⊎ (option_map (λ due. min (due - time) LONGEST_WAIT) (first_of limits) ≡ Some 0)
        → (false ≡ true) ⊎ (is_over now deadline ≡ true) ⊎ (list_any (is_over time) limits ≡ true)
    either (inl own) = inr (inl (none-of-own now deadline own))
    either (inr peers) = inr (some (all-over time None limits (none-left time (first_of limits) peers)))
      where
        some : (false ≡ true) ⊎ (over_in time limits ≡ true) → (is_over now deadline ≡ true) ⊎ (over_in time limits ≡ true)
        some (inl never) = absurd (cc never)
        some (inr over) = inr over

-- in time
sooner-left : (most : ℕ) (one other : Option ℕ) → is_at_most most one ≡ true → is_at_most most (sooner_of one other) ≡ true
sooner-left most (Some one) (Some other) is = le-leb (min one other) most (omega (arith, leb-true one most is))
sooner-left most (Some one) None is = is
sooner-left most None other is = cc is

sooner-right : (most : ℕ) (one other : Option ℕ) → is_at_most most other ≡ true → is_at_most most (sooner_of one other) ≡ true
sooner-right most (Some one) (Some other) is = le-leb (min one other) most (omega (arith, leb-true other most is))
sooner-right most (Some one) None is = cc is
sooner-right most None other is = is

pub keeps_deadline : KeepsDeadline
keeps_deadline true limits time deadline now = le-leb 0 (deadline - now) (omega arith)
keeps_deadline false limits time deadline now =
    sooner-left (deadline - now) (Some (deadline - now)) (option_map (λ due. min (due - time) LONGEST_WAIT) (first_of limits))
    (le-leb (deadline - now) (deadline - now) (omega arith))

first-left : (most : ℕ) (first : Option ℕ) (limits : List (Option ℕ)) → is_at_most most first ≡ true → is_at_most most (fold sooner_of first limits) ≡ true
first-left most first [] is = is
first-left most first (limit ∷ limits) is = first-left most (sooner_of first limit) limits (sooner-left most first limit is)

first-at : (first : Option ℕ) (before : List (Option ℕ)) (limit : ℕ) (after : List (Option ℕ))
    → is_at_most limit (fold sooner_of first (before ++ Some limit ∷ after)) ≡ true
first-at first [] limit after =
    first-left limit (sooner_of first (Some limit)) after (sooner-right limit first (Some limit) (le-leb limit limit (omega arith)))
first-at first (other ∷ before) limit after = first-at (sooner_of first other) before limit after

wait-at-most : (limit time : ℕ) (first : Option ℕ) → is_at_most limit first ≡ true
    → is_at_most (limit - time) (option_map (λ due. min (due - time) LONGEST_WAIT) first) ≡ true
wait-at-most limit time (Some first) is = le-leb (min (first - time) LONGEST_WAIT) (limit - time) (omega (arith, leb-true first limit is))
wait-at-most limit time None is = cc is

pub keeps_limits : KeepsLimits
keeps_limits true before limit after time deadline now = le-leb 0 (limit - time) (omega arith)
keeps_limits false before limit after time deadline now =
    sooner-right (limit - time) (option_map (λ due. due - now) deadline)
    (option_map (λ due. min (due - time) LONGEST_WAIT) (first_of (before ++ Some limit ∷ after)))
    (wait-at-most limit time (first_of (before ++ Some limit ∷ after)) (first-at None before limit after))
