-- The order of the handles of all by type, and where a search by halves may look.
use Rattle.std.proofs.Common.{◌≡◌, ℕ, zero, suc, ◌+◌, ◌<◌, ◌≤◌, Bool, true, false, ◌&&◌, not, cond, if◌then◌else◌, List, [], ◌∷◌, length, take, drop, get_or, refl, sym, ap, ◌∙◌, arith}
use Rattle.std.proofs.lemmas.Bool.Decides.{nat_tests}
use Rattle.std.specs.Prelude.{nat_lt}
use Rattle.std.specs.List.{filter, prefix_len, insert}
use Rattle.att_attributes.specs.TypeIndex.{put, by_type, place_of, is_before, comes_before, AllAfter, IsOrdered, AreAbove, IsAscending, AllAbove}

abbrev pub AllFail : (ℕ → Bool) → List ℕ → Type 0
AllFail test [] = Unit
AllFail test (x ∷ xs) = (test x ≡ false) × AllFail test xs

-- the order on numbers
type_later : (kx x ky y k : ℕ) → nat_lt kx k ≡ false → is_before kx x ky y ≡ true → nat_lt ky k ≡ false
type_later kx x ky y k fails passes = grind (arith, nat_tests)

before_more : (kx x ky y kz z : ℕ) → nat_lt kx kz ≡ false → z < y → is_before kx x ky y ≡ true → z < x → is_before kz z ky y ≡ true
before_more kx x ky y kz z fails above passes first = grind (arith, nat_tests)

before_above : (kx x kz z : ℕ) → nat_lt kx kz ≡ false → z < x → is_before kz z kx x ≡ true
before_above kx x kz z fails above = grind (arith, nat_tests)

before_kind : (kx x kz z : ℕ) → nat_lt kx kz ≡ true → is_before kx x kz z ≡ true
before_kind kx x kz z passes = grind (arith, nat_tests)

-- what a handle is put into stays in order
after_put : (kind : ℕ → ℕ) (x h : ℕ) (ys : List ℕ) → comes_before kind x h ≡ true → AllAfter kind x ys → AllAfter kind x (put kind h ys)
after_put kind x h [] first after = (first, tt)
after_put kind x h (y ∷ ys) first after = elim (nat_lt (kind y) (kind h)) as
    (λ below. AllAfter kind x (if below then y ∷ put kind h ys else h ∷ y ∷ ys)) [
      | true ↦ (after.0, after_put kind x h ys first after.1)
      | false ↦ (first, after)
    ]

after_more : (kind : ℕ → ℕ) (x h last : ℕ) (ys : List ℕ) → nat_lt (kind x) (kind h) ≡ false → h < x → AllAfter kind x ys → AllAbove h last ys
    → AllAfter kind h ys
after_more kind x h last [] fails first after above = tt
after_more kind x h last (y ∷ ys) fails first after above =
    (before_more (kind x) x (kind y) y (kind h) h fails above.0 after.0 first, after_more kind x h last ys fails first after.1 above.2)

pub ordered_put : (kind : ℕ → ℕ) (h last : ℕ) (xs : List ℕ) → AllAbove h last xs → IsOrdered kind xs → IsOrdered kind (put kind h xs)
ordered_put kind h last [] above ordered = (tt, tt)
ordered_put kind h last (x ∷ xs) above ordered =
    let goal : (below : Bool) → nat_lt (kind x) (kind h) ≡ below → IsOrdered kind (if below then x ∷ put kind h xs else h ∷ x ∷ xs) =
    λ below. elim below as (λ b. nat_lt (kind x) (kind h) ≡ b → IsOrdered kind (if b then x ∷ put kind h xs else h ∷ x ∷ xs)) [
      | true ↦ λ passes. (after_put kind x h xs (before_kind (kind x) x (kind h) h passes) ordered.0, ordered_put kind h last xs above.2 ordered.1)
      | false ↦ λ fails. ((before_above (kind x) x (kind h) h fails above.0, after_more kind x h last xs fails above.0 ordered.0 above.2), ordered)
    ] in
    goal (nat_lt (kind x) (kind h)) refl

pub above_put : (kind : ℕ → ℕ) (low h last : ℕ) (xs : List ℕ) → low < h → h ≤ last → AllAbove low last xs → AllAbove low last (put kind h xs)
above_put kind low h last [] first most above = (first, most, tt)
above_put kind low h last (x ∷ xs) first most above = elim (nat_lt (kind x) (kind h)) as
    (λ below. AllAbove low last (if below then x ∷ put kind h xs else h ∷ x ∷ xs)) [
      | true ↦ (above.0, above.1, above_put kind low h last xs first most above.2)
      | false ↦ (first, most, above)
    ]

length_put : (kind : ℕ → ℕ) (h : ℕ) (xs : List ℕ) → length (put kind h xs) ≡ suc (length xs)
length_put kind h [] = refl
length_put kind h (x ∷ xs) = elim (nat_lt (kind x) (kind h)) as
    (λ below. length (if below then x ∷ put kind h xs else h ∷ x ∷ xs) ≡ suc (length (x ∷ xs))) [
      | true ↦ ap suc (length_put kind h xs)
      | false ↦ refl
    ]

pub length_by_kind : (kind : ℕ → ℕ) (xs : List ℕ) → length (by_type kind xs) ≡ length xs
length_by_kind kind [] = refl
length_by_kind kind (x ∷ xs) = length_put kind x (by_type kind xs) ∙ ap suc (length_by_kind kind xs)

-- a handle is put where its type begins
pub prefix_cons : (test : ℕ → Bool) (x : ℕ) (xs : List ℕ) → prefix_len test (x ∷ xs) ≡ cond (test x) (suc (prefix_len test xs)) 0
prefix_cons test x xs =
    let one : 1 + prefix_len test xs ≡ suc (prefix_len test xs) = omega arith in
    ap (λ n. cond (test x) n 0) one

pub put_inserts : (kind : ℕ → ℕ) (h : ℕ) (xs : List ℕ) → insert xs (place_of kind xs (kind h)) h ≡ put kind h xs
put_inserts kind h [] = refl
put_inserts kind h (x ∷ xs) =
    let count = place_of kind xs (kind h) in
    ap (λ n. insert (x ∷ xs) n h) (prefix_cons (λ handle. nat_lt (kind handle) (kind h)) x xs)
    ∙ elim (nat_lt (kind x) (kind h)) as (λ below. insert (x ∷ xs) (cond below (suc count) 0) h ≡ (if below then x ∷ put kind h xs else h ∷ x ∷ xs)) [
      | true ↦ ap (λ l. x ∷ l) (put_inserts kind h xs)
      | false ↦ refl
    ]

-- those of one type stay as they were
filter_put : (kind : ℕ → ℕ) (k h : ℕ) (test : ℕ → Bool) (xs : List ℕ) → ((x : ℕ) → test x ≡ true → kind x ≡ k)
    → filter test (put kind h xs) ≡ filter test (h ∷ xs)
filter_put kind k h test [] of_kind = refl
filter_put kind k h test (x ∷ xs) of_kind =
    grind (arith, nat_tests, filter_put kind k h test xs of_kind, of_kind x, of_kind h)

pub filter_by_kind : (kind : ℕ → ℕ) (k : ℕ) (test : ℕ → Bool) (xs : List ℕ) → ((x : ℕ) → test x ≡ true → kind x ≡ k)
    → filter test (by_type kind xs) ≡ filter test xs
filter_by_kind kind k test [] of_kind = refl
filter_by_kind kind k test (x ∷ xs) of_kind =
    filter_put kind k x test (by_type kind xs) of_kind
    ∙ ap (λ l. cond (test x) (x ∷ l) l) (filter_by_kind kind k test xs of_kind)

-- where a search by halves may look
later_fail : (kind : ℕ → ℕ) (x k : ℕ) (xs : List ℕ) → nat_lt (kind x) k ≡ false → AllAfter kind x xs → AllFail (λ y. nat_lt (kind y) k) xs
later_fail kind x k [] fails after = tt
later_fail kind x k (y ∷ ys) fails after = (type_later (kind x) x (kind y) y k fails after.0, later_fail kind x k ys fails after.1)

abbrev pub IsClosed : (ℕ → Bool) → List ℕ → Type 0
IsClosed test [] = Unit
IsClosed test (x ∷ xs) = (test x ≡ false → AllFail test xs) × IsClosed test xs

pub closed : (kind : ℕ → ℕ) (k : ℕ) (xs : List ℕ) → IsOrdered kind xs → IsClosed (λ y. nat_lt (kind y) k) xs
closed kind k [] ordered = tt
closed kind k (x ∷ xs) ordered = (λ fails. later_fail kind x k xs fails ordered.0, closed kind k xs ordered.1)

-- the same among ascending handles
above_fail : (x h : ℕ) (xs : List ℕ) → nat_lt x h ≡ false → AreAbove x xs → AllFail (λ y. nat_lt y h) xs
above_fail x h [] fails above = tt
above_fail x h (y ∷ ys) fails above = (grind (arith, nat_tests, above.0), above_fail x h ys fails above.1)

pub closed_ascending : (h : ℕ) (xs : List ℕ) → IsAscending xs → IsClosed (λ y. nat_lt y h) xs
closed_ascending h [] ascending = tt
closed_ascending h (x ∷ xs) ascending = (λ fails. above_fail x h xs fails ascending.0, closed_ascending h xs ascending.1)

fail_at : (test : ℕ → Bool) (xs : List ℕ) (i d : ℕ) → AllFail test xs → i < length xs → test (get_or xs i d) ≡ false
fail_at test [] i d fail within = absurd (omega arith)
fail_at test (x ∷ xs) zero d fail within = fail.0
fail_at test (x ∷ xs) (suc i) d fail within = fail_at test xs i d fail.1 (omega arith)

pub place_below : (test : ℕ → Bool) (xs : List ℕ) (i d : ℕ) → IsClosed test xs → i < length xs → test (get_or xs i d) ≡ true → i < prefix_len test xs
place_below test [] i d parts within passes = absurd (omega arith)
place_below test (x ∷ xs) zero d parts within passes = rw passes (omega arith)
place_below test (x ∷ xs) (suc i) d parts within passes =
    let goal : (b : Bool) → test x ≡ b → suc i < cond b (1 + prefix_len test xs) 0 =
    λ b. elim b as (λ b. test x ≡ b → suc i < cond b (1 + prefix_len test xs) 0) [
      | true ↦ λ here. let rest = place_below test xs i d parts.1 (omega arith) passes in omega (arith, rest)
      | false ↦ λ fails. let never = fail_at test xs i d (parts.0 fails) (omega arith) in absurd (cc)
    ] in
    goal (test x) refl

pub place_at : (test : ℕ → Bool) (xs : List ℕ) (i d : ℕ) → i < length xs → test (get_or xs i d) ≡ false → prefix_len test xs ≤ i
place_at test [] i d within fails = absurd (omega arith)
place_at test (x ∷ xs) zero d within fails = rw fails (omega arith)
place_at test (x ∷ xs) (suc i) d within fails =
    let rest = place_at test xs i d (omega arith) fails in
    elim (test x) as (λ b. cond b (1 + prefix_len test xs) 0 ≤ suc i) [
      | true ↦ omega (arith, rest)
      | false ↦ omega arith
    ]

pub place_within : (test : ℕ → Bool) (xs : List ℕ) → prefix_len test xs ≤ length xs
place_within test [] = omega arith
place_within test (x ∷ xs) =
    let rest = place_within test xs in
    elim (test x) as (λ b. cond b (1 + prefix_len test xs) 0 ≤ length (x ∷ xs)) [
      | true ↦ omega (arith, rest)
      | false ↦ omega arith
    ]

-- what stands between two places
abbrev pub is_between : (ℕ → Bool) → (ℕ → Bool) → ℕ → Bool
is_between from to x = not (from x) && to x

filter_none : (from to : ℕ → Bool) (xs : List ℕ) → AllFail to xs → filter (is_between from to) xs ≡ []
filter_none from to [] fail = refl
filter_none from to (x ∷ xs) fail = grind (arith, nat_tests, fail.0, filter_none from to xs fail.1)

none_before : (from : ℕ → Bool) (xs : List ℕ) → AllFail from xs → prefix_len from xs ≡ 0
none_before from [] fail = refl
none_before from (x ∷ xs) fail = rw fail.0 refl

pub between : (from to : ℕ → Bool) (xs : List ℕ) → IsClosed from xs → IsClosed to xs
    → drop (prefix_len from xs) (take (prefix_len to xs) xs) ≡ filter (is_between from to) xs
between from to [] from_parts to_parts = refl
between from to (x ∷ xs) from_parts to_parts =
    let rest : drop (prefix_len from xs) (take (prefix_len to xs) xs) ≡ filter (is_between from to) xs = between from to xs from_parts.1 to_parts.1 in
    let goal : (a b : Bool) → from x ≡ a → to x ≡ b
    → drop (cond a (suc (prefix_len from xs)) 0) (take (cond b (suc (prefix_len to xs)) 0) (x ∷ xs))
    ≡ cond (not a && b) (x ∷ filter (is_between from to) xs) (filter (is_between from to) xs) =
    λ a b. elim a as (λ a. from x ≡ a → to x ≡ b
    → drop (cond a (suc (prefix_len from xs)) 0) (take (cond b (suc (prefix_len to xs)) 0) (x ∷ xs))
    ≡ cond (not a && b) (x ∷ filter (is_between from to) xs) (filter (is_between from to) xs)) [
      | true ↦ elim b as (λ b. from x ≡ true → to x ≡ b
          → drop (suc (prefix_len from xs)) (take (cond b (suc (prefix_len to xs)) 0) (x ∷ xs)) ≡ filter (is_between from to) xs) [
            | true ↦ λ passed kept. rest
            | false ↦ λ passed out. sym (filter_none from to xs (to_parts.0 out))
          ]
      | false ↦ elim b as (λ b. from x ≡ false → to x ≡ b
          → take (cond b (suc (prefix_len to xs)) 0) (x ∷ xs) ≡ cond b (x ∷ filter (is_between from to) xs) (filter (is_between from to) xs)) [
            | true ↦ λ begun kept. ap (λ l. x ∷ l) (ap (λ n. drop n (take (prefix_len to xs) xs)) (sym (none_before from xs (from_parts.0 begun))) ∙ rest)
            | false ↦ λ begun out. sym (filter_none from to xs (to_parts.0 out))
          ]
    ] in
    ap (λ n. drop n (take (prefix_len to (x ∷ xs)) (x ∷ xs))) (prefix_cons from x xs)
    ∙ ap (λ n. drop (cond (from x) (suc (prefix_len from xs)) 0) (take n (x ∷ xs))) (prefix_cons to x xs)
    ∙ goal (from x) (to x) refl refl
